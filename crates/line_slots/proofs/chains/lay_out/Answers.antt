use Rattle.std.proofs.Common.{◌<◌, length, arith}
use Rattle.std.proofs.lemmas.List.{length-map}
use Rattle.std.proofs.lemmas.Option.{slice_get-get_or}
use Rattle.line_slots.specs.declared.chains.Link.{Link}
use Rattle.line_slots.specs.ChainLinks.{first_in}
use Rattle.line_slots.proofs.Laying.{heads_none, heads_on, heads_past}
use Rattle.line_slots.proofs.chains.lay_out.Goals as goal
use Rattle.line_slots.proofs.chains.lay_out.Goals.{then-link, else-link}

abbrev absent : Link
absent = record { next = 0; key = 0 }

pub loop-slot-init : goal.loop-slot-init
loop-slot-init c = heads_none c.args.links.now c.args.bits c.args.heads.now c.requires.few c.requires.heads

pub loop-slot-preserved : goal.loop-slot-preserved
loop-slot-preserved c =
    let inside : c.loop-slot.slot < length c.loop-slot.links = let a = c.loop-slot.invariant.laid.size in omega (arith, a) in
    let read = slice_get-get_or c.loop-slot.links c.loop-slot.slot absent inside in
    elim c.if-link.branch [
      | then-link w ↦
          let low : w.chain_number-number.result < length c.loop-slot.heads = let a = c.loop-slot.invariant.laid.count in let b = w.chain_number-number.ensures.below in let d = length-map c.loop-slot.heads first_in in omega (arith, a, b, d) in
          let head = slice_get-get_or c.loop-slot.heads w.chain_number-number.result 0 low in
          rw (w.heads-is, w.links-is) (heads_on _ _ _ _ _ _ c.loop-slot.invariant read _ _ _ _ w.if-link.true w.chain_number-number.ensures.number head
          w.first_of.ensures w.with_front.ensures.first w.with_front.ensures.own w.with_front.ensures.others)
      | else-link w ↦ rw (w.heads-is, w.links-is) (heads_past _ _ _ _ _ _ c.loop-slot.invariant read w.if-link.false)
    ]

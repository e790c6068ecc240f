use Rattle.std.proofs.Common.{rules, ◌∙◌, arith}
use Rattle.line_store.proofs.Searching.{fewer_behind, line_here, passes_key, passes_line, search_begins, search_ends, search_found, slot_here}
use Rattle.line_store.proofs.search.find_line.Goals as goal
use Rattle.line_store.proofs.search.find_line.Goals.{else-key-via-then-key+else-same, else-key-via-else-key}

pub loop-next-init : goal.loop-next-init
loop-next-init g c = search_begins c.args.index.now.bits c.args.index.now.chains c.args.index.now.kept c.args.slots.now c.args.key c.args.line.now c.first-next.result c.args.steps.now c.first-next.ensures

pub key-requires : goal.key-requires
key-requires g c = (_, slot_here c.args.index.now.bits c.args.index.now.chains c.args.index.now.kept c.args.slots.now c.args.key c.args.line.now c.loop-next.next c.args.steps.now c.loop-next.steps c.loop-next.invariant c.in-Some.slot c.in-Some.is)

pub same-requires : goal.same-requires
same-requires g c = let wide = c.requires.wide in (omega arith, (search rules, line_here c.args.index.now.bits c.args.index.now.chains c.args.index.now.kept c.args.slots.now c.args.key c.args.line.now c.loop-next.next c.args.steps.now c.loop-next.steps c.loop-next.invariant c.in-Some.slot c.in-Some.is c.requires.lines))

pub returns-then-same : goal.returns-then-same
returns-then-same g c = search_found c.args.index.now.bits c.args.index.now.chains c.args.index.now.kept c.args.slots.now c.args.key c.args.line.now c.loop-next.next c.args.steps.now c.loop-next.steps c.loop-next.invariant c.in-Some.slot c.in-Some.is c.key.result c.key.ensures c.same.new.steps c.if-key.true (c.same.ensures.same.0 c.if-same.true) c.same.ensures.one_look

pub next-next-requires : goal.next-next-requires
next-next-requires g c = (_, slot_here c.args.index.now.bits c.args.index.now.chains c.args.index.now.kept c.args.slots.now c.args.key c.args.line.now c.loop-next.next c.args.steps.now c.loop-next.steps c.loop-next.invariant c.in-Some.slot c.in-Some.is)

pub loop-next-smaller : goal.loop-next-smaller
loop-next-smaller g c = fewer_behind c.args.index.now.bits c.args.index.now.chains c.args.index.now.kept c.args.slots.now c.args.key c.args.line.now c.loop-next.next c.args.steps.now c.loop-next.steps c.loop-next.invariant c.in-Some.slot c.in-Some.is c.key.result c.key.ensures c.next-next.result c.next-next.ensures

pub loop-next-preserved : goal.loop-next-preserved
loop-next-preserved g c = elim c.else-key.branch [
  | else-key-via-then-key+else-same w ↦ passes_line c.args.index.now.bits c.args.index.now.chains c.args.index.now.kept c.args.slots.now c.args.key c.args.line.now c.loop-next.next c.args.steps.now c.loop-next.steps c.loop-next.invariant c.in-Some.slot c.in-Some.is c.key.result c.key.ensures c.next-next.result c.next-next.ensures c.else-key.steps w.same.result w.if-key.true w.if-same.false w.same.ensures.same.1 (w.steps-is ∙ w.same.ensures.one_look)
  | else-key-via-else-key w ↦ passes_key c.args.index.now.bits c.args.index.now.chains c.args.index.now.kept c.args.slots.now c.args.key c.args.line.now c.loop-next.next c.args.steps.now c.loop-next.steps c.loop-next.invariant c.in-Some.slot c.in-Some.is c.key.result c.key.ensures c.next-next.result c.next-next.ensures c.else-key.steps w.if-key.false w.steps-is
]

pub returns : goal.returns
returns g c = search_ends c.args.index.now.bits c.args.index.now.chains c.args.index.now.kept c.args.slots.now c.args.key c.args.line.now c.loop-next.next c.args.steps.now c.loop-next.steps c.in_default.is c.loop-next.invariant

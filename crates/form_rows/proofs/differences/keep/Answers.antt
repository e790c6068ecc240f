use Rattle.std.proofs.Common.{ℕ, ◌+◌, ◌*◌, ◌^◌, ◌∙◌, ap, arith, rules}
use Rattle.hic_word.specs.declared.Kind.TheVariants.{Node, RefNode}
use Rattle.hic_word.specs.declared.Word.{Word}
use Rattle.hic_word.specs.Stands.{word_of}
use Rattle.hic_word.proofs.callers.Holds.{interned_counts}
use Rattle.seg_changes.proofs.Examples.{ends_covered, far_kept, far_root}
use Rattle.form_rows.proofs.differences.keep.Goals as goal

pub intern-requires : goal.intern-requires
intern-requires g c =
    let m = g.M.HoldCounts.memory c.args.mem.now in
    (omega arith, (c.requires.no_dead, (search rules, λ id there. let none = c.requires.none id in omega arith)))

pub intern-requires-2 : goal.intern-requires-2
intern-requires-2 g c = (
  omega arith,
  (
    search rules,
    (
      search rules,
      λ id there.
          let first = interned_counts (g.M.HoldCounts.memory c.args.mem.now) (g.M.HoldCounts.memory c.intern.new.self) _ c.in_ok-first.first c.in_ok-first.ensures.interned id in
          let none = c.requires.none id in
          omega (arith, first, none),
    ),
  ),
)

pub intern-requires-3 : goal.intern-requires-3
intern-requires-3 g c =
    let path = c.node-first.ensures ∙ ap (λ (n : ℕ). word_of Node 0 (n + 2 ^ 24 * 0 + 2 ^ 59 * 13)) c.get.ensures.value in
    let path_too = c.node-last.ensures ∙ ap (λ (n : ℕ). word_of Node 0 (n + 2 ^ 24 * 67108863 + 2 ^ 59 * 13)) c.get-2.ensures.value in
    let names = ends_covered c.in_ok-first.first c.in_ok-last.last (g.M.HoldCounts.memory c.args.mem.now) (g.M.HoldCounts.memory c.intern.new.self) (g.M.HoldCounts.memory c.intern-2.new.self) (g.met.M.LineMem.sound c.intern-2.new.self) c.requires.no_dead c.in_ok-first.ensures.interned c.in_ok-last.ensures.interned
    c.pack.ensures c.pack-2.ensures c.num-zero.ensures.value path path_too in (
      omega arith,
      (
        search rules,
        (
          names,
          λ id there.
              let first = interned_counts (g.M.HoldCounts.memory c.args.mem.now) (g.M.HoldCounts.memory c.intern.new.self) _ c.in_ok-first.first c.in_ok-first.ensures.interned id in
              let last = interned_counts (g.M.HoldCounts.memory c.intern.new.self) (g.M.HoldCounts.memory c.intern-2.new.self) _ c.in_ok-last.last c.in_ok-last.ensures.interned id in
              let none = c.requires.none id in
              omega (arith, first, last, none),
        ),
      ),
    )

pub returns : goal.returns
returns g c =
    let path = c.node-first.ensures ∙ ap (λ (n : ℕ). word_of Node 0 (n + 2 ^ 24 * 0 + 2 ^ 59 * 13)) c.get.ensures.value in
    let path_too = c.node-last.ensures ∙ ap (λ (n : ℕ). word_of Node 0 (n + 2 ^ 24 * 67108863 + 2 ^ 59 * 13)) c.get-2.ensures.value in
    let lines = far_kept (g.M.HoldCounts.memory c.args.mem.now) (g.M.HoldCounts.memory c.intern.new.self) (g.M.HoldCounts.memory c.intern-2.new.self) (g.M.HoldCounts.memory c.intern-3.new.self) (g.met.M.LineMem.sound c.intern-3.new.self) c.in_ok-first.ensures.interned c.in_ok-last.ensures.interned c.in_ok-id.ensures.interned
    c.pack.ensures c.pack-2.ensures c.num-zero.ensures.value path path_too in
    let bits = ap (λ (w : Word). w.bits) c.node.ensures ∙ ap (λ (n : ℕ). n + 2 ^ 24 * 0 + 2 ^ 59 * 0) c.get-3.ensures.value in
    record { stands = far_root _ lines (ap (word_of RefNode 16) bits) }

use Rattle.std.proofs.Common.{sym, ◌∙◌, subst, IsSome, rules}
use Rattle.std.specs.FinMap as map
use Rattle.line_mem.specs.Places.{counts_of}
use Rattle.line_mem.specs.PlacesSound.{keys-slots}
use Rattle.line_mem.proofs.flat_store.FlatStoreHoldCounts.count.Goals as goal

pub count_here-requires : goal.count_here-requires
count_here-requires g c = (
  search rules,
  (
    c.args.self.now.wide,
    subst (λ ss. IsSome (map.get (counts_of ss) c.get.result)) (sym c.deref.ensures.value)
        (subst (λ k. IsSome (map.get (counts_of c.args.self.now.slots.items) k)) (sym c.get.ensures.value)
        (sym (keys-slots c.args.self.now.slots.items c.args.id) ∙ c.requires)),
  ),
)

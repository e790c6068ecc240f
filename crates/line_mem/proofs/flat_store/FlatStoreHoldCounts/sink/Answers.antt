use Rattle.std.proofs.Common.{◌≡◌, ◌+◌, ◌++◌, ◌∷◌, [], sym, ◌∙◌, ap, subst, arith, length}
use Rattle.std.specs.Prelude.{count_by, ◌==◌, vec_capacity, ◌<◌}
use Rattle.std.proofs.lemmas.List.Sums.{count_by-le-length}
use Rattle.hic_word.specs.Stands.{Unique}
use Rattle.line_mem.specs.Places.{dead_at, line_of, is_dead, is_taken}
use Rattle.line_mem.proofs.StoreSteps.{chosen, whole, sink_same, sink_same_count, sink_last, sink_last_count}
use Rattle.line_mem.proofs.OneLine.{unique_kept}
use Rattle.line_mem.proofs.flat_store.FlatStoreHoldCounts.sink.Goals as goal

pub invariant_of-self-clause-dead_each : goal.invariant_of-self-clause-dead_each
invariant_of-self-clause-dead_each g c =
    let len : length c.set_count.new.slots ≡ length c.args.self.now.slots.items = omega (arith, ap length c.deref_mut.ensures.value) in
    let same = whole c.args.self.now.slots.len c.set_count.new.slots c.args.self.now.slots.items c.args.self.now.slots.ok.0 len in
    let one = c.if-count-eq1.true in
    let more = sink_last_count c.args.self.now.slots.items c.deref_mut.result.now c.set_count.new.slots c.args.id c.get-at.result c.count_here-count.result c.deref_mut.ensures.value c.get-at.ensures.value c.requires one c.set_count.ensures.dead in
    let within = count_by-le-length is_dead c.set_count.new.slots in
    let fits : c.args.self.now.dead.len < vec_capacity c.args.self.now.dead = omega (arith, more, within, len, c.args.self.now.dead_count, c.args.self.now.room, c.args.self.now.slots.ok.0) in
    let good = c.push.ensures.succeeds fits in
    let pushed : c.push.new.self.items ≡ c.args.self.now.dead.items ++ c.get.result ∷ [] = chosen _ _ _ _ good c.push.ensures.items in
    λ q. ap (λ ns. count_by (λ x. x == q) ns) pushed ∙ sink_last c.args.self.now.slots.items c.deref.result.now c.deref_mut.result.now c.set_count.new.slots c.args.id c.get-at.result c.count_here-count.result c.get.result c.args.self.now.dead.items c.deref.ensures.value c.deref_mut.ensures.value c.get-at.ensures.value c.get.ensures.value c.count_here-count.ensures one c.set_count.ensures.counts c.args.self.now.dead_each q ∙ ap (λ ss. dead_at ss q) (sym same)

pub invariant_of-self-clause-unique : goal.invariant_of-self-clause-unique
invariant_of-self-clause-unique g c =
    let len : length c.set_count.new.slots ≡ length c.args.self.now.slots.items = omega (arith, ap length c.deref_mut.ensures.value) in
    let same = whole c.args.self.now.slots.len c.set_count.new.slots c.args.self.now.slots.items c.args.self.now.slots.ok.0 len in
    subst (λ ss. Unique (line_of ss)) (sym same) (unique_kept c.args.self.now.slots.items c.deref_mut.result.now c.set_count.new.slots c.deref_mut.ensures.value c.set_count.ensures.lines c.args.self.now.unique)

pub invariant_of-self-clause-live_count : goal.invariant_of-self-clause-live_count
invariant_of-self-clause-live_count g c =
    let len : length c.set_count.new.slots ≡ length c.args.self.now.slots.items = omega (arith, ap length c.deref_mut.ensures.value) in
    let same = whole c.args.self.now.slots.len c.set_count.new.slots c.args.self.now.slots.items c.args.self.now.slots.ok.0 len in
    c.args.self.now.live_count ∙ sym (ap (count_by is_taken) same ∙ c.set_count.ensures.taken ∙ ap (count_by is_taken) c.deref_mut.ensures.value)

pub invariant_of-self-clause-dead_count : goal.invariant_of-self-clause-dead_count
invariant_of-self-clause-dead_count g c =
    let len : length c.set_count.new.slots ≡ length c.args.self.now.slots.items = omega (arith, ap length c.deref_mut.ensures.value) in
    let same = whole c.args.self.now.slots.len c.set_count.new.slots c.args.self.now.slots.items c.args.self.now.slots.ok.0 len in
    let one = c.if-count-eq1.true in
    let more = sink_last_count c.args.self.now.slots.items c.deref_mut.result.now c.set_count.new.slots c.args.id c.get-at.result c.count_here-count.result c.deref_mut.ensures.value c.get-at.ensures.value c.requires one c.set_count.ensures.dead in
    let within = count_by-le-length is_dead c.set_count.new.slots in
    let fits : c.args.self.now.dead.len < vec_capacity c.args.self.now.dead = omega (arith, more, within, len, c.args.self.now.dead_count, c.args.self.now.room, c.args.self.now.slots.ok.0) in
    let good = c.push.ensures.succeeds fits in
    let longer : c.push.new.self.len ≡ c.args.self.now.dead.len + 1 = chosen _ _ _ _ good c.push.ensures.len in
    longer ∙ ap (λ n. n + 1) c.args.self.now.dead_count ∙ sym more ∙ ap (count_by is_dead) (sym same)

pub invariant_of-self-else-count-eq1-clause-dead_each : goal.invariant_of-self-else-count-eq1-clause-dead_each
invariant_of-self-else-count-eq1-clause-dead_each g c =
    let len : length c.set_count.new.slots ≡ length c.args.self.now.slots.items = omega (arith, ap length c.deref_mut.ensures.value) in
    let same = whole c.args.self.now.slots.len c.set_count.new.slots c.args.self.now.slots.items c.args.self.now.slots.ok.0 len in
    λ q. c.args.self.now.dead_each q ∙ sym (sink_same c.args.self.now.slots.items c.deref.result.now c.deref_mut.result.now c.set_count.new.slots c.args.id c.get-at.result c.count_here-count.result c.deref.ensures.value c.deref_mut.ensures.value c.get-at.ensures.value c.count_here-count.ensures c.requires c.if-count-eq1.false c.set_count.ensures.counts q) ∙ ap (λ ss. dead_at ss q) (sym same)

pub invariant_of-self-else-count-eq1-clause-unique : goal.invariant_of-self-else-count-eq1-clause-unique
invariant_of-self-else-count-eq1-clause-unique g c =
    let len : length c.set_count.new.slots ≡ length c.args.self.now.slots.items = omega (arith, ap length c.deref_mut.ensures.value) in
    let same = whole c.args.self.now.slots.len c.set_count.new.slots c.args.self.now.slots.items c.args.self.now.slots.ok.0 len in
    subst (λ ss. Unique (line_of ss)) (sym same) (unique_kept c.args.self.now.slots.items c.deref_mut.result.now c.set_count.new.slots c.deref_mut.ensures.value c.set_count.ensures.lines c.args.self.now.unique)

pub invariant_of-self-else-count-eq1-clause-live_count : goal.invariant_of-self-else-count-eq1-clause-live_count
invariant_of-self-else-count-eq1-clause-live_count g c =
    let len : length c.set_count.new.slots ≡ length c.args.self.now.slots.items = omega (arith, ap length c.deref_mut.ensures.value) in
    let same = whole c.args.self.now.slots.len c.set_count.new.slots c.args.self.now.slots.items c.args.self.now.slots.ok.0 len in
    c.args.self.now.live_count ∙ sym (ap (count_by is_taken) same ∙ c.set_count.ensures.taken ∙ ap (count_by is_taken) c.deref_mut.ensures.value)

pub invariant_of-self-else-count-eq1-clause-dead_count : goal.invariant_of-self-else-count-eq1-clause-dead_count
invariant_of-self-else-count-eq1-clause-dead_count g c =
    let len : length c.set_count.new.slots ≡ length c.args.self.now.slots.items = omega (arith, ap length c.deref_mut.ensures.value) in
    let same = whole c.args.self.now.slots.len c.set_count.new.slots c.args.self.now.slots.items c.args.self.now.slots.ok.0 len in
    c.args.self.now.dead_count ∙ sink_same_count c.args.self.now.slots.items c.deref.result.now c.deref_mut.result.now c.set_count.new.slots c.args.id c.get-at.result c.count_here-count.result c.deref.ensures.value c.deref_mut.ensures.value c.get-at.ensures.value c.count_here-count.ensures c.requires c.if-count-eq1.false c.set_count.ensures.dead ∙ ap (count_by is_dead) (sym same)

use Rattle.std.proofs.Common.{◌≡◌, ◌+◌, ◌∙◌, ap, get_or, min, set, refl, ⊎_elim, ◌^◌, arith}
use Rattle.std.proofs.Math.Seq.{lt-length-set}
use Rattle.std.proofs.lemmas.Bool.{cases_lt}
use Rattle.std.proofs.lemmas.List.Elements.{All-set}
use Rattle.std.proofs.lemmas.Grind.{get_or-set_at}
use Rattle.task_sched.specs.declared.item.Item.{Item}
use Rattle.task_sched.specs.InRow.{front_count}
use Rattle.task_sched.specs.Items.{IsLeft, entries_from}
use Rattle.task_sched.specs.Limits.{most_count}
use Rattle.task_sched.proofs.Entries.{front_count-last, front_count-next, front_count-most, entries_from-join}
use Rattle.task_sched.proofs.schedule.join_items.Goals as goal

pub returns-in_default-clause-count : goal.returns-in_default-clause-count
returns-in_default-clause-count c =
    let none : Item = record { task = 0; count = 0 } in
    let task = (get_or c.args.items.now c.args.place.now none).task in
    let at = c.loop-place.invariant in
    let next : get_or c.loop-place.items (c.loop-place.place + 1) none ≡ record { task = task; count = (get_or c.loop-place.items (c.loop-place.place + 1) none).count } = ap (λ t. record { task = t; count = (get_or c.loop-place.items (c.loop-place.place + 1) none).count }) c.if-items-place.true in
    front_count-most c.loop-place.items c.loop-place.place task c.loop-place.count _ none c.loop-place-test.true (at.item none) next (⊎_elim (λ below. absurd (c.in_default.ensures below)) (λ above. above) (cases_lt _ (2 ^ 64)))
    ∙ ap (λ es. min most_count (front_count task es)) at.entries

pub loop-place-preserved : goal.loop-place-preserved
loop-place-preserved c =
    let none : Item = record { task = 0; count = 0 } in
    let task = (get_or c.args.items.now c.args.place.now none).task in
    let at = c.loop-place.invariant in
    let within = c.loop-place-test.true in
    let place = c.loop-place.place + 1 in
    let more = (get_or c.loop-place.items place none).count in
    let next : get_or c.loop-place.items place none ≡ record { task = task; count = more } = ap (λ t. record { task = t; count = more }) c.if-items-place.true in
    let joined : c.in-Some.joined ≡ c.loop-place.count + more = c.in-Some.ensures.1 in
    let left = at.left place none within in
    record {
      here = lt-length-set c.loop-place.items place _ within;
      left = All-set IsLeft c.loop-place.items place _ (left.0, omega (arith, joined, left.1)) at.left;
      some = omega (arith, joined, left.1);
      few = omega (arith, joined, c.in-Some.ensures.0);
      item = λ other. get_or-set_at c.loop-place.items place place _ other refl within ∙ ap (λ t. record { task = t; count = c.in-Some.joined }) c.if-items-place.true;
      entries =
          ap (λ t. entries_from place (set c.loop-place.items place (record { task = t; count = c.in-Some.joined }))) c.if-items-place.true
          ∙ ap (λ n. entries_from place (set c.loop-place.items place (record { task = task; count = n }))) joined
          ∙ entries_from-join c.loop-place.items c.loop-place.place task c.loop-place.count more none within (at.item none) next
          ∙ at.entries;
    }

pub returns-else-items-place-clause-count : goal.returns-else-items-place-clause-count
returns-else-items-place-clause-count c =
    let none : Item = record { task = 0; count = 0 } in
    let task = (get_or c.args.items.now c.args.place.now none).task in
    let at = c.loop-place.invariant in
    let left = at.left (c.loop-place.place + 1) none c.loop-place-test.true in
    front_count-next c.loop-place.items c.loop-place.place task c.loop-place.count none c.loop-place-test.true (at.item none) at.few left.1 c.if-items-place.false
    ∙ ap (λ es. min most_count (front_count task es)) at.entries

pub returns-after-loop-place-clause-count : goal.returns-after-loop-place-clause-count
returns-after-loop-place-clause-count c =
    let none : Item = record { task = 0; count = 0 } in
    let task = (get_or c.args.items.now c.args.place.now none).task in
    let at = c.loop-place.invariant in
    front_count-last c.loop-place.items c.loop-place.place task c.loop-place.count none at.here (at.item none) at.few c.loop-place-test.false
    ∙ ap (λ es. min most_count (front_count task es)) at.entries

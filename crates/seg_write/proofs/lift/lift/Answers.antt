use Rattle.std.proofs.Common.{◌≡◌, ◌+◌, ◌-◌, ◌*◌, ◌/◌, ◌%◌, ◌<◌, [], ◌∷◌, ◌++◌, ap, refl, subst, sym, ◌∙◌, inl, arith}
use Rattle.std.specs.Prelude.{option_to_list}
use Rattle.std.proofs.Math.Nat.{mul-le-mul_right}
use Rattle.std.proofs.lemmas.Result.{MatchResult-from_err}
use Rattle.hic_word.specs.Entries.{Named}
use Rattle.hic_word.specs.Canon.{enc}
use Rattle.hic_word.specs.Stands.{EntryFor}
use Rattle.seg_canon.specs.Raises.{one_if_packed, raises}
use Rattle.seg_canon.proofs.Opening.{zero_opened}
use Rattle.seg_write.specs.Lone.{lifted}
use Rattle.seg_write.proofs.Leaves.{own_line_low}
use Rattle.seg_write.proofs.Lifting.{lift_none, lift_zero, node_lifts, set_names, trades_named, upper, upper_lift, upper_named, upper_node, upper_part, upper_pieces}
use Rattle.seg_write.proofs.Raising.{raises_low}
use Rattle.seg_write.proofs.Storing.{held_alike}
use Rattle.seg_write.proofs.lift.lift.Goals as goal

pub returns-then-part-clause-stands : goal.returns-then-part-clause-stands
returns-then-part-clause-stands g c = λ A f. lift_none f c.if-part.true

pub store_held-requires-clause-held : goal.store_held-requires-clause-held
store_held-requires-clause-held g c =
    let (held, h) = c.requires.held in
    (held, held_alike (g.M.HoldCounts.memory c.args.mem.now) (c.args.part.entry ∷ []) _ held (set_names (c.args.number % 4) c.args.part.entry c.num-pieces.result (omega arith) c.num-pieces.ensures.value) h)

pub store_held-requires-clause-part : goal.store_held-requires-clause-part
store_held-requires-clause-part g c =
    let (A, f) = c.requires.part in
    let less : c.args.part.at < c.args.part.top = let low = c.if-part.false in omega (arith, low) in
    (upper f less, upper_part f less, upper_pieces f less c.num-pieces.result c.num-pieces.ensures.value)

pub returns-in_err-entry-in-Pack-clause-full : goal.returns-in_err-entry-in-Pack-clause-full
returns-in_err-entry-in-Pack-clause-full g c = MatchResult-from_err c.from_residual.result _ _ c.from_residual.ensures.0 (λ _ A R f named.
    let less : c.args.part.at < c.args.part.top = let low = c.if-part.false in omega (arith, low) in
    c.in_err-entry-in-Pack.ensures.full (upper f less) R (upper_part f less) (upper_pieces f less c.num-pieces.result c.num-pieces.ensures.value) (upper_named f less R named))

pub returns-in_err-entry-in-Pack-clause-given_back : goal.returns-in_err-entry-in-Pack-clause-given_back
returns-in_err-entry-in-Pack-clause-given_back g c = MatchResult-from_err c.from_residual.result _ _ c.from_residual.ensures.0 (λ _ before held n keys h taken.
    let same = set_names (c.args.number % 4) c.args.part.entry c.num-pieces.result (omega arith) c.num-pieces.ensures.value in
    c.in_err-entry-in-Pack.ensures.given_back before held n keys h (trades_named [] _ refl same taken))

pub returns-in_err-entry-in-Pack-clause-looks : goal.returns-in_err-entry-in-Pack-clause-looks
returns-in_err-entry-in-Pack-clause-looks g c =
    let (A, f) = c.requires.part in
    let less : c.args.part.at < c.args.part.top = let low = c.if-part.false in omega (arith, low) in
    let few = c.store_held.ensures.looks (upper f less) (upper_part f less) (upper_pieces f less c.num-pieces.result c.num-pieces.ensures.value) in
    let one : raises c.args.part ≡ 1 = raises_low c.args.part less ∙ ap one_if_packed c.in-Pack.is in
    let cost = mul-le-mul_right (g.M.HoldCounts.memory c.args.mem.now).layout.probe (own_line_low (enc 4 (c.args.part.at + 1) (upper f less))) in
    let all = ap (λ n. n * (g.M.HoldCounts.memory c.args.mem.now).layout.probe) one in
    let up = few.0 in
    let end = few.1 in
    (up, omega (arith, cost, all, end))

pub returns-in-Node-clause-stands : goal.returns-in-Node-clause-stands
returns-in-Node-clause-stands g c = λ A f. node_lifts f c.lengthened.result c.in-Node.is c.lengthened.ensures.stands

pub returns-in_ok-entry-in-Pack-clause-trades : goal.returns-in_ok-entry-in-Pack-clause-trades
returns-in_ok-entry-in-Pack-clause-trades g c =
    let (A, f) = c.requires.part in
    let less : c.args.part.at < c.args.part.top = let low = c.if-part.false in omega (arith, low) in
    let x = c.in_ok-entry-in-Pack.entry in
    let node = upper_node f less (c.in_ok-entry-in-Pack.ensures.stands (upper f less) (upper_part f less) (upper_pieces f less c.num-pieces.result c.num-pieces.ensures.value)) c.in-Pack.is in
    let given = set_names (c.args.number % 4) c.args.part.entry c.num-pieces.result (omega arith) c.num-pieces.ensures.value in
    trades_named (c.args.part.entry ∷ []) (c.lengthened-in-Pack.result ∷ []) given (ap (λ o. option_to_list o ++ []) (sym (c.lengthened-in-Pack.ensures.names node))) c.in_ok-entry-in-Pack.ensures.trades

pub returns-in_ok-entry-in-Pack-clause-stands : goal.returns-in_ok-entry-in-Pack-clause-stands
returns-in_ok-entry-in-Pack-clause-stands g c = λ A f.
    let less : c.args.part.at < c.args.part.top = let low = c.if-part.false in omega (arith, low) in
    let part = c.in_ok-entry-in-Pack.ensures.stands (upper f less) (upper_part f less) (upper_pieces f less c.num-pieces.result c.num-pieces.ensures.value) in
    let same : c.args.part.top - c.args.part.at - 1 ≡ c.args.part.top - (c.args.part.at + 1) = omega arith in
    node_lifts (upper_lift f less part) c.lengthened-in-Pack.result (upper_node f less part c.in-Pack.is) (λ o L q e low short.
    subst (λ j. EntryFor 4 o c.lengthened-in-Pack.result (lifted j (c.args.number / 4) (Named L q))) same (c.lengthened-in-Pack.ensures.stands o L q e low (omega (arith, same, short))))

pub returns-in_ok-entry-in-Pack-clause-gains : goal.returns-in_ok-entry-in-Pack-clause-gains
returns-in_ok-entry-in-Pack-clause-gains g c = λ A R f named.
    let less : c.args.part.at < c.args.part.top = let low = c.if-part.false in omega (arith, low) in
    c.in_ok-entry-in-Pack.ensures.gains (upper f less) R (upper_part f less) (upper_pieces f less c.num-pieces.result c.num-pieces.ensures.value) (upper_named f less R named)

pub returns-in_ok-entry-in-Pack-clause-looks : goal.returns-in_ok-entry-in-Pack-clause-looks
returns-in_ok-entry-in-Pack-clause-looks g c =
    let (A, f) = c.requires.part in
    let less : c.args.part.at < c.args.part.top = let low = c.if-part.false in omega (arith, low) in
    let few = c.store_held.ensures.looks (upper f less) (upper_part f less) (upper_pieces f less c.num-pieces.result c.num-pieces.ensures.value) in
    let one : raises c.args.part ≡ 1 = raises_low c.args.part less ∙ ap one_if_packed c.in-Pack.is in
    let cost = mul-le-mul_right (g.M.HoldCounts.memory c.args.mem.now).layout.probe (own_line_low (enc 4 (c.args.part.at + 1) (upper f less))) in
    let all = ap (λ n. n * (g.M.HoldCounts.memory c.args.mem.now).layout.probe) one in
    let up = few.0 in
    let end = few.1 in
    (up, omega (arith, cost, all, end))

pub returns-in_default : goal.returns-in_default
returns-in_default g c = record {
  trades = record { passes = record { holds = λ held h. h; lines = λ id line e. e; layout = refl }; counts = λ id. omega arith };
  stands = λ A f. lift_zero f (zero_opened f.part c.in_default.not-Node c.in_default.not-Pack);
  gains = λ A R f named L s. inl s;
  full = tt;
  given_back = tt;
  looks = (omega arith, omega arith);
}

-- The text of a demo's schedule has no fault.
use Rattle.std.proofs.Common.{◌≡◌, ℕ, zero, suc, ◌+◌, ◌*◌, ◌/◌, ◌%◌, ◌<◌, ◌≤◌, Bool, true, false, not, ◌&&◌, List, [], ◌∷◌, ◌++◌, length, map, flat_map, Option, Some, None, All, refl, sym, ◌∙◌, ap, subst, inr, arith, append_assoc, length-append}
use Rattle.std.specs.Prelude.{IsSomeAnd, nat_le, nat_lt, decimal}
use Rattle.std.specs.Fmt.{digits}
use Rattle.std.specs.List.{AllByRecursion, cons_option, list_all, range_with_len}
use Rattle.std.specs.Str.{bytes_eq}
use Rattle.std.specs.Str.Lines.{strip_carriage_return}
use Rattle.std.proofs.lemmas.Bool.{and_parts, leb-true, ltb-true}
use Rattle.std.proofs.lemmas.List.{length-map}
use Rattle.std.proofs.lemmas.List.Concat.{flat_map-cons}
use Rattle.std.proofs.lemmas.List.Elements.{All-from_recursion}
use Rattle.std.proofs.lemmas.Slice.Eq.{bytes_eq-Decides}
use Rattle.hic_gen.specs.Demo.{demo_schedule, item_line}
use Rattle.hic_gen.specs.Draws.{draws, next_state}
use Rattle.task_sched.specs.declared.item.Item.{Item}
use Rattle.task_sched.specs.Grammar.{IsPiece, IsSchedule}
use Rattle.task_sched.specs.Items.{item_of, items_in}
use Rattle.text_lines.specs.Pieces.{is_line_feed, pieces}
use Rattle.text_lines.proofs.PieceLaws.{pieces-line}

-- ---- an item

abbrev item_text : ℕ → ℕ → List ℕ
item_text task count = decimal task ++ 42 ∷ decimal count

-- one line, which is an item of a demo's task, and short
record IsFine (text : List ℕ) : Type 0 where
  one_line : All (λ byte. is_line_feed byte ≡ false) text
  kept : strip_carriage_return text ≡ text
  item : IsSomeAnd (item_of text) (λ item. item.task < 4)
  short : length text ≤ 4

abbrev is_item : Option Item → Bool
is_item None = false
is_item (Some item) = nat_lt item.task 4

abbrev is_fine : List ℕ → Bool
is_fine text = list_all (λ byte. not (is_line_feed byte)) text && (bytes_eq (strip_carriage_return text) text && (is_item (item_of text) && nat_le (length text) 4))

-- the items of four tasks, 1 to 16 times each
all_fine : list_all (λ task. list_all (λ more. is_fine (item_text task (1 + more))) (range_with_len 0 16)) (range_with_len 0 4) ≡ true
unfolding digits
all_fine = refl

not_feed : (b : Bool) → not b ≡ true → b ≡ false
not_feed true e = cc
not_feed false e = refl

feeds : (text : List ℕ) → list_all (λ byte. not (is_line_feed byte)) text ≡ true → AllByRecursion (λ byte. is_line_feed byte ≡ false) text
feeds [] e = tt
feeds (byte ∷ text) e =
    let parts = and_parts _ _ e in
    (not_feed _ parts.0, feeds text parts.1)

some_item : (found : Option Item) → is_item found ≡ true → IsSomeAnd found (λ item. item.task < 4)
some_item None e = cc
some_item (Some item) e = ltb-true _ _ e

fine-tested : (text : List ℕ) → is_fine text ≡ true → IsFine text
fine-tested text e =
    let first = and_parts _ _ e in
    let second = and_parts _ _ first.1 in
    let third = and_parts _ _ second.1 in
    record {
      one_line = All-from_recursion (λ byte. is_line_feed byte ≡ false) text (feeds text first.0);
      kept = (bytes_eq-Decides (strip_carriage_return text) text).0 second.0;
      item = some_item (item_of text) third.0;
      short = leb-true _ _ third.1;
    }

-- a test that passes on a range passes at each number of it
passes : (test : ℕ → Bool) (from n k : ℕ) → list_all test (range_with_len from n) ≡ true → k < n → test (from + k) ≡ true
passes test from zero k e low = absurd (omega (arith, low))
passes test from (suc n) zero e low = let same : from ≡ from + 0 = omega arith in subst (λ i. test i ≡ true) same (and_parts _ _ e).0
passes test from (suc n) (suc k) e low =
    let same : from + 1 + k ≡ from + suc k = omega arith in
    subst (λ i. test i ≡ true) same (passes test (from + 1) n k (and_parts _ _ e).1 (omega (arith, low)))

-- the item of a draw
abbrev drawn_text : ℕ → List ℕ
drawn_text drawn = item_text (drawn % 4) (1 + drawn / 4 % 16)

drawn-fine : (drawn : ℕ) → IsFine (drawn_text drawn)
drawn-fine drawn =
    let task : drawn % 4 ≡ 0 + drawn % 4 = omega arith in
    let more : drawn / 4 % 16 ≡ 0 + drawn / 4 % 16 = omega arith in
    let of_task = passes (λ t. list_all (λ m. is_fine (item_text t (1 + m))) (range_with_len 0 16)) 0 4 (drawn % 4) all_fine (omega arith) in
    let of_both = passes (λ m. is_fine (item_text (0 + drawn % 4) (1 + m))) 0 16 (drawn / 4 % 16) of_task (omega arith) in
    fine-tested (drawn_text drawn) (ap (λ (t : ℕ). is_fine (item_text t (1 + drawn / 4 % 16))) task ∙ ap (λ (m : ℕ). is_fine (item_text (0 + drawn % 4) (1 + m))) more ∙ of_both)

-- ---- the lines

line-then : (drawn : ℕ) (rest : List ℕ) → item_line drawn ++ rest ≡ drawn_text drawn ++ 10 ∷ rest
line-then drawn rest = simp append_assoc

schedule-then : (drawn : ℕ) (ds : List ℕ) → flat_map item_line (drawn ∷ ds) ≡ drawn_text drawn ++ 10 ∷ flat_map item_line ds
schedule-then drawn ds = flat_map-cons item_line drawn ds ∙ line-then drawn (flat_map item_line ds)

-- each draw is a piece of its own
pieces-drawn : (ds : List ℕ) → pieces (flat_map item_line ds) ≡ map drawn_text ds
pieces-drawn [] = refl
pieces-drawn (drawn ∷ ds) =
    let fine = drawn-fine drawn in
    ap pieces (schedule-then drawn ds)
    ∙ pieces-line (drawn_text drawn) (flat_map item_line ds) fine.one_line
    ∙ ap (λ piece. piece ∷ pieces (flat_map item_line ds)) fine.kept
    ∙ ap (λ all. drawn_text drawn ∷ all) (pieces-drawn ds)

drawn-pieces : (ds : List ℕ) → AllByRecursion (IsPiece 4) (map drawn_text ds)
drawn-pieces [] = tt
drawn-pieces (drawn ∷ ds) = (inr (drawn-fine drawn).item, drawn-pieces ds)

-- ---- how many there are

one_at_most : (found : Option Item) (items : List Item) → length (cons_option found items) ≤ length items + 1
one_at_most None items = omega arith
one_at_most (Some item) items = omega arith

items-few : (all : List (List ℕ)) → length (items_in all) ≤ length all
items-few [] = omega arith
items-few (piece ∷ all) =
    let rest = items-few all in
    let one = one_at_most (item_of piece) (items_in all) in
    omega (arith, rest, one)

draws-length : (count state : ℕ) → length (draws count state) ≡ count
draws-length zero state = refl
draws-length (suc count) state = ap suc (draws-length count (next_state state))

pub demo-is_schedule : (seed size : ℕ) → size ≤ 4096 → IsSchedule (demo_schedule seed size) 4
demo-is_schedule seed size most =
    let ds = draws size seed in
    let is = pieces-drawn ds in
    record {
      all = All-from_recursion (IsPiece 4) (pieces (demo_schedule seed size)) (subst (AllByRecursion (IsPiece 4)) (sym is) (drawn-pieces ds));
      few = (let few = items-few (pieces (demo_schedule seed size)) in omega (arith, most, few, ap length is, length-map ds drawn_text, draws-length size seed));
    }

-- five bytes a draw at most
lines-short : (ds : List ℕ) → length (flat_map item_line ds) ≤ 5 * length ds
lines-short [] = omega arith
lines-short (drawn ∷ ds) =
    let rest = lines-short ds in
    let line = ap length (schedule-then drawn ds) in
    let short = (drawn-fine drawn).short in
    omega (arith, rest, short, line, length-append (drawn_text drawn) (10 ∷ flat_map item_line ds))

pub demo-short : (seed size : ℕ) → size ≤ 4096 → length (demo_schedule seed size) ≤ 20480
demo-short seed size most = let short = lines-short (draws size seed) in omega (arith, most, short, draws-length size seed)

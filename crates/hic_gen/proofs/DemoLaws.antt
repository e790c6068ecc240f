-- The program keeps the rules of objects.
use Rattle.std.proofs.Common.{◌≡◌, ℕ, zero, suc, ◌+◌, ◌-◌, ◌*◌, ◌%◌, ◌<◌, ◌≤◌, ◌^◌, List, [], ◌∷◌, ◌++◌, length, flat_map, Option, Some, None, IfSome, refl, ap, sym, subst, ◌∙◌, inr, arith}
use Rattle.std.proofs.lemmas.List.{append_assoc, append-nil}
use Rattle.std.proofs.lemmas.List.Concat.{flat_map-cons}
use Rattle.hic_isa.specs.declared.instr.Instr.{Instr}
use Rattle.hic_isa.specs.declared.instr.SegKind.{SegKind}
use Rattle.hic_isa.specs.declared.instr.SegKind.TheVariants.{Merge}
use Rattle.hic_object.specs.declared.object.DataRec.{DataRec}
use Rattle.hic_object.specs.Parts.{parts, IsNext, AreRecords, KeepsRules}
use Rattle.hic_gen.specs.Draws.{next_state, drawn, draws}
use Rattle.hic_gen.specs.Demo.{record_of, records, code, demo_object, most_size, item_line}

-- one step of the state, as it is counted in 64 bits
pub next_state-wrapped : (state : ℕ) → (6364136223846793005 * state % 2 ^ 64 + 1442695040888963407) % 2 ^ 64 ≡ next_state state
next_state-wrapped state = omega arith

length-draws : (count state : ℕ) → length (draws count state) ≡ count
length-draws zero state = refl
length-draws (suc count) state = ap suc (length-draws count (next_state state))

length-records : (k : ℕ) (drawn : List ℕ) → length (records k drawn) ≡ length drawn
length-records k [] = refl
length-records k (d ∷ ds) = ap suc (length-records (k + 1) ds)

-- a record stands above those of smaller numbers
record_next : (k d : ℕ) (before : Option DataRec) → IfSome before (λ low. (low.segment ≡ 0) × (low.offset < 64 * k)) → IsNext 1 before (record_of k d)
record_next k d None below = record { segment = omega arith; some = omega arith; above = tt }
record_next k d (Some low) below = record { segment = omega arith; some = omega arith; above = inr (below.0, omega (arith, below.1)) }

records-are : (k : ℕ) (ds : List ℕ) (before : Option DataRec) → IfSome before (λ low. (low.segment ≡ 0) × (low.offset < 64 * k)) → AreRecords 1 before (records k ds)
records-are k [] before below = tt
records-are k (d ∷ ds) before below = (record_next k d before below, records-are (k + 1) ds (Some (record_of k d)) (refl, omega arith))

pub demo_object-rules : (seed size : ℕ) → size ≤ most_size → KeepsRules (demo_object seed size)
demo_object-rules seed size most = record {
  some_tasks = omega arith;
  tasks = omega arith;
  segments = omega arith;
  some_code = omega arith;
  code_count = omega arith;
  words_count = omega (arith, length-records 0 (draws size seed), length-draws size seed);
  in_code = (omega arith, (omega arith, (omega arith, (omega arith, tt))));
  records = records-are 0 (draws size seed) None tt;
}

-- ---- one draw after the other

draws-next : (size k state : ℕ) → k < size → draws (size - k) state ≡ drawn state ∷ draws (size - (k + 1)) (next_state state)
draws-next size k state more = let count : size - k ≡ suc (size - (k + 1)) = omega arith in ap (λ n. draws n state) count

pub records-next : (size k state seed : ℕ) (words all : List DataRec) → k < size → words ++ records k (draws (size - k) state) ≡ all
    → (words ++ record_of k (drawn state) ∷ []) ++ records (k + 1) (draws (size - (k + 1)) (next_state state)) ≡ all
records-next size k state seed words all more so_far =
    append_assoc words (record_of k (drawn state) ∷ []) (records (k + 1) (draws (size - (k + 1)) (next_state state)))
    ∙ ap (λ ds. words ++ records k ds) (sym (draws-next size k state more)) ∙ so_far

pub records-end : (size k state : ℕ) (words all : List DataRec) → size ≤ k → words ++ records k (draws (size - k) state) ≡ all → words ≡ all
records-end size k state words all end so_far =
    let none : size - k ≡ 0 = omega arith in
    sym (append-nil words) ∙ ap (λ n. words ++ records k (draws n state)) (sym none) ∙ so_far

pub items-next : (size k state : ℕ) (text all : List ℕ) → k < size → text ++ flat_map item_line (draws (size - k) state) ≡ all
    → (text ++ item_line (drawn state)) ++ flat_map item_line (draws (size - (k + 1)) (next_state state)) ≡ all
items-next size k state text all more so_far =
    append_assoc text (item_line (drawn state)) (flat_map item_line (draws (size - (k + 1)) (next_state state)))
    ∙ ap (λ t. text ++ t) (sym (flat_map-cons item_line (drawn state) (draws (size - (k + 1)) (next_state state))))
    ∙ ap (λ ds. text ++ flat_map item_line ds) (sym (draws-next size k state more)) ∙ so_far

pub items-end : (size k state : ℕ) (text all : List ℕ) → size ≤ k → text ++ flat_map item_line (draws (size - k) state) ≡ all → text ≡ all
items-end size k state text all end so_far =
    let none : size - k ≡ 0 = omega arith in
    sym (append-nil text) ∙ ap (λ n. text ++ flat_map item_line (draws n state)) (sym none) ∙ so_far

-- the parts of the program keep the rules
pub parts-rules : (seed size : ℕ) (entries : List ℕ) (kinds : List SegKind) (words : List DataRec) (instrs : List Instr) → size ≤ most_size
    → entries ≡ 0 ∷ 0 ∷ 0 ∷ 0 ∷ [] → kinds ≡ Merge ∷ [] → words ≡ records 0 (draws size seed) → instrs ≡ code size → KeepsRules (parts entries kinds words instrs)
parts-rules seed size entries kinds words instrs most es ks ws is = subst KeepsRules (sym (λ i. parts (es i) (ks i) (ws i) (is i))) (demo_object-rules seed size most)

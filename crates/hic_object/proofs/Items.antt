-- Laws of items that are read one after the other.
use Rattle.std.proofs.Common.{◌≡◌, ℕ, zero, suc, ◌-◌, ◌*◌, List, [], ◌∷◌, ◌++◌, length, Some, refl, sym, ap, subst, ◌∙◌, append_assoc, arith}
use Rattle.std.specs.Prelude.{flat_map}
use Rattle.std.specs.List.{AllByRecursion}
use Rattle.std.proofs.lemmas.List.{append-nil, length-append, get_or_push}
use Rattle.std.proofs.lemmas.Option.{slice_get-get_or}
use Rattle.std.proofs.lemmas.List.Concat.{flat_map-cons}
use Rattle.hic_object.specs.declared.object.DataRec.{DataRec}
use Rattle.hic_object.specs.Parts.{IsNext, IsRecord, AreRecords}
use Rattle.hic_object.specs.Reading.{Reader, gives, items_at, last}
use Rattle.hic_object.proofs.Readers.{Reads, Reads-gives, Reads-then, Tells, Tells-weaker, Tells-gives, Tells-then}

-- each item may stand next after those before it
abbrev pub Each : {X : Type 0} → (List X → X → Type 0) → List X → List X → Type 0
Each next before [] = Unit {0}
Each next before (x ∷ xs) = next before x × Each next (before ++ x ∷ []) xs

move : {X : Type 0} (before : List X) (x : X) (xs : List X) → (before ++ x ∷ []) ++ xs ≡ before ++ x ∷ xs
move before x xs = append_assoc before (x ∷ []) xs

pub Reads-items : {X : Type 0} (item : List X → Reader X) (text_of : X → List ℕ) (next : List X → X → Type 0)
    → ((before : List X) (x : X) → next before x → Reads (item before) (text_of x) x)
    → (xs before : List X) → Each next before xs → Reads (items_at item (length xs) before) (flat_map text_of xs) (before ++ xs)
unfolding items_at
Reads-items item text_of next reads [] before each = subst (λ v. Reads (gives before) [] v) (sym (append-nil before)) (Reads-gives before)
Reads-items {X} item text_of next reads (x ∷ xs) before each =
    let later = Reads-items item text_of next reads xs (before ++ x ∷ []) each.1 in
    let all = Reads-then (item before) (λ y. items_at item (length xs) (before ++ y ∷ [])) (text_of x) (flat_map text_of xs) x ((before ++ x ∷ []) ++ xs) (reads before x each.0) later in
    subst (λ (v : List X). Reads (items_at item (suc (length xs)) before) (flat_map text_of (x ∷ xs)) v) (move before x xs)
    (subst (λ (t : List ℕ). Reads (items_at item (suc (length xs)) before) t ((before ++ x ∷ []) ++ xs)) (sym (flat_map-cons text_of x xs)) all)

-- so many items after those before, with their text
pub record AreItems {X : Type 0} (text_of : X → List ℕ) (next : List X → X → Type 0) (n : ℕ) (before all : List X) (text : List ℕ) : Type 0 where
  pub items : List X
  pub all-is : all ≡ before ++ items
  pub count : length items ≡ n
  pub each : Each next before items
  pub text-is : text ≡ flat_map text_of items

more : {X : Type 0} (text_of : X → List ℕ) (next : List X → X → Type 0) (n : ℕ) (before all : List X) (x : X) (text : List ℕ)
    → next before x → AreItems text_of next n (before ++ x ∷ []) all text → AreItems text_of next (suc n) before all (text_of x ++ text)
more text_of next n before all x text first later = record {
  items = x ∷ later.items;
  all-is = later.all-is ∙ move before x later.items;
  count = ap suc later.count;
  each = (first, later.each);
  text-is = ap (λ (t : List ℕ). text_of x ++ t) later.text-is ∙ sym (flat_map-cons text_of x later.items);
}

pub Tells-items : {X : Type 0} (item : List X → Reader X) (text_of : X → List ℕ) (next : List X → X → Type 0)
    → ((before : List X) → Tells (item before) (λ x text. (text ≡ text_of x) × next before x))
    → (n : ℕ) (before : List X) → Tells (items_at item n before) (λ all text. AreItems text_of next n before all text)
unfolding items_at
Tells-items item text_of next tells zero before =
    Tells-gives before (λ all text. AreItems text_of next 0 before all text) (record { items = []; all-is = sym (append-nil before); count = refl; each = tt; text-is = refl })
Tells-items {X} item text_of next tells (suc n) before =
    Tells-then (item before) (λ x. items_at item n (before ++ x ∷ [])) (λ x text. (text ≡ text_of x) × next before x) (λ all text. AreItems text_of next (suc n) before all text) (tells before)
    (λ x a fits says.
    Tells-weaker (items_at item n (before ++ x ∷ [])) (λ all text. AreItems text_of next n (before ++ x ∷ []) all text) (λ all text. AreItems text_of next (suc n) before all (a ++ text))
    (Tells-items item text_of next tells n (before ++ x ∷ []))
    (λ all text is. subst (λ (t : List ℕ). AreItems text_of next (suc n) before all (t ++ text)) (sym says.0) (more text_of next n before all x text says.1 is)))

-- so many items, with their text
pub record IsRow {X : Type 0} (text_of : X → List ℕ) (next : List X → X → Type 0) (n : ℕ) (all : List X) (text : List ℕ) : Type 0 where
  pub count : length all ≡ n
  pub each : Each next [] all
  pub text-is : text ≡ flat_map text_of all

-- items that are read with none before them
pub Tells-row : {X : Type 0} (item : List X → Reader X) (text_of : X → List ℕ) (next : List X → X → Type 0)
    → ((before : List X) → Tells (item before) (λ x text. (text ≡ text_of x) × next before x))
    → (n : ℕ) → Tells (items_at item n []) (IsRow text_of next n)
Tells-row {X} item text_of next tells n =
    Tells-weaker (items_at item n []) (λ all text. AreItems text_of next n [] all text) (IsRow text_of next n) (Tells-items item text_of next tells n [])
    (λ all text are. subst (λ (xs : List X). IsRow text_of next n xs text) (sym are.all-is) (record { count = are.count; each = are.each; text-is = are.text-is }))

-- the length of texts of one length
pub length-texts : {X : Type 0} (text_of : X → List ℕ) (n : ℕ) → ((x : X) → length (text_of x) ≡ n) → (xs : List X) → length (flat_map text_of xs) ≡ n * length xs
length-texts text_of n len [] = omega arith
length-texts text_of n len (x ∷ xs) =
    ap length (flat_map-cons text_of x xs) ∙ length-append (text_of x) (flat_map text_of xs) ∙ omega (arith, len x, length-texts text_of n len xs)

-- ---- where each item stands by itself

pub Each-from_all : {X : Type 0} (P : X → Type 0) (xs before : List X) → AllByRecursion P xs → Each (λ _ x. P x) before xs
Each-from_all P [] before all = tt
Each-from_all P (x ∷ xs) before all = (all.0, Each-from_all P xs (before ++ x ∷ []) all.1)

pub all_from_each : {X : Type 0} (P : X → Type 0) (xs before : List X) → Each (λ _ x. P x) before xs → AllByRecursion P xs
all_from_each P [] before each = tt
all_from_each P (x ∷ xs) before each = (each.0, all_from_each P xs (before ++ x ∷ []) each.1)

-- ---- records, each after the one before it

last-push : {X : Type 0} (before : List X) (x : X) → last (before ++ x ∷ []) ≡ Some x
last-push before x =
    let len = length-append before (x ∷ []) in
    let place = length (before ++ x ∷ []) - 1 in
    slice_get-get_or (before ++ x ∷ []) place x (omega (arith, len)) ∙ ap Some (get_or_push before x x place (omega (arith, len)))

abbrev pub next_record : ℕ → List DataRec → DataRec → Type 0
next_record segments before d = IsNext segments (last before) d × IsRecord d

pub Each-from_records : (segments : ℕ) (ds before : List DataRec) → AreRecords segments (last before) ds → AllByRecursion IsRecord ds → Each (next_record segments) before ds
Each-from_records segments [] before all fit = tt
Each-from_records segments (d ∷ ds) before all fit =
    ((all.0, fit.0), Each-from_records segments ds (before ++ d ∷ []) (subst (λ o. AreRecords segments o ds) (sym (last-push before d)) all.1) fit.1)

pub records_from_each : (segments : ℕ) (ds before : List DataRec) → Each (next_record segments) before ds → AreRecords segments (last before) ds
records_from_each segments [] before each = tt
records_from_each segments (d ∷ ds) before each =
    (each.0.0, subst (λ o. AreRecords segments o ds) (last-push before d) (records_from_each segments ds (before ++ d ∷ []) each.1))

pub numbers_from_each : (segments : ℕ) (ds before : List DataRec) → Each (next_record segments) before ds → AllByRecursion IsRecord ds
numbers_from_each segments [] before each = tt
numbers_from_each segments (d ∷ ds) before each = (each.0.1, numbers_from_each segments ds (before ++ d ∷ []) each.1)

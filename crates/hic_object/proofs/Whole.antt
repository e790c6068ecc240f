-- What is read as an object is spelled so, what is spelled so is read, a cut object is short and a longer one long.
use Rattle.std.proofs.Common.{◌≡◌, ℕ, suc, ◌*◌, ◌^◌, ◌<◌, ◌≤◌, Bool, true, false, cond, List, [], ◌∷◌, ◌++◌, length, take, Result, Ok, Err, refl, sym, ap, subst, ◌∙◌, arith}
use Rattle.std.specs.Prelude.{flat_map, codes, ◌==◌}
use Rattle.std.specs.Int.{w8, w16, w32, to_le_bytes}
use Rattle.std.proofs.lemmas.Bool.{eqb-true}
use Rattle.std.proofs.lemmas.Bool.Decides.{nat_tests}
use Rattle.std.proofs.lemmas.List.{append-nil, nil_from_length}
use Rattle.hic_isa.specs.declared.instr.Instr.{Instr}
use Rattle.hic_isa.specs.declared.instr.SegKind.{SegKind}
use Rattle.hic_isa.specs.declared.instr.SegKind.TheVariants.{Plain, Merge}
use Rattle.hic_isa.specs.Spelling.{spelling, IsInstr}
use Rattle.hic_object.specs.declared.error.CountName.TheVariants as names
use Rattle.hic_object.specs.declared.error.ObjectError.{ObjectError}
use Rattle.hic_object.specs.declared.error.ObjectError.TheVariants.{Short, Long}
use Rattle.hic_object.specs.Parts.{Parts, parts, KeepsRules, IsObject, most_tasks, most_segments, most_instructions, most_records}
use Rattle.hic_object.specs.Spelled.{kind_bytes, data_bytes, spelled, IsSpelled}
use Rattle.hic_object.specs.Reading.{◌>>=◌, items_at, magic_at, version_at, count_at, Counts, counts, counts_at, entry_at, kind_at, data_at, instruction_at, body_at, parts_at, ended, object_at}
use Rattle.hic_object.proofs.Steps.{after_code, after_segments, after_tasks, entries_at, kinds_at, after_words, after_kinds, after_entries}
use Rattle.hic_object.proofs.Readers.{Reads, Reads-then, Reads-made, Reads-within, Tells, Tells-then, Tells-made, Tells-weaker, Tells-within, IsBytes, done}
use Rattle.hic_object.proofs.Fields.{wide8, wide16, wide32, one_byte, Reads-magic, Tells-magic, Reads-version, Tells-version, Reads-count, Tells-count, Reads-entry, Tells-entry, Reads-kind, Tells-kind, Reads-data, Tells-data, Reads-instruction, Tells-instruction}
use Rattle.hic_object.proofs.Items.{Each, Reads-items, IsRow, Tells-row, length-texts, Each-from_all, all_from_each, next_record, Each-from_records, records_from_each, numbers_from_each}

-- ---- the counts

counts_bytes : Counts → List ℕ
counts_bytes h = one_byte h.tasks ++ (to_le_bytes w16 h.segments ++ (to_le_bytes w32 h.code ++ to_le_bytes w32 h.words))

record KeepLimits (h : Counts) : Type 0 where
  some_tasks : 1 ≤ h.tasks
  tasks : h.tasks ≤ most_tasks
  segments : h.segments ≤ most_segments
  some_code : 1 ≤ h.code
  code : h.code ≤ most_instructions
  words : h.words ≤ most_records

Reads-counts : (h : Counts) → KeepLimits h → Reads counts_at (counts_bytes h) h
unfolding counts_at after_tasks after_segments after_code counts_bytes
Reads-counts h is =
    Reads-then (count_at names.Tasks w8 1 most_tasks) after_tasks (one_byte h.tasks) (to_le_bytes w16 h.segments ++ (to_le_bytes w32 h.code ++ to_le_bytes w32 h.words)) h.tasks h
    (Reads-count names.Tasks w8 (2 ^ 8) one_byte wide8 1 most_tasks h.tasks is.some_tasks is.tasks (omega (arith, is.tasks)))
    (Reads-then (count_at names.Segments w16 0 most_segments) (after_segments h.tasks) (to_le_bytes w16 h.segments) (to_le_bytes w32 h.code ++ to_le_bytes w32 h.words) h.segments h
    (Reads-count names.Segments w16 (2 ^ 16) (to_le_bytes w16) wide16 0 most_segments h.segments (omega arith) is.segments (omega (arith, is.segments)))
    (Reads-then (count_at names.Code w32 1 most_instructions) (after_code h.tasks h.segments) (to_le_bytes w32 h.code) (to_le_bytes w32 h.words) h.code h
    (Reads-count names.Code w32 (2 ^ 32) (to_le_bytes w32) wide32 1 most_instructions h.code is.some_code is.code (omega (arith, is.code)))
    (Reads-made (count_at names.Words w32 0 most_records) (counts h.tasks h.segments h.code) (to_le_bytes w32 h.words) h.words
    (Reads-count names.Words w32 (2 ^ 32) (to_le_bytes w32) wide32 0 most_records h.words (omega arith) is.words (omega (arith, is.words))))))

-- counts that keep their limits, with their text
abbrev IsCounts : Counts → List ℕ → Type 0
IsCounts h text = (text ≡ counts_bytes h) × KeepLimits h

abbrev InRange : (ℕ → List ℕ) → ℕ → ℕ → ℕ → List ℕ → Type 0
InRange text_of low high n text = (text ≡ text_of n) × (low ≤ n) × (n ≤ high)

Tells-counts : Tells counts_at IsCounts
unfolding counts_at after_tasks after_segments after_code counts_bytes
Tells-counts =
    Tells-then (count_at names.Tasks w8 1 most_tasks) after_tasks (InRange one_byte 1 most_tasks) IsCounts (Tells-count names.Tasks w8 (2 ^ 8) one_byte wide8 1 most_tasks) (λ tasks a a-fits one.
    Tells-then (count_at names.Segments w16 0 most_segments) (after_segments tasks) (InRange (to_le_bytes w16) 0 most_segments) (λ h text. IsCounts h (a ++ text)) (Tells-count names.Segments w16 (2 ^ 16) (to_le_bytes w16) wide16 0 most_segments) (λ segments b b-fits two.
    Tells-then (count_at names.Code w32 1 most_instructions) (after_code tasks segments) (InRange (to_le_bytes w32) 1 most_instructions) (λ h text. IsCounts h (a ++ (b ++ text))) (Tells-count names.Code w32 (2 ^ 32) (to_le_bytes w32) wide32 1 most_instructions) (λ code c c-fits three.
    Tells-made (count_at names.Words w32 0 most_records) (counts tasks segments code) (InRange (to_le_bytes w32) 0 most_records) (λ h text. IsCounts h (a ++ (b ++ (c ++ text)))) (Tells-count names.Words w32 (2 ^ 32) (to_le_bytes w32) wide32 0 most_records) (λ words d fits four.
    (rw (one.0, two.0, three.0, four.0) refl, record { some_tasks = one.1; tasks = one.2; segments = two.2; some_code = three.1; code = three.2; words = four.2 })))))

-- ---- the body

body_bytes : Parts → List ℕ
body_bytes o = flat_map (to_le_bytes w32) o.entries ++ (flat_map kind_bytes o.kinds ++ (flat_map data_bytes o.words ++ flat_map spelling o.code))

abbrev counts_of : Parts → Counts
counts_of o = counts (length o.entries) (length o.kinds) (length o.code) (length o.words)

abbrev next_entry : ℕ → List ℕ → ℕ → Type 0
next_entry code _ n = n < code

abbrev next_kind : List SegKind → SegKind → Type 0
next_kind _ _ = Unit {0}

abbrev next_instr : List Instr → Instr → Type 0
next_instr _ i = IsInstr i

all_kinds : (ks before : List SegKind) → Each next_kind before ks
all_kinds [] before = tt
all_kinds (k ∷ ks) before = (tt, all_kinds ks (before ++ k ∷ []))

kind_length : (k : SegKind) → length (kind_bytes k) ≡ 1
kind_length Plain = refl
kind_length Merge = refl

-- an entry that keeps its rule
in_code : (o : Parts) → KeepsRules o → (before : List ℕ) (n : ℕ) → next_entry (length o.code) before n → Reads (entry_at (length o.code) before) (to_le_bytes w32 n) n
in_code o is before n below = Reads-entry (length o.code) before n below (omega (arith, is.code_count))

Reads-body : (o : Parts) → IsObject o → Reads (body_at (counts_of o)) (body_bytes o) o
unfolding body_at after_entries after_kinds after_words body_bytes
Reads-body o is =
    let h = counts_of o in
    let rules = is.rules in
    Reads-then (entries_at h) (after_entries h) (flat_map (to_le_bytes w32) o.entries) (flat_map kind_bytes o.kinds ++ (flat_map data_bytes o.words ++ flat_map spelling o.code)) o.entries o
    (Reads-within (4 * length o.entries) (items_at (entry_at (length o.code)) (length o.entries) []) (flat_map (to_le_bytes w32) o.entries) o.entries
    (length-texts (to_le_bytes w32) 4 (λ n. refl) o.entries)
    (Reads-items (entry_at (length o.code)) (to_le_bytes w32) (next_entry (length o.code)) (in_code o rules) o.entries [] (Each-from_all (λ n. n < length o.code) o.entries [] rules.in_code)))
    (Reads-then (kinds_at h) (after_kinds h o.entries) (flat_map kind_bytes o.kinds) (flat_map data_bytes o.words ++ flat_map spelling o.code) o.kinds o
    (Reads-within (length o.kinds) (items_at kind_at (length o.kinds) []) (flat_map kind_bytes o.kinds) o.kinds
    (length-texts kind_bytes 1 kind_length o.kinds ∙ omega arith)
    (Reads-items kind_at kind_bytes next_kind (λ before k _. Reads-kind before k) o.kinds [] (all_kinds o.kinds [])))
    (Reads-then (items_at (data_at (length o.kinds)) (length o.words) []) (after_words h o.entries o.kinds) (flat_map data_bytes o.words) (flat_map spelling o.code) o.words o
    (Reads-items (data_at (length o.kinds)) data_bytes (next_record (length o.kinds)) (λ before d next. Reads-data (length o.kinds) before d (omega (arith, rules.segments)) next.0 next.1) o.words [] (Each-from_records (length o.kinds) o.words [] rules.records is.numbers))
    (Reads-made (items_at instruction_at (length o.code) []) (parts o.entries o.kinds o.words) (flat_map spelling o.code) o.code
    (Reads-items instruction_at spelling next_instr (λ before i next. Reads-instruction before i next) o.code [] (Each-from_all IsInstr o.code [] is.instrs)))))

-- parts by these counts that keep the rules, with their text
record IsBody (h : Counts) (o : Parts) (text : List ℕ) : Type 0 where
  text-is : text ≡ body_bytes o
  entries : IsRow (to_le_bytes w32) (next_entry h.code) h.tasks o.entries (flat_map (to_le_bytes w32) o.entries)
  kinds : length o.kinds ≡ h.segments
  words : IsRow data_bytes (next_record h.segments) h.words o.words (flat_map data_bytes o.words)
  code : IsRow spelling next_instr h.code o.code (flat_map spelling o.code)

-- a row with its own text
own : {X : Type 0} (text_of : X → List ℕ) (next : List X → X → Type 0) (n : ℕ) (all : List X) (text : List ℕ) → IsRow text_of next n all text → IsRow text_of next n all (flat_map text_of all)
own text_of next n all text is = record { count = is.count; each = is.each; text-is = refl }

fills : {X : Type 0} (text_of : X → List ℕ) (next : List X → X → Type 0) (n len : ℕ) → ((x : X) → length (text_of x) ≡ len) → (all : List X) (text : List ℕ) → IsRow text_of next n all text → length text ≡ len * n
fills text_of next n len each all text is = ap length is.text-is ∙ length-texts text_of len each all ∙ ap (λ (k : ℕ). len * k) is.count

Tells-body : (h : Counts) → Tells (body_at h) (IsBody h)
unfolding body_at after_entries after_kinds after_words body_bytes
Tells-body h =
    Tells-then (entries_at h) (after_entries h) (IsRow (to_le_bytes w32) (next_entry h.code) h.tasks) (IsBody h)
    (Tells-within (4 * h.tasks) (items_at (entry_at h.code) h.tasks []) (IsRow (to_le_bytes w32) (next_entry h.code) h.tasks)
    (Tells-row (entry_at h.code) (to_le_bytes w32) (next_entry h.code) (Tells-entry h.code) h.tasks)
    (fills (to_le_bytes w32) (next_entry h.code) h.tasks 4 (λ n. refl)))
    (λ entries a a-fits one.
    Tells-then (kinds_at h) (after_kinds h entries) (IsRow kind_bytes next_kind h.segments) (λ o text. IsBody h o (a ++ text))
    (Tells-within h.segments (items_at kind_at h.segments []) (IsRow kind_bytes next_kind h.segments)
    (Tells-row kind_at kind_bytes next_kind Tells-kind h.segments)
    (λ ks text row. fills kind_bytes next_kind h.segments 1 kind_length ks text row ∙ omega arith))
    (λ kinds b b-fits two.
    Tells-then (items_at (data_at h.segments) h.words []) (after_words h entries kinds) (IsRow data_bytes (next_record h.segments) h.words) (λ o text. IsBody h o (a ++ (b ++ text)))
    (Tells-row (data_at h.segments) data_bytes (next_record h.segments) (Tells-data h.segments) h.words)
    (λ words c c-fits three.
    Tells-made (items_at instruction_at h.code []) (parts entries kinds words) (IsRow spelling next_instr h.code) (λ o text. IsBody h o (a ++ (b ++ (c ++ text))))
    (Tells-row instruction_at spelling next_instr Tells-instruction h.code)
    (λ code d fits four. record {
      text-is = rw (one.text-is, two.text-is, three.text-is, four.text-is) refl;
      entries = own (to_le_bytes w32) (next_entry h.code) h.tasks entries a one;
      kinds = two.count;
      words = own data_bytes (next_record h.segments) h.words words c three;
      code = own spelling next_instr h.code code d four;
    }))))

-- ---- the whole

whole_bytes : Parts → List ℕ
whole_bytes o = codes "HICP" ++ (one_byte 1 ++ (counts_bytes (counts_of o) ++ body_bytes o))

whole-spelled : (o : Parts) → whole_bytes o ≡ spelled o
unfolding spelled whole_bytes counts_bytes body_bytes
whole-spelled o = refl

Reads-parts : (o : Parts) → IsObject o → Reads parts_at (spelled o) o
unfolding parts_at whole_bytes
Reads-parts o is =
    let h = counts_of o in
    let rules = is.rules in
    let limits : KeepLimits h = record { some_tasks = rules.some_tasks; tasks = rules.tasks; segments = rules.segments; some_code = rules.some_code; code = rules.code_count; words = rules.words_count } in
    subst (λ (t : List ℕ). Reads parts_at t o) (whole-spelled o)
    (Reads-then magic_at (λ _. version_at >>= λ _. counts_at >>= body_at) (codes "HICP") (one_byte 1 ++ (counts_bytes h ++ body_bytes o)) (codes "HICP") o Reads-magic
    (Reads-then version_at (λ _. counts_at >>= body_at) (one_byte 1) (counts_bytes h ++ body_bytes o) 1 o Reads-version
    (Reads-then counts_at body_at (counts_bytes h) (body_bytes o) h o (Reads-counts h limits) (Reads-body o is))))

-- what is read, with the text that spells it
abbrev IsText : Parts → List ℕ → Type 0
IsText o text = IsSpelled text o

keeps_rules : (h : Counts) (o : Parts) (text : List ℕ) → KeepLimits h → IsBody h o text → KeepsRules o
keeps_rules h o text limits is = record {
  some_tasks = omega (arith, limits.some_tasks, is.entries.count);
  tasks = omega (arith, limits.tasks, is.entries.count);
  segments = omega (arith, limits.segments, is.kinds);
  some_code = omega (arith, limits.some_code, is.code.count);
  code_count = omega (arith, limits.code, is.code.count);
  words_count = omega (arith, limits.words, is.words.count);
  in_code = all_from_each (λ n. n < length o.code) o.entries [] (subst (λ (c : ℕ). Each (next_entry c) [] o.entries) (sym is.code.count) is.entries.each);
  records = records_from_each (length o.kinds) o.words [] (subst (λ (s : ℕ). Each (next_record s) [] o.words) (sym is.kinds) is.words.each);
}

is_object : (h : Counts) (o : Parts) (text : List ℕ) → KeepLimits h → IsBody h o text → IsObject o
is_object h o text limits is = record {
  rules = keeps_rules h o text limits is;
  numbers = numbers_from_each h.segments o.words [] is.words.each;
  instrs = all_from_each IsInstr o.code [] is.code.each;
}

same_counts : (h : Counts) (o : Parts) (text : List ℕ) → IsBody h o text → h ≡ counts_of o
same_counts h o text is = rw (is.entries.count, is.kinds, is.code.count, is.words.count) refl

Tells-parts : Tells parts_at IsText
unfolding parts_at whole_bytes
Tells-parts =
    Tells-then magic_at (λ _. version_at >>= λ _. counts_at >>= body_at) (λ _ text. text ≡ codes "HICP") IsText Tells-magic (λ _ a a-fits one.
    Tells-then version_at (λ _. counts_at >>= body_at) (λ _ text. text ≡ one_byte 1) (λ o text. IsText o (a ++ text)) Tells-version (λ _ b b-fits two.
    Tells-then counts_at body_at IsCounts (λ o text. IsText o (a ++ (b ++ text))) Tells-counts (λ h c c-fits three.
    Tells-weaker (body_at h) (IsBody h) (λ o text. IsText o (a ++ (b ++ (c ++ text)))) (Tells-body h) (λ o d four.
    let counts-is = same_counts h o d four in (
      is_object h o d three.1 four,
      ap (λ (t : List ℕ). t ++ (b ++ (c ++ d))) one
          ∙ ap (λ (t : List ℕ). codes "HICP" ++ (t ++ (c ++ d))) two
          ∙ ap (λ (t : List ℕ). codes "HICP" ++ (one_byte 1 ++ (t ++ d))) (three.0 ∙ ap counts_bytes counts-is)
          ∙ ap (λ (t : List ℕ). codes "HICP" ++ (one_byte 1 ++ (counts_bytes (counts_of o) ++ t))) four.text-is
          ∙ whole-spelled o,
    )))))

-- bytes are all read where none is left
none_left : {X : Type 0} (n : ℕ) (y x : X) (b : Bool) → (n == 0) ≡ b → cond b (done y) (Err Long) ≡ Ok x → (n ≡ 0) × (y ≡ x)
none_left n y x true is e = (eqb-true n 0 is, cc)
none_left n y x false is e = absurd cc

ended_ok : {X : Type 0} (q : Result (X × List ℕ) ObjectError) (x : X) → ended q ≡ Ok x → q ≡ Ok (x, [])
ended_ok {X} (Ok y) x e =
    let left = none_left (length y.1) y.0 x (length y.1 == 0) refl e in
    ap (λ (v : X). done (v, y.1)) left.1 ∙ ap (λ (t : List ℕ). done (x, t)) (nil_from_length y.1 left.0)
ended_ok (Err d) x e = absurd cc

some_left : {X : Type 0} (n : ℕ) (x y : Result X ObjectError) → cond (suc n == 0) x y ≡ y
some_left n x y = grind (arith, nat_tests)

pub found : (bytes : List ℕ) (o : Parts) → IsBytes bytes → object_at bytes ≡ Ok o → IsSpelled bytes o
unfolding object_at
found bytes o fits read =
    let t = Tells-parts.takes bytes o [] fits (ended_ok (parts_at bytes) o read) in
    (t.says.0, t.parts ∙ append-nil t.text ∙ t.says.1)

pub read_again : (bytes : List ℕ) (o : Parts) → IsSpelled bytes o → object_at bytes ≡ Ok o
unfolding object_at
read_again bytes o is = ap object_at is.1 ∙ ap ended (ap parts_at (sym (append-nil (spelled o))) ∙ (Reads-parts o is.0).again [])

-- an object that is cut anywhere is short
pub cut_short : (o : Parts) → IsObject o → (k : ℕ) → k < length (spelled o) → object_at (take k (spelled o)) ≡ Err Short
unfolding object_at
cut_short o is k lt = ap ended ((Reads-parts o is).cut k lt)

-- an object with bytes after it is long
pub longer : (o : Parts) → IsObject o → (b : ℕ) (bytes : List ℕ) → object_at (spelled o ++ b ∷ bytes) ≡ Err Long
unfolding object_at
longer o is b bytes = ap ended ((Reads-parts o is).again (b ∷ bytes)) ∙ some_left (length bytes) (Ok o) (Err Long)

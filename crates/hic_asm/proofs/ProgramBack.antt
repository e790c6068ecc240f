-- The text of an object is assembled to the object.
use Rattle.std.proofs.Common.{◌≡◌, ℕ, ◌+◌, ◌-◌, ◌<◌, ◌≤◌, ◌^◌, Bool, true, false, cond, ◌&&◌, ◌||◌, leb, ltb, List, [], ◌∷◌, ◌++◌, length, flat_map, map, Option, Some, None, Result, Ok, refl, ap, sym, subst, ◌∙◌, arith}
use Rattle.std.specs.List.{AllByRecursion}
use Rattle.std.proofs.lemmas.Bool.{lt-ltb, lt-leb, le-leb}
use Rattle.std.proofs.lemmas.List.{append_assoc, append-nil, length-append, get_or_push}
use Rattle.std.proofs.lemmas.Option.{slice_get-get_or}
use Rattle.hic_isa.specs.declared.instr.Instr.{Instr}
use Rattle.hic_isa.specs.declared.instr.SegKind.{SegKind}
use Rattle.hic_isa.specs.Spelling.{fields_of, spelling, IsInstr}
use Rattle.hic_isa.proofs.SpellingLaws.{instr_at-spelling}
use Rattle.hic_object.specs.declared.object.DataRec.{DataRec}
use Rattle.hic_object.specs.Parts.{Parts, parts, IsNext, IsRecord, AreRecords, IsObject, KeepsRules, most_tasks, most_segments, most_records, most_instructions}
use Rattle.hic_object.specs.Reading.{is_above_last, is_next, last}
use Rattle.hic_object.proofs.Fields.{is_next-true}
use Rattle.text_lines.specs.Pieces.{pieces}
use Rattle.hic_asm.specs.declared.error.Fault.{Fault}
use Rattle.hic_asm.specs.declared.error.Fault.TheVariants as fault
use Rattle.hic_asm.specs.Faults.{given, and_then}
use Rattle.hic_asm.specs.Operands.{Index}
use Rattle.hic_asm.specs.Lines.{Line, Task, Segment, Record, Code, line_at}
use Rattle.hic_asm.specs.Assembly.{Seen, seen, nothing, unless, defined_by, line_after, Built, built, with_instr, instr_of, built_by, line_built, in_line, pass, entries_or_first, some_code, second_pass, object_of, assembled_lines, assembled}
use Rattle.hic_asm.specs.ObjectText.{task_line, segment_line, record_line, instruction_line, dis_text}
use Rattle.hic_asm.proofs.OperandsBack.{draft_of}
use Rattle.hic_asm.proofs.LinesBack.{ReadAs, Spells, Spells-append, Spells-each, Spells-task, Spells-segment, Spells-record, Spells-instruction, RecordFits}

-- ---- passes without a fault

-- each of these lines takes the state on, to the last
abbrev StepsTo : {X : Type 0} → (X → Line → Result X Fault) → X → List Line → X → Type 0
StepsTo step state [] end = state ≡ end
StepsTo {X} step state (line ∷ lines) end = (next : X) × (step state line ≡ Ok next) × StepsTo step next lines end

StepsTo-append : {X : Type 0} (step : X → Line → Result X Fault) (state middle end : X) (ls ms : List Line) → StepsTo step state ls middle → StepsTo step middle ms end → StepsTo step state (ls ++ ms) end
StepsTo-append step state middle end [] ms first second = subst (λ x. StepsTo step x ms end) (sym first) second
StepsTo-append step state middle end (l ∷ ls) ms first second = (first.0, first.1, StepsTo-append step first.0 middle end ls ms first.2 second)

-- pieces that are read as such lines are passed
pass-steps : {X : Type 0} (line : X → List ℕ → Result X Fault) (step : X → Line → Result X Fault) → ((x : X) (bytes : List ℕ) → line x bytes ≡ and_then (line_at bytes) (step x))
    → (number : ℕ) (state end : X) (ps : List (List ℕ)) (ls : List Line) → ReadAs ps ls → StepsTo step state ls end → pass line number state ps ≡ Ok end
unfolding pass
pass-steps line step same number state end [] [] reads steps = ap Ok steps
pass-steps line step same number state end [] (l ∷ ls) reads steps = absurd reads
pass-steps line step same number state end (p ∷ ps) [] reads steps = absurd reads
pass-steps line step same number state end (p ∷ ps) (l ∷ ls) reads steps =
    let here : line state p ≡ Ok steps.0 = same state p ∙ ap (λ r. and_then r (step state)) reads.0 ∙ steps.1 in
    ap (λ r. and_then (in_line number r) (λ next. pass line (number + 1) next ps)) here
    ∙ pass-steps line step same (number + 1) steps.0 end ps ls reads.1 steps.2

-- ---- the first pass

abbrev task_of : ℕ → Line
task_of entry = Task (Index entry)

abbrev instr_line : Instr → Line
instr_line i = Code (draft_of (fields_of i))

defines_task : (s : Seen) (entry : ℕ) → s.tasks < most_tasks → defined_by s (task_of entry) ≡ Ok (record s { tasks = s.tasks + 1 })
unfolding defined_by
defines_task s entry room = ap (λ b. unless (cond b (Some fault.Limit) None) (record s { tasks = s.tasks + 1 })) (lt-leb most_tasks s.tasks room)

defines_segment : (s : Seen) (kind : SegKind) → length s.kinds < most_segments → defined_by s (Segment kind) ≡ Ok (record s { kinds = s.kinds ++ kind ∷ [] })
unfolding defined_by
defines_segment s kind room = ap (λ b. unless (cond b (Some fault.Limit) None) (record s { kinds = s.kinds ++ kind ∷ [] })) (lt-leb most_segments (length s.kinds) room)

defines_record : (s : Seen) (word : DataRec) → length s.words < most_records → word.segment < length s.kinds → is_above_last (last s.words) word ≡ true → defined_by s (Record word) ≡ Ok (record s { words = s.words ++ word ∷ [] })
unfolding defined_by
defines_record s word room there above =
    let next = record s { words = s.words ++ word ∷ [] } in
    ap (λ b. unless (cond (b || leb (length s.kinds) word.segment) (Some fault.Limit) (cond (is_above_last (last s.words) word) None (Some fault.Order))) next) (lt-leb most_records (length s.words) room)
    ∙ ap (λ b. unless (cond b (Some fault.Limit) (cond (is_above_last (last s.words) word) None (Some fault.Order))) next) (lt-leb (length s.kinds) word.segment there)
    ∙ ap (λ b. unless (cond b None (Some fault.Order)) next) above

defines_code : (s : Seen) (i : Instr) → s.code < most_instructions → defined_by s (instr_line i) ≡ Ok (record s { code = s.code + 1 })
unfolding defined_by
defines_code s i room = ap (λ b. unless (cond b (Some fault.Limit) None) (record s { code = s.code + 1 })) (lt-leb most_instructions s.code room)

last-push : {X : Type 0} (before : List X) (x : X) → last (before ++ x ∷ []) ≡ Some x
last-push before x =
    let len = length-append before (x ∷ []) in
    let place = length (before ++ x ∷ []) - 1 in
    slice_get-get_or (before ++ x ∷ []) place x (omega (arith, len)) ∙ ap Some (get_or_push before x x place (omega (arith, len)))

both : (a b : Bool) → (a && b) ≡ true → (a ≡ true) × (b ≡ true)
both true b h = (refl, h)
both false b h = absurd (cc)

next_above : (segments : ℕ) (before : Option DataRec) (word : DataRec) → IsNext segments before word → is_above_last before word ≡ true
unfolding is_next
next_above segments before word next = (both (ltb word.segment segments && leb 1 word.value) (is_above_last before word) (is_next-true segments before word next)).1

steps-tasks : (s : Seen) (entries : List ℕ) → s.tasks + length entries ≤ most_tasks → StepsTo defined_by s (map task_of entries) (record s { tasks = s.tasks + length entries })
steps-tasks s [] few = let same : s.tasks ≡ s.tasks + 0 = omega arith in ap (λ n. record s { tasks = n }) same
steps-tasks s (entry ∷ entries) few =
    let next = record s { tasks = s.tasks + 1 } in
    let same : s.tasks + 1 + length entries ≡ s.tasks + length (entry ∷ entries) = omega arith in
    (next, defines_task s entry (omega arith), subst (λ n. StepsTo defined_by next (map task_of entries) (record s { tasks = n })) same (steps-tasks next entries (omega arith)))

steps-segments : (s : Seen) (kinds : List SegKind) → length s.kinds + length kinds ≤ most_segments → StepsTo defined_by s (map Segment kinds) (record s { kinds = s.kinds ++ kinds })
steps-segments s [] few = ap (λ ks. record s { kinds = ks }) (sym (append-nil s.kinds))
steps-segments s (kind ∷ kinds) few =
    let next = record s { kinds = s.kinds ++ kind ∷ [] } in
    (next, defines_segment s kind (omega arith), subst (λ ks. StepsTo defined_by next (map Segment kinds) (record s { kinds = ks })) (append_assoc s.kinds (kind ∷ []) kinds) (steps-segments next kinds (omega (arith, length-append s.kinds (kind ∷ [])))))

steps-records : (s : Seen) (words : List DataRec) → length s.words + length words ≤ most_records → AreRecords (length s.kinds) (last s.words) words → StepsTo defined_by s (map Record words) (record s { words = s.words ++ words })
steps-records s [] few all = ap (λ ws. record s { words = ws }) (sym (append-nil s.words))
steps-records s (word ∷ words) few all =
    let next = record s { words = s.words ++ word ∷ [] } in (
      next,
      defines_record s word (omega arith) all.0.segment (next_above (length s.kinds) (last s.words) word all.0),
      subst (λ ws. StepsTo defined_by next (map Record words) (record s { words = ws })) (append_assoc s.words (word ∷ []) words)
          (steps-records next words (omega (arith, length-append s.words (word ∷ []))) (subst (λ o. AreRecords (length s.kinds) o words) (sym (last-push s.words word)) all.1)),
    )

steps-code : (s : Seen) (code : List Instr) → s.code + length code ≤ most_instructions → StepsTo defined_by s (map instr_line code) (record s { code = s.code + length code })
steps-code s [] few = let same : s.code ≡ s.code + 0 = omega arith in ap (λ n. record s { code = n }) same
steps-code s (i ∷ code) few =
    let next = record s { code = s.code + 1 } in
    let same : s.code + 1 + length code ≡ s.code + length (i ∷ code) = omega arith in
    (next, defines_code s i (omega arith), subst (λ n. StepsTo defined_by next (map instr_line code) (record s { code = n })) same (steps-code next code (omega arith)))

-- ---- the second pass

builds-entries : (s : Seen) (b : Built) (entries : List ℕ) → AllByRecursion (λ n. n < s.code) entries → StepsTo (built_by s) b (map task_of entries) (record b { entries = b.entries ++ entries })
unfolding built_by
builds-entries s b [] all = ap (λ es. record b { entries = es }) (sym (append-nil b.entries))
builds-entries s b (entry ∷ entries) all =
    let next = record b { entries = b.entries ++ entry ∷ [] } in (
      next,
      ap (λ t. and_then (given (cond t (Some entry) None) fault.Limit) (λ n. Ok (record b { entries = b.entries ++ n ∷ [] }))) (lt-ltb entry s.code all.0),
      subst (λ es. StepsTo (built_by s) next (map task_of entries) (record b { entries = es })) (append_assoc b.entries (entry ∷ []) entries) (builds-entries s next entries all.1),
    )

builds-segments : (s : Seen) (b : Built) (kinds : List SegKind) → StepsTo (built_by s) b (map Segment kinds) b
unfolding built_by
builds-segments s b [] = refl
builds-segments s b (kind ∷ kinds) = (b, refl, builds-segments s b kinds)

builds-records : (s : Seen) (b : Built) (words : List DataRec) → StepsTo (built_by s) b (map Record words) b
unfolding built_by
builds-records s b [] = refl
builds-records s b (word ∷ words) = (b, refl, builds-records s b words)

instr_of-fields : (i : Instr) → IsInstr i → instr_of (draft_of (fields_of i)) (fields_of i).imm ≡ Some i
unfolding spelling
instr_of-fields i is = instr_at-spelling i is

builds-code : (s : Seen) (b : Built) (code : List Instr) → AllByRecursion IsInstr code → StepsTo (built_by s) b (map instr_line code) (record b { code = b.code ++ code })
unfolding built_by
builds-code s b [] all = ap (λ is. record b { code = is }) (sym (append-nil b.code))
builds-code s b (i ∷ code) all =
    let next = record b { code = b.code ++ i ∷ [] } in (
      next,
      ap (λ o. Ok (with_instr b o)) (instr_of-fields i all.0),
      subst (λ is. StepsTo (built_by s) next (map instr_line code) (record b { code = is })) (append_assoc b.code (i ∷ []) code) (builds-code s next code all.1),
    )

-- ---- the whole

abbrev lines_of : Parts → List Line
lines_of o = map task_of o.entries ++ (map Segment o.kinds ++ (map Record o.words ++ map instr_line o.code))

entries_fit : (code : ℕ) (entries : List ℕ) → code ≤ most_instructions → AllByRecursion (λ n. n < code) entries → AllByRecursion (λ n. n < 2 ^ 32) entries
entries_fit code [] few all = tt
entries_fit code (entry ∷ entries) few all = (omega (arith, all.0), entries_fit code entries few all.1)

records_fit : (segments : ℕ) (before : Option DataRec) (words : List DataRec) → segments ≤ most_segments → AreRecords segments before words → AllByRecursion IsRecord words → AllByRecursion RecordFits words
records_fit segments before [] few all numbers = tt
records_fit segments before (word ∷ words) few all numbers = (
  record { segment = omega (arith, all.0.segment); offset = omega (arith, numbers.0.offset); some = all.0.some; value = omega (arith, numbers.0.value) },
  records_fit segments (Some word) words few all.1 numbers.1,
)

any_kind : (kinds : List SegKind) → AllByRecursion (λ _. Unit {0}) kinds
any_kind [] = tt
any_kind (kind ∷ kinds) = (tt, any_kind kinds)

-- the text of an object spells its lines
spells_object : (o : Parts) → IsObject o → Spells (dis_text o) (lines_of o)
unfolding dis_text
spells_object o is =
    let rules = is.rules in
    Spells-append (flat_map task_line o.entries) _ (map task_of o.entries) _
    (Spells-each (λ n. n < 2 ^ 32) task_line task_of Spells-task o.entries (entries_fit (length o.code) o.entries rules.code_count rules.in_code))
    (Spells-append (flat_map segment_line o.kinds) _ (map Segment o.kinds) _
    (Spells-each (λ _. Unit {0}) segment_line Segment (λ kind _. Spells-segment kind) o.kinds (any_kind o.kinds))
    (Spells-append (flat_map record_line o.words) (flat_map instruction_line o.code) (map Record o.words) (map instr_line o.code)
    (Spells-each RecordFits record_line Record Spells-record o.words (records_fit (length o.kinds) None o.words rules.segments rules.records is.numbers))
    (Spells-each IsInstr instruction_line instr_line Spells-instruction o.code is.instrs)))

-- what the lines of an object define, and what they build
abbrev seen_all : Parts → Seen
seen_all o = seen [] (length o.entries) o.kinds o.words (length o.code)

first_steps : (o : Parts) → KeepsRules o → StepsTo defined_by nothing (lines_of o) (seen_all o)
first_steps o rules =
    let tasks = seen [] (length o.entries) [] [] 0 in
    let segments = seen [] (length o.entries) o.kinds [] 0 in
    let records = seen [] (length o.entries) o.kinds o.words 0 in
    StepsTo-append defined_by nothing tasks (seen_all o) (map task_of o.entries) _ (to_tasks o.entries rules.tasks)
    (StepsTo-append defined_by tasks segments (seen_all o) (map Segment o.kinds) _ (steps-segments tasks o.kinds (omega (arith, rules.segments)))
    (StepsTo-append defined_by segments records (seen_all o) (map Record o.words) (map instr_line o.code) (steps-records segments o.words (omega (arith, rules.words_count)) rules.records)
    (to_code records o.code (omega (arith, rules.code_count)) refl)))
  where
    to_tasks : (entries : List ℕ) → length entries ≤ most_tasks → StepsTo defined_by nothing (map task_of entries) (seen [] (length entries) [] [] 0)
    to_tasks entries few = let same : 0 + length entries ≡ length entries = omega arith in subst (λ n. StepsTo defined_by nothing (map task_of entries) (seen [] n [] [] 0)) same (steps-tasks nothing entries (omega arith))

    to_code : (s : Seen) (code : List Instr) → s.code + length code ≤ most_instructions → s.code ≡ 0 → StepsTo defined_by s (map instr_line code) (record s { code = length code })
    to_code s code few none = let same : s.code + length code ≡ length code = omega arith in subst (λ n. StepsTo defined_by s (map instr_line code) (record s { code = n })) same (steps-code s code few)

second_steps : (o : Parts) → IsObject o → StepsTo (built_by (seen_all o)) (built [] []) (lines_of o) (built o.entries o.code)
second_steps o is =
    let s = seen_all o in
    let entries = built o.entries [] in
    StepsTo-append (built_by s) (built [] []) entries (built o.entries o.code) (map task_of o.entries) _ (builds-entries s (built [] []) o.entries is.rules.in_code)
    (StepsTo-append (built_by s) entries entries (built o.entries o.code) (map Segment o.kinds) _ (builds-segments s entries o.kinds)
    (StepsTo-append (built_by s) entries entries (built o.entries o.code) (map Record o.words) (map instr_line o.code) (builds-records s entries o.words)
    (builds-code s entries o.code is.instrs)))

entries_kept : (entries : List ℕ) → 1 ≤ length entries → entries_or_first entries ≡ entries
entries_kept [] some = absurd (omega arith)
entries_kept (entry ∷ entries) some = refl

-- the text of an object is assembled to it
pub assembled-dis_text : (o : Parts) → IsObject o → assembled (dis_text o) ≡ Ok o
unfolding assembled_lines line_after line_built
assembled-dis_text o is =
    let spells = spells_object o is in
    let contents : pieces (dis_text o) ≡ spells.contents = ap pieces (sym (append-nil (dis_text o))) ∙ spells.cut [] ∙ append-nil spells.contents in
    let first = pass-steps line_after defined_by (λ x bytes. refl) 1 nothing (seen_all o) spells.contents (lines_of o) spells.reads (first_steps o is.rules) in
    let second = pass-steps (line_built (seen_all o)) (built_by (seen_all o)) (λ x bytes. refl) 1 (built [] []) (built o.entries o.code) spells.contents (lines_of o) spells.reads (second_steps o is) in
    let count = length spells.contents in
    ap assembled_lines contents
    ∙ ap (λ r. and_then r (λ x. and_then (some_code count x) (λ s. and_then (second_pass spells.contents s) (λ b. Ok (object_of s b))))) first
    ∙ ap (λ t. and_then (in_line (count + 1) (given (cond t (Some (seen_all o)) None) fault.Limit)) (λ s. and_then (second_pass spells.contents s) (λ b. Ok (object_of s b)))) (le-leb 1 (length o.code) is.rules.some_code)
    ∙ ap (λ r. and_then r (λ b. Ok (object_of (seen_all o) b))) second
    ∙ ap (λ es. Ok (parts es o.kinds o.words o.code)) (entries_kept o.entries is.rules.some_tasks)

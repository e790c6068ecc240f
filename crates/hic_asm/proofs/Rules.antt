-- What is assembled keeps the rules of objects.
use Rattle.std.proofs.Common.{◌≡◌, ◌≢◌, ℕ, ◌+◌, ◌-◌, ◌<◌, ◌≤◌, ◌^◌, Bool, true, false, cond, ◌&&◌, ◌||◌, leb, ltb, List, [], ◌∷◌, ◌++◌, length, get_or, find, bytes_eq, is_some, option_map, Option, Some, None, Result, Ok, Err, refl, ap, sym, subst, ◌∙◌, arith}
use Rattle.std.specs.Prelude.{slice_get}
use Rattle.std.specs.List.{AllByRecursion}
use Rattle.std.proofs.lemmas.Bool.{leb-true, leb-false, ltb-true, lt-ltb, le-leb}
use Rattle.std.proofs.lemmas.List.{length-append}
use Rattle.std.proofs.lemmas.Option.{slice_get-get_or}
use Rattle.hic_isa.specs.declared.instr.Instr.{Instr}
use Rattle.hic_isa.specs.Spelling.{row, bytes_of}
use Rattle.hic_isa.specs.Decoding.{instr_at}
use Rattle.hic_object.specs.declared.object.DataRec.{DataRec}
use Rattle.hic_object.specs.Parts.{Parts, IsNext, AreRecords, KeepsRules, most_tasks, most_segments, most_records, most_instructions}
use Rattle.hic_object.specs.Reading.{is_above_last, is_next, last}
use Rattle.hic_object.proofs.Fields.{is_next-is}
use Rattle.text_lines.specs.Pieces.{pieces}
use Rattle.hic_asm.specs.declared.error.Fault.{Fault}
use Rattle.hic_asm.specs.declared.error.Fault.TheVariants as fault
use Rattle.hic_asm.specs.declared.error.AsmError.{AsmError}
use Rattle.hic_asm.specs.declared.error.AsmError.TheVariants.{OutOfMemory}
use Rattle.hic_asm.specs.Faults.{fault_at, given, tested, and_then}
use Rattle.hic_asm.specs.Operands.{Target, Index, Label}
use Rattle.hic_asm.specs.Lines.{Line, Empty, Defines, Task, Segment, Record, Code, Draft, line_at}
use Rattle.hic_asm.specs.Assembly.{Named, named, Seen, nothing, limit_fault, record_fault, place_fault, seen_with, unless, defined_by, line_after, Built, built, resolved, entry_of, with_instr, instr_of, built_by, line_built, in_line, pass, entries_or_first, first_pass, some_code, second_pass, object_of, assembled_lines, assembled}
use Rattle.hic_asm.proofs.FormLaws.{NumberFits, find-all, instr_at-made}
use Rattle.hic_asm.proofs.Passes.{pass-keeps, pass-adds, total}
use Rattle.hic_asm.proofs.LineTells.{TargetFits, DraftFits, LineFits, line_at-says}

-- ---- what a line defines

unless-ok : {X : Type 0} (o : Option Fault) (x y : X) → unless o x ≡ Ok y → (o ≡ None) × (x ≡ y)
unless-ok None x y is = (refl, cc)
unless-ok (Some f) x y is = absurd (cc)

defined_by-is : (s : Seen) (line : Line) (next : Seen) → defined_by s line ≡ Ok next → (place_fault s line ≡ None) × (seen_with s line ≡ next)
unfolding defined_by
defined_by-is s line next is = unless-ok (place_fault s line) (seen_with s line) next is

limit_at : (full : Bool) → cond full (Some fault.Limit) None ≡ None → full ≡ false
limit_at true none = absurd (cc)
limit_at false none = refl

limit-none : (most count : ℕ) → limit_fault most count ≡ None → count < most
limit-none most count none = leb-false most count (limit_at (leb most count) none)

-- a record that has no fault may stand next
pub record MayFollow (s : Seen) (word : DataRec) : Type 0 where
  pub room : length s.words < most_records
  pub segment : word.segment < length s.kinds
  pub above : is_above_last (last s.words) word ≡ true

record_at : (full missing above : Bool) → cond (full || missing) (Some fault.Limit) (cond above None (Some fault.Order)) ≡ None → (full ≡ false) × (missing ≡ false) × (above ≡ true)
record_at true missing above none = absurd (cc)
record_at false true above none = absurd (cc)
record_at false false true none = (refl, refl, refl)
record_at false false false none = absurd (cc)

record-none : (s : Seen) (word : DataRec) → record_fault s word ≡ None → MayFollow s word
record-none s word none =
    let tests = record_at (leb most_records (length s.words)) (leb (length s.kinds) word.segment) (is_above_last (last s.words) word) none in
    record { room = leb-false _ _ tests.0; segment = leb-false _ _ tests.1; above = tests.2 }

next_is : (segments : ℕ) (before : Option DataRec) (word : DataRec) → word.segment < segments → 1 ≤ word.value → is_above_last before word ≡ true → IsNext segments before word
unfolding is_next
next_is segments before word there some above =
    is_next-is segments before word (ap (λ b. (b && leb 1 word.value) && is_above_last before word) (lt-ltb _ _ there) ∙ ap (λ b. b && is_above_last before word) (le-leb _ _ some) ∙ above)

-- ---- records that grow

more_segments : (few many : ℕ) (before : Option DataRec) (words : List DataRec) → few ≤ many → AreRecords few before words → AreRecords many before words
more_segments few many before [] wider all = tt
more_segments few many before (word ∷ words) wider all =
    (record { segment = omega (arith, all.0.segment); some = all.0.some; above = all.0.above }, more_segments few many (Some word) words wider all.1)

-- the last of these records, or the one before them
lasting : Option DataRec → List DataRec → Option DataRec
lasting before [] = before
lasting before (word ∷ words) = lasting (Some word) words

lasting-get : (word : DataRec) (words : List DataRec) (d : DataRec) → lasting (Some word) words ≡ Some (get_or (word ∷ words) (length words) d)
unfolding lasting
lasting-get word [] d = refl
lasting-get word (next ∷ words) d = lasting-get next words d

lasting-last : (words : List DataRec) → lasting None words ≡ last words
unfolding lasting
lasting-last [] = refl
lasting-last (word ∷ words) =
    let place : length (word ∷ words) - 1 ≡ length words = omega arith in
    lasting-get word words word ∙ sym (slice_get-get_or (word ∷ words) (length words) word (omega arith)) ∙ ap (λ n. slice_get (word ∷ words) n) (sym place)

records-push : (segments : ℕ) (before : Option DataRec) (words : List DataRec) (word : DataRec) → AreRecords segments before words → IsNext segments (lasting before words) word → AreRecords segments before (words ++ word ∷ [])
unfolding lasting
records-push segments before [] word all next = (next, tt)
records-push segments before (first ∷ words) word all next = (all.0, records-push segments (Some first) words word all.1 next)

all-push : {X : Type 0} (P : X → Type 0) (xs : List X) (x : X) → AllByRecursion P xs → P x → AllByRecursion P (xs ++ x ∷ [])
all-push P [] x all here = (here, tt)
all-push P (y ∷ ys) x all here = (all.0, all-push P ys x all.1 here)

-- ---- what is defined keeps the rules

pub record SeenFits (s : Seen) : Type 0 where
  pub labels : AllByRecursion (λ label. label.index < 2 ^ 32) s.labels
  pub tasks : s.tasks ≤ most_tasks
  pub segments : length s.kinds ≤ most_segments
  pub words : length s.words ≤ most_records
  pub records : AreRecords (length s.kinds) None s.words
  pub code : s.code ≤ most_instructions

nothing-fits : SeenFits nothing
nothing-fits = record { labels = tt; tasks = omega arith; segments = omega arith; words = omega arith; records = tt; code = omega arith }

seen_with-fits : (s : Seen) (line : Line) → SeenFits s → LineFits line → place_fault s line ≡ None → SeenFits (seen_with s line)
seen_with-fits s Empty fits here none = fits
seen_with-fits s (Defines name) fits here none = record {
  labels = all-push (λ label. label.index < 2 ^ 32) s.labels (named name s.code) fits.labels (omega (arith, fits.code));
  tasks = fits.tasks;
  segments = fits.segments;
  words = fits.words;
  records = fits.records;
  code = fits.code;
}
seen_with-fits s (Task entry) fits here none = record {
  labels = fits.labels;
  tasks = omega (arith, limit-none most_tasks s.tasks none);
  segments = fits.segments;
  words = fits.words;
  records = fits.records;
  code = fits.code;
}
seen_with-fits s (Segment kind) fits here none =
    let more = length-append s.kinds (kind ∷ []) in
    record {
      labels = fits.labels;
      tasks = fits.tasks;
      segments = omega (arith, more, limit-none most_segments (length s.kinds) none);
      words = fits.words;
      records = more_segments (length s.kinds) (length (s.kinds ++ kind ∷ [])) None s.words (omega (arith, more)) fits.records;
      code = fits.code;
    }
seen_with-fits s (Record word) fits here none =
    let follows = record-none s word none in
    let next : IsNext (length s.kinds) (lasting None s.words) word = subst (λ o. IsNext (length s.kinds) o word) (sym (lasting-last s.words)) (next_is (length s.kinds) (last s.words) word follows.segment here follows.above) in
    record {
      labels = fits.labels;
      tasks = fits.tasks;
      segments = fits.segments;
      words = omega (arith, length-append s.words (word ∷ []), follows.room);
      records = records-push (length s.kinds) None s.words word fits.records next;
      code = fits.code;
    }
seen_with-fits s (Code d) fits here none = record {
  labels = fits.labels;
  tasks = fits.tasks;
  segments = fits.segments;
  words = fits.words;
  records = fits.records;
  code = omega (arith, limit-none most_instructions s.code none);
}

defined_by-fits : (s : Seen) (r : Result Line Fault) (next : Seen) → SeenFits s → ((line : Line) → r ≡ Ok line → LineFits line) → and_then r (defined_by s) ≡ Ok next → SeenFits next
defined_by-fits s (Ok line) next fits here is = let d = defined_by-is s line next is in subst SeenFits d.1 (seen_with-fits s line fits (here line refl) d.0)
defined_by-fits s (Err f) next fits here is = absurd (cc)

line_after-fits : (s : Seen) (bytes : List ℕ) (next : Seen) → SeenFits s → line_after s bytes ≡ Ok next → SeenFits next
unfolding line_after
line_after-fits s bytes next fits is = defined_by-fits s (line_at bytes) next fits (line_at-says bytes).says is

pub first_pass-fits : (lines : List (List ℕ)) (s : Seen) → first_pass lines ≡ Ok s → SeenFits s
first_pass-fits lines s is = pass-keeps SeenFits line_after line_after-fits 1 nothing lines s nothing-fits is

-- ---- what is built is of the same tasks and instructions

abbrev tasks_of : Line → ℕ
tasks_of Empty = 0
tasks_of (Defines name) = 0
tasks_of (Task entry) = 1
tasks_of (Segment kind) = 0
tasks_of (Record word) = 0
tasks_of (Code d) = 0

abbrev code_of : Line → ℕ
code_of Empty = 0
code_of (Defines name) = 0
code_of (Task entry) = 0
code_of (Segment kind) = 0
code_of (Record word) = 0
code_of (Code d) = 1

-- how many of something a line is, where it is a line
abbrev counted : (Line → ℕ) → Result Line Fault → ℕ
counted count (Ok line) = count line
counted count (Err f) = 0

abbrev line_count : (Line → ℕ) → List ℕ → ℕ
line_count count bytes = counted count (line_at bytes)

seen_with-tasks : (s : Seen) (line : Line) → (seen_with s line).tasks ≡ s.tasks + tasks_of line
seen_with-tasks s Empty = omega arith
seen_with-tasks s (Defines name) = omega arith
seen_with-tasks s (Task entry) = refl
seen_with-tasks s (Segment kind) = omega arith
seen_with-tasks s (Record word) = omega arith
seen_with-tasks s (Code d) = omega arith

seen_with-code : (s : Seen) (line : Line) → (seen_with s line).code ≡ s.code + code_of line
seen_with-code s Empty = omega arith
seen_with-code s (Defines name) = omega arith
seen_with-code s (Task entry) = omega arith
seen_with-code s (Segment kind) = omega arith
seen_with-code s (Record word) = omega arith
seen_with-code s (Code d) = refl

defined_by-counts : (m : Seen → ℕ) (count : Line → ℕ) → ((s : Seen) (line : Line) → m (seen_with s line) ≡ m s + count line)
    → (s : Seen) (r : Result Line Fault) (next : Seen) → and_then r (defined_by s) ≡ Ok next → m next ≡ m s + counted count r
defined_by-counts m count adds s (Ok line) next is = ap m (sym (defined_by-is s line next is).1) ∙ adds s line
defined_by-counts m count adds s (Err f) next is = absurd (cc)

first_pass-counts : (m : Seen → ℕ) (count : Line → ℕ) → m nothing ≡ 0 → ((s : Seen) (line : Line) → m (seen_with s line) ≡ m s + count line)
    → (lines : List (List ℕ)) (s : Seen) → first_pass lines ≡ Ok s → m s ≡ total (line_count count) lines
unfolding line_after
first_pass-counts m count none adds lines s is =
    let all = pass-adds m (line_count count) line_after (λ x bytes next fine. defined_by-counts m count adds x (line_at bytes) next fine) 1 nothing lines s is in omega arith

-- ---- entries and instructions

given-ok : {X : Type 0} (o : Option X) (f : Fault) (x : X) → given o f ≡ Ok x → o ≡ Some x
given-ok None f x is = absurd (cc)
given-ok (Some y) f x is = cc

entry_at : (test : Bool) (n m : ℕ) → given (cond test (Some n) None) fault.Limit ≡ Ok m → (test ≡ true) × (n ≡ m)
entry_at true n m is = (refl, cc)
entry_at false n m is = absurd (cc)

entry_of-below : (s : Seen) (found : Result ℕ Fault) (n : ℕ) → and_then found (λ k. tested (ltb k s.code) fault.Limit k) ≡ Ok n → n < s.code
entry_of-below s (Ok k) n is = let e = entry_at (ltb k s.code) k n is in omega (arith, ltb-true k s.code e.0, e.1)
entry_of-below s (Err f) n is = absurd (cc)

label-below : (found : Option Named) (n : ℕ) → ((label : Named) → found ≡ Some label → label.index < 2 ^ 32) → option_map (λ label. label.index) found ≡ Some n → n < 2 ^ 32
label-below None n below is = absurd (cc)
label-below (Some label) n below is = let e : label.index ≡ n = cc in omega (arith, below label refl)

-- the number that a target stands for fits its field
resolved-fits : (s : Seen) (target : Target) (n : ℕ) (kind : _) → SeenFits s → TargetFits kind target → resolved s.labels target ≡ Some n → NumberFits kind n
resolved-fits s (Index m) n kind fits here is = let e : m ≡ n = cc in subst (NumberFits kind) e here
resolved-fits s (Label name) n kind fits here is =
    let below = label-below (find (λ label. bytes_eq name label.name) s.labels) n (λ label found. find-all (λ l. l.index < 2 ^ 32) (λ l. bytes_eq name l.name) s.labels label fits.labels found) is in
    subst (λ k. NumberFits k n) (sym here) below

-- a draft with its number is an instruction
instr_of-some : (d : Draft) (n : ℕ) (fits : DraftFits d) → NumberFits fits.form.imm n → is_some (instr_of d n) ≡ true
instr_of-some d n fits here =
    let made = fits.is_form.makes d.a d.b d.c n fits.a fits.b fits.c here in
    ap (λ opcode. is_some (instr_at (bytes_of (row opcode d.a d.b d.c n)))) fits.opcode ∙ ap is_some (instr_at-made (row fits.form.opcode d.a d.b d.c n) made)

-- what a line adds to what is built
pub record Adds (s : Seen) (b next : Built) (line : Line) : Type 0 where
  pub entries : length next.entries ≡ length b.entries + tasks_of line
  pub code : length next.code ≡ length b.code + code_of line
  pub below : AllByRecursion (λ n. n < s.code) b.entries → AllByRecursion (λ n. n < s.code) next.entries

adds-nothing : (s : Seen) (b next : Built) (line : Line) → tasks_of line ≡ 0 → code_of line ≡ 0 → b ≡ next → Adds s b next line
adds-nothing s b next line no_task no_code is = record {
  entries = omega (arith, ap (λ x. length x.entries) is);
  code = omega (arith, ap (λ x. length x.code) is);
  below = λ all. subst (λ x. AllByRecursion (λ n. n < s.code) x.entries) is all;
}

ok_is : (b next : Built) → given (Some b) fault.Word ≡ Ok next → b ≡ next
ok_is b next is = cc

adds_entry : (s : Seen) (b next : Built) (entry : Target) (r : Result ℕ Fault) → ((n : ℕ) → r ≡ Ok n → n < s.code) → and_then r (λ n. given (Some (record b { entries = b.entries ++ n ∷ [] })) fault.Word) ≡ Ok next → Adds s b next (Task entry)
adds_entry s b next entry (Ok n) below is =
    let e = ok_is (record b { entries = b.entries ++ n ∷ [] }) next is in
    record {
      entries = omega (arith, ap (λ x. length x.entries) e, length-append b.entries (n ∷ []));
      code = omega (arith, ap (λ x. length x.code) e);
      below = λ all. subst (λ x. AllByRecursion (λ n. n < s.code) x.entries) e (all-push (λ n. n < s.code) b.entries n all (below n refl));
    }
adds_entry s b next entry (Err f) below is = absurd (cc)

with_instr-code : (b : Built) (o : Option Instr) → is_some o ≡ true → length (with_instr b o).code ≡ length b.code + 1
with_instr-code b None some = absurd (cc)
with_instr-code b (Some instr) some = length-append b.code (instr ∷ [])

with_instr-entries : (b : Built) (o : Option Instr) → (with_instr b o).entries ≡ b.entries
with_instr-entries b None = refl
with_instr-entries b (Some instr) = refl

adds_code : (s : Seen) (b next : Built) (d : Draft) (r : Result ℕ Fault) → ((n : ℕ) → r ≡ Ok n → is_some (instr_of d n) ≡ true) → and_then r (λ n. given (Some (with_instr b (instr_of d n))) fault.Word) ≡ Ok next → Adds s b next (Code d)
adds_code s b next d (Ok n) some is =
    let e = ok_is (with_instr b (instr_of d n)) next is in
    let entries = with_instr-entries b (instr_of d n) ∙ refl in
    record {
      entries = omega (arith, ap (λ x. length x.entries) e, ap length entries);
      code = omega (arith, ap (λ x. length x.code) e, with_instr-code b (instr_of d n) (some n refl));
      below = λ all. subst (λ x. AllByRecursion (λ n. n < s.code) x.entries) e (subst (λ xs. AllByRecursion (λ n. n < s.code) xs) (sym entries) all);
    }
adds_code s b next d (Err f) some is = absurd (cc)

built_by-adds : (s : Seen) (b : Built) (line : Line) (next : Built) → SeenFits s → LineFits line → built_by s b line ≡ Ok next → Adds s b next line
unfolding built_by
built_by-adds s b Empty next fits here is = adds-nothing s b next Empty refl refl (ok_is b next is)
built_by-adds s b (Defines name) next fits here is = adds-nothing s b next (Defines name) refl refl (ok_is b next is)
built_by-adds s b (Task entry) next fits here is = adds_entry s b next entry (entry_of s entry) (λ n fine. entry_of-below s _ n fine) is
built_by-adds s b (Segment kind) next fits here is = adds-nothing s b next (Segment kind) refl refl (ok_is b next is)
built_by-adds s b (Record word) next fits here is = adds-nothing s b next (Record word) refl refl (ok_is b next is)
built_by-adds s b (Code d) next fits here is =
    adds_code s b next d (given (resolved s.labels d.imm) fault.LabelMissing) (λ n fine. instr_of-some d n here (resolved-fits s d.imm n here.form.imm fits here.imm (given-ok _ fault.LabelMissing n fine))) is

line_adds : (s : Seen) (b : Built) (r : Result Line Fault) (next : Built) → SeenFits s → ((line : Line) → r ≡ Ok line → LineFits line) → and_then r (built_by s b) ≡ Ok next
    → (length next.entries ≡ length b.entries + counted tasks_of r) × (length next.code ≡ length b.code + counted code_of r) × (AllByRecursion (λ n. n < s.code) b.entries → AllByRecursion (λ n. n < s.code) next.entries)
line_adds s b (Ok line) next fits here is = let adds = built_by-adds s b line next fits (here line refl) is in (adds.entries, adds.code, adds.below)
line_adds s b (Err f) next fits here is = absurd (cc)

-- ---- the whole

some_at : (test : Bool) (count : ℕ) (first s : Seen) → in_line count (given (cond test (Some first) None) fault.Limit) ≡ Ok s → (test ≡ true) × (first ≡ s)
some_at true count first s is = (refl, cc)
some_at false count first s is = absurd (cc)

first_at : (r : Result Seen AsmError) (count : ℕ) (s : Seen) → and_then r (λ first. some_code count first) ≡ Ok s → (r ≡ Ok s) × (1 ≤ s.code)
first_at (Ok first) count s is =
    let e = some_at (leb 1 first.code) (count + 1) first s is in (ap Ok e.1, omega (arith, leb-true 1 first.code e.0, ap (λ x. x.code) e.1))
first_at (Err e) count s is = absurd (cc)

entries-some : (entries : List ℕ) → 1 ≤ length (entries_or_first entries)
entries-some [] = omega arith
entries-some (entry ∷ entries) = omega arith

entries-few : (entries : List ℕ) → length entries ≤ most_tasks → length (entries_or_first entries) ≤ most_tasks
entries-few [] few = omega arith
entries-few (entry ∷ entries) few = few

entries-below : (code : ℕ) (entries : List ℕ) → 1 ≤ code → AllByRecursion (λ n. n < code) entries → AllByRecursion (λ n. n < code) (entries_or_first entries)
entries-below code [] some all = (omega arith, tt)
entries-below code (entry ∷ entries) some all = all

-- the object of a source without a fault keeps the rules
pub keeps_rules : (lines : List (List ℕ)) (s : Seen) (b : Built) → and_then (first_pass lines) (λ first. some_code (length lines) first) ≡ Ok s → second_pass lines s ≡ Ok b → KeepsRules (object_of s b)
unfolding line_built
keeps_rules lines s b first second =
    let passed = first_at (first_pass lines) (length lines) s first in
    let fits = first_pass-fits lines s passed.0 in
    let tasks = first_pass-counts (λ x. x.tasks) tasks_of refl seen_with-tasks lines s passed.0 in
    let code = first_pass-counts (λ x. x.code) code_of refl seen_with-code lines s passed.0 in
    let adds = λ (x : Built) (bytes : List ℕ) (next : Built) (fine : line_built s x bytes ≡ Ok next). line_adds s x (line_at bytes) next fits (line_at-says bytes).says fine in
    let entries = pass-adds (λ x. length x.entries) (line_count tasks_of) (line_built s) (λ x bytes next fine. (adds x bytes next fine).0) 1 (built [] []) lines b second in
    let instrs = pass-adds (λ x. length x.code) (line_count code_of) (line_built s) (λ x bytes next fine. (adds x bytes next fine).1) 1 (built [] []) lines b second in
    let below = pass-keeps (λ x. AllByRecursion (λ n. n < s.code) x.entries) (line_built s) (λ x bytes next all fine. (adds x bytes next fine).2 all) 1 (built [] []) lines b tt second in
    let same : length b.code ≡ s.code = omega arith in
    record {
      some_tasks = entries-some b.entries;
      tasks = entries-few b.entries (omega (arith, fits.tasks));
      segments = fits.segments;
      some_code = omega (arith, passed.1);
      code_count = omega (arith, fits.code);
      words_count = fits.words;
      in_code = subst (λ n. AllByRecursion (λ entry. entry < n) (entries_or_first b.entries)) (sym same) (entries-below s.code b.entries passed.1 below);
      records = fits.records;
    }

-- ---- the laws

abbrev given_object : Parts → Result Parts AsmError
given_object o = Ok o

object_or : Parts → Result Parts AsmError → Parts
object_or d (Ok o) = o
object_or d (Err e) = d

done_is : (o p : Parts) → given_object o ≡ Ok p → o ≡ p
unfolding object_or
done_is o p is = ap (object_or o) is

second_at : (r : Result Built AsmError) (s : Seen) (o : Parts) → and_then r (λ b. given_object (object_of s b)) ≡ Ok o → (b : Built) × (r ≡ Ok b) × (object_of s b ≡ o)
second_at (Ok b) s o is = (b, refl, done_is (object_of s b) o is)
second_at (Err e) s o is = absurd (cc)

whole_at : (lines : List (List ℕ)) (r : Result Seen AsmError) (o : Parts) → ((s : Seen) → r ≡ Ok s → and_then (first_pass lines) (λ first. some_code (length lines) first) ≡ Ok s)
    → and_then r (λ s. and_then (second_pass lines s) (λ b. given_object (object_of s b))) ≡ Ok o → KeepsRules o
whole_at lines (Ok s) o first is = let second = second_at (second_pass lines s) s o is in subst KeepsRules second.2 (keeps_rules lines s second.0 (first s refl) second.1)
whole_at lines (Err e) o first is = absurd (cc)

nested : (r : Result Seen AsmError) (lines : List (List ℕ)) →
    and_then r (λ first. and_then (some_code (length lines) first) (λ s. and_then (second_pass lines s) (λ b. given_object (object_of s b))))
    ≡ and_then (and_then r (λ first. some_code (length lines) first)) (λ s. and_then (second_pass lines s) (λ b. given_object (object_of s b)))
nested (Ok s) lines = refl
nested (Err e) lines = refl

pub assembled-rules : (text : List ℕ) (o : Parts) → assembled text ≡ Ok o → KeepsRules o
unfolding assembled_lines
assembled-rules text o is = let lines = pieces text in whole_at lines (and_then (first_pass lines) (λ first. some_code (length lines) first)) o (λ s first. first) (sym (nested (first_pass lines) lines) ∙ is)

-- no fault is want of memory
record NotMemory {X : Type 0} (r : Result X AsmError) : Type 0 where
  never : r ≢ Err OutOfMemory

fault_at-memory : (line : ℕ) (f : Fault) → fault_at line f ≢ OutOfMemory
fault_at-memory line fault.NotText e = cc
fault_at-memory line fault.Word e = cc
fault_at-memory line fault.LabelTwice e = cc
fault_at-memory line fault.Operand e = cc
fault_at-memory line fault.Register e = cc
fault_at-memory line fault.Number e = cc
fault_at-memory line fault.Limit e = cc
fault_at-memory line fault.Order e = cc
fault_at-memory line fault.LabelMissing e = cc

NotMemory-ok : {X : Type 0} (x : X) → NotMemory (Ok x)
NotMemory-ok x = record { never = λ e. absurd (cc) }

NotMemory-line : {X : Type 0} (line : ℕ) (r : Result X Fault) → NotMemory (in_line line r)
NotMemory-line line (Ok x) = NotMemory-ok x
NotMemory-line line (Err f) = record { never = λ e. let same : fault_at line f ≡ OutOfMemory = cc in fault_at-memory line f same }

NotMemory-then : {X Y : Type 0} (r : Result X AsmError) (onward : X → Result Y AsmError) → NotMemory r → ((x : X) → NotMemory (onward x)) → NotMemory (and_then r onward)
NotMemory-then (Ok x) onward first all = all x
NotMemory-then (Err error) onward first all = record { never = λ e. let same : error ≡ OutOfMemory = cc in first.never (ap Err same) }

NotMemory-pass : {X : Type 0} (line : X → List ℕ → Result X Fault) (number : ℕ) (state : X) (lines : List (List ℕ)) → NotMemory (pass line number state lines)
unfolding pass
NotMemory-pass line number state [] = NotMemory-ok state
NotMemory-pass line number state (bytes ∷ rest) = NotMemory-then (in_line number (line state bytes)) (λ next. pass line (number + 1) next rest) (NotMemory-line number (line state bytes)) (λ next. NotMemory-pass line (number + 1) next rest)

pub assembled-memory : (text : List ℕ) → assembled text ≢ Err OutOfMemory
unfolding assembled_lines
assembled-memory text =
    let lines = pieces text in
    (NotMemory-then (first_pass lines) _ (NotMemory-pass line_after 1 nothing lines) (λ first.
    NotMemory-then (some_code (length lines) first) (λ s. and_then (second_pass lines s) (λ b. given_object (object_of s b))) (NotMemory-line (length lines + 1) _) (λ s.
    NotMemory-then (second_pass lines s) (λ b. given_object (object_of s b)) (NotMemory-pass (line_built s) 1 (built [] []) lines) (λ b. NotMemory-ok (object_of s b))))).never

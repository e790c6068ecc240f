-- No reader's fault is want of memory.
use Rattle.std.proofs.Common.{◌≡◌, ℕ, zero, suc, ◌*◌, Bool, true, false, cond, List, [], ◌∷◌, ◌++◌, length, take, drop, Option, Some, None, Result, Ok, Err, ap}
use Rattle.std.specs.Prelude.{◌≢◌, nat_lt, nat_le, ◌&&◌, ◌==◌, bytes_eq, codes}
use Rattle.std.specs.Int.{Width, w8, w16, w32, w64, byte_len, from_le_bytes}
use Rattle.hic_isa.specs.declared.instr.Instr.{Instr}
use Rattle.hic_isa.specs.declared.instr.SegKind.{SegKind}
use Rattle.hic_isa.specs.Decoding.{instr_at}
use Rattle.hic_object.specs.declared.error.CountName.{CountName}
use Rattle.hic_object.specs.declared.error.CountName.TheVariants as names
use Rattle.hic_object.specs.declared.error.ObjectError.{ObjectError}
use Rattle.hic_object.specs.declared.error.ObjectError.TheVariants.{Magic, Version, Count, Entry, BadKind, BadData, Code, Short, Long, OutOfMemory}
use Rattle.hic_object.specs.declared.object.DataRec.{DataRec}
use Rattle.hic_object.specs.Parts.{parts, most_tasks, most_segments, most_instructions, most_records}
use Rattle.hic_object.specs.Reading.{Reader, onward, ◌>>=◌, gives, given, field_at, number_at, items_at, kept, within_at, magic_at, version_at, count_at, Counts, counts, counts_at, entry_at, kind_from, kind_at, is_next, fields_at, last, data_at, instruction_at, body_at, parts_at, ended, object_at}
use Rattle.hic_object.proofs.Steps.{after_code, after_segments, after_tasks, entries_at, kinds_at, after_words, after_kinds, after_entries}
use Rattle.hic_object.proofs.Readers.{done}
use Rattle.hic_object.proofs.Fields.{fields}

abbrev failed : {A : Type 0} → ObjectError → Result A ObjectError
failed e = Err e

fault_is : {A : Type 0} (d e : ObjectError) → failed {A = A} d ≡ failed e → d ≡ e
fault_is d e same = cc

-- whatever the bytes, the reader does not give want of memory
record IsFree {X : Type 0} (r : Reader X) : Type 0 where
  never : (bytes : List ℕ) → r bytes ≢ Err OutOfMemory

free-gives : {X : Type 0} (x : X) → IsFree (gives x)
free-gives x = record { never = λ bytes same. absurd cc }

free-given : {X : Type 0} (o : Option X) (fault : ObjectError) → fault ≢ OutOfMemory → IsFree (given o fault)
free-given (Some x) fault other = free-gives x
free-given None fault other = record { never = λ bytes same. other (fault_is fault OutOfMemory same) }

onward_free : {X Y : Type 0} (q : Result (X × List ℕ) ObjectError) (f : X → Reader Y) → q ≢ Err OutOfMemory → ((x : X) → IsFree (f x)) → onward q f ≢ Err OutOfMemory
onward_free (Ok x) f first second = (second x.0).never x.1
onward_free {X} (Err e) f first second = λ same. first (ap (failed {A = X × List ℕ}) (fault_is e OutOfMemory same))

-- one field after the other
free-then : {X Y : Type 0} (r : Reader X) (f : X → Reader Y) → IsFree r → ((x : X) → IsFree (f x)) → IsFree (r >>= f)
free-then r f first second = record { never = λ bytes. onward_free (r bytes) f (first.never bytes) second }

chosen_free : {A : Type 0} (b : Bool) (fault : ObjectError) (x : A) → fault ≢ OutOfMemory → cond b (failed fault) (done x) ≢ failed OutOfMemory
chosen_free true fault x other = λ same. other (fault_is fault OutOfMemory same)
chosen_free false fault x other = λ same. absurd cc

free-field : (n : ℕ) → IsFree (field_at n)
free-field n = record { never = λ bytes. chosen_free (nat_lt (length bytes) n) Short (take n bytes, drop n bytes) (λ same. absurd cc) }

free-number : (w : Width) → IsFree (number_at w)
free-number w = free-then (field_at (byte_len w)) (λ bytes. gives (from_le_bytes w bytes)) (free-field (byte_len w)) (λ bytes. free-gives (from_le_bytes w bytes))

-- a value that is picked from what was read
free-picked : {X Y : Type 0} (r : Reader X) (pick : X → Option Y) (fault : ObjectError) → IsFree r → fault ≢ OutOfMemory → IsFree (r >>= λ x. given (pick x) fault)
free-picked r pick fault free other = free-then r (λ x. given (pick x) fault) free (λ x. free-given (pick x) fault other)

free-tested : {X : Type 0} (r : Reader X) (test : X → Bool) (fault : ObjectError) → IsFree r → fault ≢ OutOfMemory → IsFree (r >>= λ x. given (cond (test x) (Some x) None) fault)
free-tested r test fault = free-picked r (λ x. cond (test x) (Some x) None) fault

free-items : {X : Type 0} (item : List X → Reader X) → ((before : List X) → IsFree (item before)) → (n : ℕ) (before : List X) → IsFree (items_at item n before)
unfolding items_at
free-items item free zero before = free-gives before
free-items item free (suc n) before = free-then (item before) (λ x. items_at item n (before ++ x ∷ [])) (free before) (λ x. free-items item free n (before ++ x ∷ []))

free-kept : {X : Type 0} (q : Result (X × List ℕ) ObjectError) → q ≢ Err OutOfMemory → IsFree (kept q)
free-kept (Ok x) other = free-gives x.0
free-kept {X} (Err e) other = record { never = λ bytes same. other (ap (failed {A = X × List ℕ}) (fault_is e OutOfMemory same)) }

free-within : {X : Type 0} (n : ℕ) (r : Reader X) → IsFree r → IsFree (within_at n r)
unfolding within_at
free-within n r free = free-then (field_at n) (λ bytes. kept (r bytes)) (free-field n) (λ bytes. free-kept (r bytes) (free.never bytes))

-- ---- the head

free-magic : IsFree magic_at
unfolding magic_at
free-magic = free-tested (field_at 4) (λ bytes. bytes_eq bytes (codes "HICP")) Magic (free-field 4) (λ same. absurd cc)

free-version : IsFree version_at
unfolding version_at
free-version = free-tested (number_at w8) (λ n. n == 1) Version (free-number w8) (λ same. absurd cc)

free-count : (at : CountName) (w : Width) (low high : ℕ) → IsFree (count_at at w low high)
unfolding count_at
free-count at w low high = free-tested (number_at w) (λ n. nat_le low n && nat_le n high) (Count at) (free-number w) (λ same. absurd cc)

free-counts : IsFree counts_at
unfolding counts_at after_tasks after_segments after_code
free-counts =
    free-then (count_at names.Tasks w8 1 most_tasks) after_tasks (free-count names.Tasks w8 1 most_tasks) (λ tasks.
    free-then (count_at names.Segments w16 0 most_segments) (after_segments tasks) (free-count names.Segments w16 0 most_segments) (λ segments.
    free-then (count_at names.Code w32 1 most_instructions) (after_code tasks segments) (free-count names.Code w32 1 most_instructions) (λ code.
    free-then (count_at names.Words w32 0 most_records) (λ words. gives (counts tasks segments code words)) (free-count names.Words w32 0 most_records) (λ words.
    free-gives (counts tasks segments code words)))))

-- ---- the items

free-entry : (code : ℕ) (before : List ℕ) → IsFree (entry_at code before)
unfolding entry_at
free-entry code before = free-tested (number_at w32) (λ n. nat_lt n code) (Entry (length before)) (free-number w32) (λ same. absurd cc)

free-kind : (before : List SegKind) → IsFree (kind_at before)
unfolding kind_at
free-kind before = free-picked (number_at w8) kind_from (BadKind (length before)) (free-number w8) (λ same. absurd cc)

free-fields : IsFree fields_at
unfolding fields_at fields
free-fields =
    free-then (number_at w16) (λ segment. number_at w32 >>= λ offset. number_at w64 >>= λ value. gives (fields segment offset value)) (free-number w16) (λ segment.
    free-then (number_at w32) (λ offset. number_at w64 >>= λ value. gives (fields segment offset value)) (free-number w32) (λ offset.
    free-then (number_at w64) (λ value. gives (fields segment offset value)) (free-number w64) (λ value.
    free-gives (fields segment offset value))))

free-data : (segments : ℕ) (before : List DataRec) → IsFree (data_at segments before)
unfolding data_at
free-data segments before = free-tested fields_at (λ d. is_next segments (last before) d) (BadData (length before)) free-fields (λ same. absurd cc)

free-instruction : (before : List Instr) → IsFree (instruction_at before)
unfolding instruction_at
free-instruction before = free-picked (field_at 8) instr_at (Code (length before)) (free-field 8) (λ same. absurd cc)

-- ---- the whole

free-body : (h : Counts) → IsFree (body_at h)
unfolding body_at after_entries after_kinds after_words
free-body h =
    free-then (entries_at h) (after_entries h) (free-within (4 * h.tasks) (items_at (entry_at h.code) h.tasks []) (free-items (entry_at h.code) (free-entry h.code) h.tasks [])) (λ entries.
    free-then (kinds_at h) (after_kinds h entries) (free-within h.segments (items_at kind_at h.segments []) (free-items kind_at free-kind h.segments [])) (λ kinds.
    free-then (items_at (data_at h.segments) h.words []) (after_words h entries kinds) (free-items (data_at h.segments) (free-data h.segments) h.words []) (λ words.
    free-then (items_at instruction_at h.code []) (λ code. gives (parts entries kinds words code)) (free-items instruction_at free-instruction h.code []) (λ code.
    free-gives (parts entries kinds words code)))))

free-parts : IsFree parts_at
unfolding parts_at
free-parts =
    free-then magic_at (λ _. version_at >>= λ _. counts_at >>= body_at) free-magic (λ _.
    free-then version_at (λ _. counts_at >>= body_at) free-version (λ _.
    free-then counts_at body_at free-counts free-body))

long_free : {A : Type 0} (b : Bool) (x : A) → cond b (done x) (failed Long) ≢ failed OutOfMemory
long_free true x = λ same. absurd cc
long_free false x = λ same. absurd cc

ended_free : {X : Type 0} (q : Result (X × List ℕ) ObjectError) → q ≢ Err OutOfMemory → ended q ≢ Err OutOfMemory
ended_free (Ok x) other = long_free (length x.1 == 0) x.0
ended_free {X} (Err e) other = λ same. other (ap (failed {A = X × List ℕ}) (fault_is e OutOfMemory same))

pub object_at-no_memory : (bytes : List ℕ) → object_at bytes ≢ Err OutOfMemory
unfolding object_at
object_at-no_memory bytes = ended_free (parts_at bytes) (free-parts.never bytes)

-- Laws of the fields of an object file.
use Rattle.std.proofs.Common.{◌≡◌, ℕ, zero, suc, ◌^◌, ◌<◌, ◌≤◌, Bool, true, cond, List, [], ◌∷◌, ◌++◌, length, Option, Some, None, refl, sym, ap, subst, ◌∙◌, arith, inl, inr}
use Rattle.std.specs.Prelude.{nat_lt, nat_le, ◌&&◌, ◌==◌, bytes_eq, codes}
use Rattle.std.specs.Int.{Width, w8, w16, w32, w64, byte_len, from_le_bytes, to_le_bytes}
use Rattle.std.proofs.lemmas.Bool.{and_parts, ltb-true, leb-true, lt-ltb, eqb-true}
use Rattle.std.proofs.lemmas.Bool.Decides.{nat_tests}
use Rattle.std.proofs.lemmas.Nat.{le_bytes_2, le_bytes_4, le_bytes_8, from_le_bytes-to_le_bytes_2, from_le_bytes-to_le_bytes_4, from_le_bytes-to_le_bytes_8}
use Rattle.std.proofs.lemmas.Option.{cond_some}
use Rattle.std.proofs.lemmas.Slice.Eq.{bytes_eq-Decides}
use Rattle.hic_isa.specs.declared.instr.Instr.{Instr}
use Rattle.hic_isa.specs.declared.instr.SegKind.{SegKind}
use Rattle.hic_isa.specs.declared.instr.SegKind.TheVariants.{Plain, Merge}
use Rattle.hic_isa.specs.Spelling.{spelling, IsInstr}
use Rattle.hic_isa.specs.Decoding.{instr_at}
use Rattle.hic_isa.proofs.SpellingLaws.{instr_at-spelling, spelling-instr_at, length-spelling}
use Rattle.hic_object.specs.declared.error.CountName.{CountName}
use Rattle.hic_object.specs.declared.error.ObjectError.{ObjectError}
use Rattle.hic_object.specs.declared.error.ObjectError.TheVariants.{Magic, Version, Count, Entry, BadKind, BadData, Code}
use Rattle.hic_object.specs.declared.object.DataRec.{DataRec}
use Rattle.hic_object.specs.Parts.{IsAbove, IsNext, IsRecord}
use Rattle.hic_object.specs.Spelled.{kind_bytes, data_bytes}
use Rattle.hic_object.specs.Reading.{Reader, ◌>>=◌, gives, tested, field_at, number_at, magic_at, version_at, count_at, entry_at, kind_from, kind_at, is_above, is_next, fields_at, last, data_at, instruction_at}
use Rattle.hic_object.proofs.Readers.{Reads, Reads-field, Reads-then, Reads-picked, Tells, Tells-field, Tells-then, Tells-picked, Tells-made, Reads-made, IsBytes}

-- ---- numbers

-- the numbers below the limit and their texts of a width correspond
pub record IsWide (w : Width) (limit : ℕ) (text_of : ℕ → List ℕ) : Type 0 where
  pub len : (n : ℕ) → length (text_of n) ≡ byte_len w
  pub back : (bytes : List ℕ) → length bytes ≡ byte_len w → IsBytes bytes → text_of (from_le_bytes w bytes) ≡ bytes
  pub again : (n : ℕ) → n < limit → from_le_bytes w (text_of n) ≡ n
  pub below : (bytes : List ℕ) → IsBytes bytes → from_le_bytes w bytes < limit

abbrev pub one_byte : ℕ → List ℕ
one_byte n = n ∷ []

one_back : (bytes : List ℕ) → length bytes ≡ 1 → one_byte (from_le_bytes w8 bytes) ≡ bytes
one_back [] len = absurd (omega arith)
one_back (b ∷ []) len = ap one_byte (omega arith)
one_back (b ∷ c ∷ bytes) len = absurd (omega arith)

pub wide8 : IsWide w8 (2 ^ 8) one_byte
wide8 = record {
  len = λ n. refl;
  back = λ bytes len fits. one_back bytes len;
  again = λ n lt. omega arith;
  below = λ bytes fits. omega (arith, fits 0);
}

pub wide16 : IsWide w16 (2 ^ 16) (to_le_bytes w16)
wide16 = record {
  len = λ n. refl;
  back = λ bytes len fits. le_bytes_2 bytes _ len fits refl;
  again = λ n lt. from_le_bytes-to_le_bytes_2 n lt;
  below = λ bytes fits. omega (arith, fits 0, fits 1);
}

pub wide32 : IsWide w32 (2 ^ 32) (to_le_bytes w32)
wide32 = record {
  len = λ n. refl;
  back = λ bytes len fits. le_bytes_4 bytes _ len fits refl;
  again = λ n lt. from_le_bytes-to_le_bytes_4 n lt;
  below = λ bytes fits. omega (arith, fits 0, fits 1, fits 2, fits 3);
}

pub wide64 : IsWide w64 (2 ^ 64) (to_le_bytes w64)
wide64 = record {
  len = λ n. refl;
  back = λ bytes len fits. le_bytes_8 bytes _ len fits refl;
  again = λ n lt. from_le_bytes-to_le_bytes_8 n lt;
  below = λ bytes fits. omega (arith, fits 0, fits 1, fits 2, fits 3, fits 4, fits 5, fits 6, fits 7);
}

-- a number below the limit, with its text
abbrev pub IsNumber : ℕ → (ℕ → List ℕ) → ℕ → List ℕ → Type 0
IsNumber limit text_of n text = (text ≡ text_of n) × (n < limit)

pub Reads-number : (w : Width) (limit : ℕ) (text_of : ℕ → List ℕ) → IsWide w limit text_of → (n : ℕ) → n < limit → Reads (number_at w) (text_of n) n
Reads-number w limit text_of wide n lt =
    subst (λ (m : ℕ). Reads (number_at w) (text_of n) m) (wide.again n lt)
    (Reads-made (field_at (byte_len w)) (from_le_bytes w) (text_of n) (text_of n) (Reads-field (byte_len w) (text_of n) (wide.len n)))

pub Tells-number : (w : Width) (limit : ℕ) (text_of : ℕ → List ℕ) → IsWide w limit text_of → Tells (number_at w) (IsNumber limit text_of)
Tells-number w limit text_of wide =
    Tells-made (field_at (byte_len w)) (from_le_bytes w) (λ x text. (x ≡ text) × (length text ≡ byte_len w)) (IsNumber limit text_of) (Tells-field (byte_len w))
    (λ x text fits says.
    let x-fits : IsBytes x = subst IsBytes (sym says.0) fits in
    (sym says.0 ∙ sym (wide.back x (ap length says.0 ∙ says.1) x-fits), wide.below x x-fits))

pub Reads-tested : {X : Type 0} (r : Reader X) (test : X → Bool) (fault : X → ObjectError) (a : List ℕ) (x : X) → Reads r a x → test x ≡ true → Reads (r >>= λ v. tested (test v) (fault v) v) a x
Reads-tested r test fault a x reads is = Reads-picked r (λ v. cond (test v) (Some v) None) fault a x x reads (ap (λ (b : Bool). cond b (Some x) None) is)

pub Tells-tested : {X : Type 0} (r : Reader X) (test : X → Bool) (fault : X → ObjectError) (P : X → List ℕ → Type 0) (Q : X → List ℕ → Type 0)
    → Tells r P → ((x : X) (text : List ℕ) → IsBytes text → P x text → test x ≡ true → Q x text) → Tells (r >>= λ v. tested (test v) (fault v) v) Q
Tells-tested {X} r test fault P Q tells passes =
    Tells-picked r (λ v. cond (test v) (Some v) None) fault P Q tells (λ x y text fits says is.
    let kept = cond_some (test x) x y is in
    subst (λ (z : X). Q z text) kept.1 (passes x text fits says kept.0))

-- ---- the head

pub Reads-magic : Reads magic_at (codes "HICP") (codes "HICP")
unfolding magic_at
Reads-magic = Reads-tested (field_at 4) (λ bytes. bytes_eq bytes (codes "HICP")) (λ _. Magic) (codes "HICP") (codes "HICP") (Reads-field 4 (codes "HICP") refl) refl

pub Tells-magic : Tells magic_at (λ _ text. text ≡ codes "HICP")
unfolding magic_at
Tells-magic = Tells-tested (field_at 4) (λ bytes. bytes_eq bytes (codes "HICP")) (λ _. Magic) (λ x text. (x ≡ text) × (length text ≡ 4)) (λ _ text. text ≡ codes "HICP") (Tells-field 4)
    (λ x text fits says is. sym says.0 ∙ (bytes_eq-Decides x (codes "HICP")).0 is)

pub Reads-version : Reads version_at (one_byte 1) 1
unfolding version_at
Reads-version = Reads-tested (number_at w8) (λ n. n == 1) (λ _. Version) (one_byte 1) 1 (Reads-number w8 (2 ^ 8) one_byte wide8 1 (omega arith)) refl

pub Tells-version : Tells version_at (λ _ text. text ≡ one_byte 1)
unfolding version_at
Tells-version = Tells-tested (number_at w8) (λ n. n == 1) (λ _. Version) (IsNumber (2 ^ 8) one_byte) (λ _ text. text ≡ one_byte 1) (Tells-number w8 (2 ^ 8) one_byte wide8)
    (λ n text fits says is. says.0 ∙ ap one_byte (eqb-true n 1 is))

in_range : (low n high : ℕ) → low ≤ n → n ≤ high → (nat_le low n && nat_le n high) ≡ true
in_range low n high p q = grind (arith, nat_tests)

in_range-true : (low n high : ℕ) → (nat_le low n && nat_le n high) ≡ true → (low ≤ n) × (n ≤ high)
in_range-true low n high is = grind (arith, nat_tests)

pub Reads-count : (at : CountName) (w : Width) (limit : ℕ) (text_of : ℕ → List ℕ) → IsWide w limit text_of → (low high n : ℕ) → low ≤ n → n ≤ high → n < limit → Reads (count_at at w low high) (text_of n) n
unfolding count_at
Reads-count at w limit text_of wide low high n p q lt =
    Reads-tested (number_at w) (λ m. nat_le low m && nat_le m high) (λ _. Count at) (text_of n) n (Reads-number w limit text_of wide n lt) (in_range low n high p q)

pub Tells-count : (at : CountName) (w : Width) (limit : ℕ) (text_of : ℕ → List ℕ) → IsWide w limit text_of → (low high : ℕ) → Tells (count_at at w low high) (λ n text. (text ≡ text_of n) × (low ≤ n) × (n ≤ high))
unfolding count_at
Tells-count at w limit text_of wide low high =
    Tells-tested (number_at w) (λ m. nat_le low m && nat_le m high) (λ _. Count at) (IsNumber limit text_of) (λ n text. (text ≡ text_of n) × (low ≤ n) × (n ≤ high)) (Tells-number w limit text_of wide)
    (λ n text fits says is. let r = in_range-true low n high is in (says.0, r.0, r.1))

-- ---- entries and kinds

pub Reads-entry : (code : ℕ) (before : List ℕ) (n : ℕ) → n < code → n < 2 ^ 32 → Reads (entry_at code before) (to_le_bytes w32 n) n
unfolding entry_at
Reads-entry code before n below lt =
    Reads-tested (number_at w32) (λ m. nat_lt m code) (λ _. Entry (length before)) (to_le_bytes w32 n) n (Reads-number w32 (2 ^ 32) (to_le_bytes w32) wide32 n lt) (lt-ltb n code below)

pub Tells-entry : (code : ℕ) (before : List ℕ) → Tells (entry_at code before) (λ n text. (text ≡ to_le_bytes w32 n) × (n < code))
unfolding entry_at
Tells-entry code before =
    Tells-tested (number_at w32) (λ m. nat_lt m code) (λ _. Entry (length before)) (IsNumber (2 ^ 32) (to_le_bytes w32)) (λ n text. (text ≡ to_le_bytes w32 n) × (n < code)) (Tells-number w32 (2 ^ 32) (to_le_bytes w32) wide32)
    (λ n text fits says is. (says.0, ltb-true n code is))

kind_number : SegKind → ℕ
kind_number Plain = 0
kind_number Merge = 1

number-kind : (k : SegKind) → one_byte (kind_number k) ≡ kind_bytes k
unfolding kind_number
number-kind Plain = refl
number-kind Merge = refl

kind_from-number : (k : SegKind) → kind_from (kind_number k) ≡ Some k
unfolding kind_number
kind_from-number Plain = refl
kind_from-number Merge = refl

kind_number-small : (k : SegKind) → kind_number k < 2 ^ 8
unfolding kind_number
kind_number-small Plain = omega arith
kind_number-small Merge = omega arith

kind_from-bytes : (n : ℕ) (k : SegKind) → kind_from n ≡ Some k → one_byte n ≡ kind_bytes k
kind_from-bytes zero Plain is = refl
kind_from-bytes zero Merge is = absurd cc
kind_from-bytes (suc zero) Plain is = absurd cc
kind_from-bytes (suc zero) Merge is = refl
kind_from-bytes (suc (suc n)) k is = absurd cc

pub Reads-kind : (before : List SegKind) (k : SegKind) → Reads (kind_at before) (kind_bytes k) k
unfolding kind_at
Reads-kind before k =
    subst (λ (t : List ℕ). Reads (kind_at before) t k) (number-kind k)
    (Reads-picked (number_at w8) kind_from (λ _. BadKind (length before)) (one_byte (kind_number k)) (kind_number k) k (Reads-number w8 (2 ^ 8) one_byte wide8 (kind_number k) (kind_number-small k)) (kind_from-number k))

pub Tells-kind : (before : List SegKind) → Tells (kind_at before) (λ k text. (text ≡ kind_bytes k) × Unit {0})
unfolding kind_at
Tells-kind before =
    Tells-picked (number_at w8) kind_from (λ _. BadKind (length before)) (IsNumber (2 ^ 8) one_byte) (λ k text. (text ≡ kind_bytes k) × Unit {0}) (Tells-number w8 (2 ^ 8) one_byte wide8)
    (λ n k text fits says is. (says.0 ∙ kind_from-bytes n k is, tt))

-- ---- instructions

pub Reads-instruction : (before : List Instr) (i : Instr) → IsInstr i → Reads (instruction_at before) (spelling i) i
unfolding instruction_at
Reads-instruction before i is =
    Reads-picked (field_at 8) instr_at (λ _. Code (length before)) (spelling i) (spelling i) i (Reads-field 8 (spelling i) (length-spelling i)) (instr_at-spelling i is)

pub Tells-instruction : (before : List Instr) → Tells (instruction_at before) (λ i text. (text ≡ spelling i) × IsInstr i)
unfolding instruction_at
Tells-instruction before =
    Tells-picked (field_at 8) instr_at (λ _. Code (length before)) (λ x text. (x ≡ text) × (length text ≡ 8)) (λ i text. (text ≡ spelling i) × IsInstr i) (Tells-field 8)
    (λ bytes i text fits says is. let s = spelling-instr_at bytes i (subst IsBytes (sym says.0) fits) is in (sym says.0 ∙ sym s.1, s.0))

-- ---- data

-- a record, with its text
abbrev IsFields : DataRec → List ℕ → Type 0
IsFields d text = (text ≡ data_bytes d) × IsRecord d

unfoldable pub fields : ℕ → ℕ → ℕ → DataRec
fields segment offset value = record { segment = segment; offset = offset; value = value }

Reads-fields : (d : DataRec) → d.segment < 2 ^ 16 → IsRecord d → Reads fields_at (data_bytes d) d
unfolding fields_at fields
Reads-fields d p is =
    Reads-then (number_at w16) (λ segment. number_at w32 >>= λ offset. number_at w64 >>= λ value. gives (fields segment offset value)) (to_le_bytes w16 d.segment) (to_le_bytes w32 d.offset ++ to_le_bytes w64 d.value) d.segment d
    (Reads-number w16 (2 ^ 16) (to_le_bytes w16) wide16 d.segment p)
    (Reads-then (number_at w32) (λ offset. number_at w64 >>= λ value. gives (fields d.segment offset value)) (to_le_bytes w32 d.offset) (to_le_bytes w64 d.value) d.offset d
    (Reads-number w32 (2 ^ 32) (to_le_bytes w32) wide32 d.offset is.offset)
    (Reads-made (number_at w64) (fields d.segment d.offset) (to_le_bytes w64 d.value) d.value (Reads-number w64 (2 ^ 64) (to_le_bytes w64) wide64 d.value is.value)))

Tells-fields : Tells fields_at IsFields
unfolding fields_at fields
Tells-fields =
    Tells-then (number_at w16) (λ segment. number_at w32 >>= λ offset. number_at w64 >>= λ value. gives (fields segment offset value)) (IsNumber (2 ^ 16) (to_le_bytes w16)) IsFields
    (Tells-number w16 (2 ^ 16) (to_le_bytes w16) wide16) (λ segment a a-fits one.
    Tells-then (number_at w32) (λ offset. number_at w64 >>= λ value. gives (fields segment offset value)) (IsNumber (2 ^ 32) (to_le_bytes w32)) (λ d text. IsFields d (a ++ text))
    (Tells-number w32 (2 ^ 32) (to_le_bytes w32) wide32) (λ offset b b-fits two.
    Tells-made (number_at w64) (fields segment offset) (IsNumber (2 ^ 64) (to_le_bytes w64)) (λ d text. IsFields d (a ++ (b ++ text)))
    (Tells-number w64 (2 ^ 64) (to_le_bytes w64) wide64) (λ value text fits three.
    (rw (one.0, two.0, three.0) refl, record { offset = two.1; value = three.1 }))))

is_above-true : (low high : DataRec) → IsAbove low high → is_above low high ≡ true
is_above-true low high (inl lt) = rw (lt-ltb low.segment high.segment lt) refl
is_above-true low high (inr both) = grind (arith, nat_tests)

is_above-is : (low high : DataRec) → is_above low high ≡ true → IsAbove low high
is_above-is low high is = grind (arith, nat_tests)

pub is_next-true : (segments : ℕ) (before : Option DataRec) (d : DataRec) → IsNext segments before d → is_next segments before d ≡ true
unfolding is_next
is_next-true segments None d is = grind (arith, nat_tests, is.segment, is.some)
is_next-true segments (Some low) d is = grind (arith, nat_tests, is.segment, is.some, is_above-true low d is.above)

pub is_next-is : (segments : ℕ) (before : Option DataRec) (d : DataRec) → is_next segments before d ≡ true → IsNext segments before d
unfolding is_next
is_next-is segments None d is =
    let parts = and_parts (nat_lt d.segment segments && nat_le 1 d.value) true is in
    let first = and_parts (nat_lt d.segment segments) (nat_le 1 d.value) parts.0 in
    record { segment = ltb-true d.segment segments first.0; some = leb-true 1 d.value first.1; above = tt }
is_next-is segments (Some low) d is =
    let parts = and_parts (nat_lt d.segment segments && nat_le 1 d.value) (is_above low d) is in
    let first = and_parts (nat_lt d.segment segments) (nat_le 1 d.value) parts.0 in
    record { segment = ltb-true d.segment segments first.0; some = leb-true 1 d.value first.1; above = is_above-is low d parts.1 }

pub Reads-data : (segments : ℕ) (before : List DataRec) (d : DataRec) → segments ≤ 65536 → IsNext segments (last before) d → IsRecord d → Reads (data_at segments before) (data_bytes d) d
unfolding data_at
Reads-data segments before d few is fits =
    let small : d.segment < 2 ^ 16 = omega (arith, is.segment) in
    Reads-tested fields_at (λ e. is_next segments (last before) e) (λ _. BadData (length before)) (data_bytes d) d (Reads-fields d small fits) (is_next-true segments (last before) d is)

pub Tells-data : (segments : ℕ) (before : List DataRec) → Tells (data_at segments before) (λ d text. (text ≡ data_bytes d) × (IsNext segments (last before) d × IsRecord d))
unfolding data_at
Tells-data segments before =
    Tells-tested fields_at (λ e. is_next segments (last before) e) (λ _. BadData (length before)) IsFields (λ d text. (text ≡ data_bytes d) × (IsNext segments (last before) d × IsRecord d)) Tells-fields
    (λ d text fits says is. (says.0, (is_next-is segments (last before) d is, says.1)))

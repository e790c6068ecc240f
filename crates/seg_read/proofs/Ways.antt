-- The lines on the way to an offset: a part's own, and those of the quarter where the offset lies.
use Rattle.std.proofs.Common.{◌≡◌, ℕ, zero, suc, ◌-◌, ◌/◌, ◌%◌, ◌^◌, ◌<◌, ◌≤◌, List, [], ◌∷◌, Some, Bool, true, false, ltb, cond, refl, sym, ◌∙◌, ap, subst, inl, inr, arith}
use Rattle.std.proofs.lemmas.Bool.{cases_lt, le-ltb, lt-ltb}
use Rattle.hic_word.specs.Width.{four_wide}
use Rattle.hic_word.specs.declared.Kind.TheVariants as kinds
use Rattle.hic_word.specs.declared.Word.{Word}
use Rattle.hic_word.specs.Values.{Array}
use Rattle.hic_word.specs.Entries.{Entry, LineValue, Named, Pack, Zero}
use Rattle.hic_word.specs.Parts.{part}
use Rattle.hic_word.specs.Heights.{height}
use Rattle.hic_word.specs.Canon.{IsPart, enc}
use Rattle.hic_word.specs.FormLaws.{raised}
use Rattle.hic_word.specs.InMemory.{RootIn}
use Rattle.hic_word.specs.Memory.{Memory}
use Rattle.hic_word.specs.Names.{named_id}
use Rattle.hic_word.specs.Stands.{EntryFor, IdFor, Lookup, NamedEntry, PackEntry, ZeroEntry, node_bits}
use Rattle.hic_word.proofs.callers.Bits.{node_id, id_fits, kind_is}
use Rattle.hic_word.proofs.callers.Forms.{EntryFits, EntryFits-part, lines_tell_heights, entries_are_raised}
use Rattle.hic_word.proofs.callers.Slices.{IsBelow-more}
use Rattle.hic_word.proofs.callers.Standing.{one_value}
use Rattle.std.proofs.Math.Nat.{pow-le-pow_right}
use Rattle.seg_canon.specs.declared.parts.Part.{Part}
use Rattle.seg_canon.specs.Opens.{IsOne}
use Rattle.seg_canon.specs.Parts.{PartFor}
use Rattle.seg_canon.specs.Raises.{if_low, one_if_packed, raises}
use Rattle.seg_canon.proofs.Pieces.{enc-empty, pack_height}
use Rattle.seg_read.specs.Levels.{lines_on_way, lines_to, own_line}
use Rattle.seg_read.proofs.Rooting.{root_height}

-- there is none in an empty array
pub lines_to-empty : (h i : ℕ) → lines_to 4 h [] i ≡ 0
lines_to-empty zero i = refl
lines_to-empty (suc k) i =
    let own = ap own_line (enc-empty 4 (suc k)) in
    let rest = lines_to-empty k (i % 4 ^ k) in
    omega (arith, own, rest)

-- no more than one a level
own_line_most : (e : Entry) → own_line e ≤ 1
own_line_most Zero = omega arith
own_line_most (Pack ns) = omega arith
own_line_most (Named L []) = omega arith
own_line_most (Named L (q ∷ p)) = omega arith

pub lines_to-low : (h i : ℕ) (A : Array) → lines_to 4 h A i ≤ h
lines_to-low zero i A = omega arith
lines_to-low (suc k) i A =
    let own = own_line_most (enc 4 (suc k) A) in
    let rest = lines_to-low k (i % 4 ^ k) (part 4 A (suc k) (i / 4 ^ k)) in
    omega (arith, own, rest)

-- a part of which one quarter alone is not empty has no line of its own, unless it is packed and has to be raised
pack_kind : {m : Lookup} {x : Word} {e : Entry} (ns : List ℕ) → EntryFor 4 m x e → e ≡ Pack ns → x.kind ≡ kinds.Pack
pack_kind ns (ZeroEntry is) e = cc
pack_kind ns (PackEntry is) e = kind_is is
pack_kind ns (NamedEntry i is) e = cc

below_own : {m : Lookup} {p : Part} {A : Array} (h : ℕ) → PartFor 4 m p A → suc h ≡ p.top → p.at ≤ h → raises p ≡ 0 → (e : Entry) → enc 4 h A ≡ e → own_line (raised 4 e) ≡ 0
below_own h f up high none Zero is = refl
below_own h f up high none (Named L q) is = refl
below_own {p = p} {A = A} h f up high none (Pack ns) is =
    let lowest = pack_height 4 h A ns is in
    let some = f.is_part.positive in
    let same : p.at ≡ h = omega (arith, lowest, some, high) in
    let packed = pack_kind ns f.entry (ap (λ n. enc 4 n A) same ∙ is) in
    let one : raises p ≡ 1 = ap (λ b. if_low b (one_if_packed p.entry.kind)) (lt-ltb p.at p.top (omega (arith, up, high))) ∙ ap one_if_packed packed in
    absurd (omega (arith, none, one))

raised_own : {m : Lookup} {p : Part} {A : Array} (h : ℕ) → PartFor 4 m p A → suc h ≡ p.top → p.at ≤ h → raises p ≡ 0 → own_line (enc 4 p.top A) ≡ 0
raised_own {p = p} {A = A} h f up high none =
    let a = f.is_part in
    let some = a.positive in
    let top = f.low in
    let whole : IsPart 4 h A = record { positive = omega (arith, some, high); low = omega (arith, top, up); valid = a.valid; below = IsBelow-more (4 ^ p.at) (4 ^ h) A (pow-le-pow_right (omega arith) high) a.below } in
    ap own_line (ap (λ n. enc 4 n A) (sym up) ∙ entries_are_raised 4 h A four_wide whole) ∙ below_own h f up high none (enc 4 h A) refl

-- entries whose words name one line have one line value
named_value : {m : Lookup} {x y : Word} {L : LineValue} {p : List ℕ} {d : Entry} → EntryFor 4 m x (Named L p) → EntryFits 4 (Named L p) → EntryFor 4 m y d → EntryFits 4 d → named_id x ≡ named_id y → (q : List ℕ) × (d ≡ Named L q)
unfolding EntryFits
named_value (NamedEntry i a) k (ZeroEntry b) l n = let some = ap named_id a in let none = ap named_id b in absurd cc
named_value (NamedEntry i a) k (PackEntry b) l n = let some = ap named_id a in let none = ap named_id b in absurd cc
named_value {m} {L = L} (NamedEntry {id = id} {p = p} i a) k (NamedEntry {id = other} {L = M} {p = q} j b) l n =
    let named : Some (node_bits 4 id p % 2 ^ 24) ≡ Some (node_bits 4 other q % 2 ^ 24) = sym (ap named_id a) ∙ n ∙ ap named_id b in
    let bits : node_bits 4 id p % 2 ^ 24 ≡ node_bits 4 other q % 2 ^ 24 = cc in
    let ids : other ≡ id = sym (node_id 4 other q (id_fits j)) ∙ sym bits ∙ node_id 4 id p (id_fits i) in
    let same : L ≡ M = one_value four_wide i k.2 (subst (λ o. IdFor 4 m o M) ids j) l.2 in
    (q, ap (λ K. Named K q) (sym same))

whole_own : {m : Lookup} {p r : Part} {q : ℕ} {A : Array} → IsOne 4 m p q r A → PartFor 4 m p A → (e : Entry) → enc 4 p.at A ≡ e → p.at ≡ p.top → own_line e ≡ 0
whole_own o f Zero is at = refl
whole_own o f (Pack ns) is at = refl
whole_own o f (Named L (i ∷ path)) is at = refl
whole_own {m} {p} {r} {q} {A} o f (Named L []) is at =
    let tall = lines_tell_heights 4 p.at A L [] four_wide f.is_part is in
    let (path, made) = named_value (subst (EntryFor 4 m p.entry) is f.entry) (subst (EntryFits 4) is (EntryFits-part four_wide f.is_part)) o.quarter.entry (EntryFits-part four_wide o.quarter.is_part) (sym o.names) in
    let lower = lines_tell_heights 4 r.at (part 4 A p.top q) L path four_wide o.quarter.is_part made in
    let high = o.quarter.high in
    let top = o.top in
    absurd (omega (arith, tall, lower, high, top, at))

pub one_own : {m : Lookup} {p r : Part} {q : ℕ} {A : Array} → IsOne 4 m p q r A → PartFor 4 m p A → raises p ≡ 0 → own_line (enc 4 p.top A) ≡ 0
one_own {m} {p} {r} {q} {A} o f none = elim (cases_lt p.at p.top) [
  | inl less ↦ raised_own (p.top - 1) f (omega (arith, less)) (omega (arith, less)) none
  | inr most ↦ let high = f.high in let at : p.at ≡ p.top = omega (arith, most, high) in ap (λ h. own_line (enc 4 h A)) (sym at) ∙ whole_own o f (enc 4 p.at A) refl at
]

-- from an array's root
pub lines_within : {m : Memory} {x : Word} {A : Array} (i h : ℕ) → RootIn m x A → 1 ≤ h → h ≡ x.height → i < 4 ^ h → lines_on_way 4 A i ≡ lines_to 4 h A i
lines_within {m} {x} {A} i h r some e low =
    let same : height 4 A ≡ h = sym (e ∙ root_height r (omega (arith, e, some))) in
    ap (λ n. cond (ltb i (4 ^ n)) (lines_to 4 n A i) 0) same ∙ ap (λ b. cond b (lines_to 4 h A i) 0) (lt-ltb i (4 ^ h) low)

pub lines_past : {m : Memory} {x : Word} {A : Array} (i : ℕ) → RootIn m x A → 1 ≤ x.height → 4 ^ x.height ≤ i → lines_on_way 4 A i ≡ 0
lines_past {m} {x} {A} i r some past =
    let same : height 4 A ≡ x.height = sym (root_height r some) in
    ap (λ n. cond (ltb i (4 ^ n)) (lines_to 4 n A i) 0) same ∙ ap (λ b. cond b (lines_to 4 x.height A i) 0) (le-ltb i (4 ^ x.height) past)

pub lines_none : (i : ℕ) (A : Array) → A ≡ [] → lines_on_way 4 A i ≡ 0
unfolding height
lines_none i A none = ap (λ B. lines_on_way 4 B i) none ∙ go (ltb i (4 ^ 0))
  where
    go : (b : Bool) → cond b (lines_to 4 0 [] i) 0 ≡ lines_to 4 0 [] i
    go true = refl
    go false = refl

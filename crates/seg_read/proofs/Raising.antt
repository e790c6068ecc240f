-- What is inside a part takes no more lines to be raised than the part does.
use Rattle.std.proofs.Common.{◌≡◌, ℕ, ◌≤◌, Bool, true, false, ltb, List, [], ◌∷◌, map, None, refl, sym, ◌∙◌, ap, arith}
use Rattle.std.proofs.lemmas.Bool.{le-ltb, lt-ltb}
use Rattle.hic_word.specs.declared.Kind.{Kind}
use Rattle.hic_word.specs.declared.Kind.TheVariants.{Node, Num, Pack, RefNode, RefPack}
use Rattle.hic_word.specs.declared.Word.{Word}
use Rattle.hic_word.specs.Values.{Array}
use Rattle.hic_word.specs.Entries.{Entry, Zero}
use Rattle.hic_word.specs.Names.{id_if, named_id}
use Rattle.hic_word.specs.Stands.{EntryFor, Lookup, NamedEntry, PackEntry, ZeroEntry}
use Rattle.hic_word.proofs.callers.Bits.{kind_is}
use Rattle.seg_canon.specs.declared.parts.Part.{Part}
use Rattle.seg_canon.specs.Parts.{PartFor, whole_part}
use Rattle.seg_canon.specs.Raises.{all_raises, if_low, one_if_packed, raises}
use Rattle.seg_canon.specs.Opens.{IsOne}
use Rattle.seg_canon.proofs.Opening.{entry_packed}
use Rattle.seg_canon.proofs.Pieces.{empty_part, pack_height}
use Rattle.seg_read.proofs.Entering.{one_high}

-- a part that is taken at its whole height takes no line
pub raises_whole : (p : Part) → p.at ≡ p.top → raises p ≡ 0
raises_whole p e = ap (λ b. if_low b (one_if_packed p.entry.kind)) (le-ltb p.at p.top (omega (arith, e)))

-- one packed line at most
if_low_most : (b : Bool) (n : ℕ) → if_low b n ≤ n
if_low_most true n = omega arith
if_low_most false n = omega arith

-- an entry that names nothing and is not empty is packed
packed_entry : {m : Lookup} {x : Word} {e : Entry} → EntryFor 4 m x e → named_id x ≡ None → (e ≡ Zero → ⊥) → x.kind ≡ Pack
packed_entry (ZeroEntry is) none n = absurd (n refl)
packed_entry (PackEntry is) none n = kind_is is
packed_entry (NamedEntry i is) none n = let named = ap named_id is in cc

-- where the only quarter with a word is packed, so is the part, which is higher than its packed entry
pub one_raises : {m : Lookup} {p : Part} {r : Part} {q : ℕ} {A : Array} → IsOne 4 m p q r A → PartFor 4 m p A → raises r ≤ raises p
one_raises {m} {p} {r} {q} {A} o f = go r.entry.kind refl
  where
    most : raises r ≤ one_if_packed r.entry.kind
    most = if_low_most (ltb r.at r.top) (one_if_packed r.entry.kind)

    less : (n : ℕ) → one_if_packed r.entry.kind ≡ n → n ≡ 0 → raises r ≤ raises p
    less n e z = omega (arith, most, e, z)

    this : r.entry.kind ≡ Pack → raises r ≤ raises p
    this k =
        let none : named_id p.entry ≡ None = sym o.names ∙ ap (λ (t : Kind). id_if t r.entry.bits) k in
        let packed = packed_entry f.entry none (λ z. o.some (empty_part p.at A f.is_part z)) in
        let (ns, is, bits) = entry_packed f.entry packed in
        let lowest = pack_height 4 p.at A ns is in
        let high = one_high o in
        let one : raises p ≡ 1 = ap (λ b. if_low b (one_if_packed p.entry.kind)) (lt-ltb p.at p.top (omega (arith, lowest, high))) ∙ ap one_if_packed packed in
        let small : one_if_packed r.entry.kind ≡ 1 = ap one_if_packed k in
        omega (arith, most, one, small)

    go : (k : Kind) → r.entry.kind ≡ k → raises r ≤ raises p
    go Pack e = this e
    go Num e = less 0 (ap one_if_packed e) refl
    go Node e = less 0 (ap one_if_packed e) refl
    go RefNode e = less 0 (ap one_if_packed e) refl
    go RefPack e = less 0 (ap one_if_packed e) refl

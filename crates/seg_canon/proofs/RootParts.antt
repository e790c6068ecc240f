-- The parts of roots.
use Rattle.std.proofs.Common.{◌≡◌, ℕ, ◌^◌, ◌≤◌, [], None, refl, sym, ◌∙◌, ap, subst, arith}
use Rattle.hic_word.specs.declared.Kind.TheVariants.{Num, Node, RefNode}
use Rattle.hic_word.specs.declared.Kind.TheVariants as kinds
use Rattle.hic_word.specs.declared.Word.{Word}
use Rattle.hic_word.specs.Width.{IsWidth, greatest}
use Rattle.hic_word.specs.Values.{ArePairs, IsArray, IsBelow, IsValue, NoPair, Pair, Pairs, Ref, array, pairs-array}
use Rattle.hic_word.specs.Entries.{Entry, Named, Pack, Zero}
use Rattle.hic_word.specs.Heights.{height}
use Rattle.hic_word.specs.Canon.{enc, root_entry}
use Rattle.hic_word.specs.Names.{id_if, named_id}
use Rattle.hic_word.specs.Stands.{EntryFor, IsEmpty, IsPacked, IsStored, Lookup, NamedEntry, PackEntry, WordFor, ZeroEntry, word_of}
use Rattle.hic_word.proofs.callers.Forms.{by_width, height_positive, heights_are_least}
use Rattle.hic_word.proofs.callers.Bits.{bits_is, height_is, kind_is}
use Rattle.seg_canon.specs.Parts.{PartFor}
use Rattle.seg_canon.proofs.Pieces.{enc-empty}

-- the entry of a root
root_some : (w : ℕ) (H : Pairs) (e : Entry) → root_entry w (array H) ≡ e → (e ≡ Zero → ⊥) → 1 ≤ height w (array H)
root_some w NoPair e is n = absurd (n (sym is ∙ enc-empty w (height w [])))
root_some w (Pair o v H) e is n = height_positive w (o, v) (array H)

root_at : {w : ℕ} {m : Lookup} (x : Word) {y : Word} (H : Pairs) → x.height ≡ height w (array H) → EntryFor w m y (root_entry w (array H)) → EntryFor w m y (enc w x.height (array H))
root_at {w} {m} x {y} H h f = subst (λ j. EntryFor w m y (enc w j (array H))) (sym h) f

pub node_root : {w : ℕ} {m : Lookup} {x : Word} {H : Pairs} → x.kind ≡ RefNode → WordFor w m x (Ref H) → EntryFor w m (word_of Node 0 x.bits) (enc w x.height (array H))
node_root k (IsEmpty e) = let a = kind_is e in cc
node_root k (IsPacked z e) = let a = kind_is e in cc
node_root {w} {m} {x} {H} k (IsStored z i e) = root_at x H (height_is e) (subst (EntryFor w m (word_of Node 0 x.bits)) (sym z) (NamedEntry i (ap (word_of Node 0) (bits_is e))))

pub node_root_name : (x : Word) → x.kind ≡ RefNode → named_id (word_of Node 0 x.bits) ≡ named_id x
node_root_name x k = sym (ap (λ j. id_if j x.bits) k)

pub pack_root : {w : ℕ} {m : Lookup} {x : Word} {H : Pairs} → (x.kind ≡ RefNode → ⊥) → 1 ≤ x.height → WordFor w m x (Ref H) → EntryFor w m (word_of kinds.Pack 0 x.bits) (enc w x.height (array H))
pack_root k some (IsEmpty e) = let a = height_is e in absurd (omega arith)
pack_root {w} {m} {x} {H} k some (IsPacked z e) = root_at x H (height_is e) (subst (EntryFor w m (word_of kinds.Pack 0 x.bits)) (sym z) (PackEntry (ap (word_of kinds.Pack 0) (bits_is e))))
pack_root k some (IsStored z i e) = absurd (k (kind_is e))

pub pack_root_name : {w : ℕ} {m : Lookup} {x : Word} {H : Pairs} → (x.kind ≡ RefNode → ⊥) → WordFor w m x (Ref H) → named_id (word_of kinds.Pack 0 x.bits) ≡ named_id x
pack_root_name k (IsEmpty e) = sym (ap named_id e)
pack_root_name {x = x} k (IsPacked z e) = sym (ap (λ j. id_if j x.bits) (kind_is e))
pack_root_name k (IsStored z i e) = absurd (k (kind_is e))

-- each width has a height
some_height : {w : ℕ} → IsWidth w → 1 ≤ greatest w
some_height = by_width (λ w. 1 ≤ greatest w) (omega arith) (omega arith) (omega arith)

-- a root as a part
valid_array : (H : Pairs) → IsValue (Ref H) → IsArray (array H)
unfolding IsValue
valid_array H v = subst (ArePairs 0) (sym (pairs-array H)) v

pub empty_root : {w : ℕ} {m : Lookup} {x : Word} {H : Pairs} → WordFor w m x (Ref H) → x.height ≡ 0 → (array H ≡ []) × (named_id x ≡ None)
empty_root (IsEmpty e) h = (refl, ap named_id e)
empty_root {w} {H = H} (IsPacked {ns = ns} z e) h = let a = height_is e in let some = root_some w H (Pack ns) z (λ y. cc) in absurd (omega arith)
empty_root {w} {H = H} (IsStored {L = L} {p = p} z i e) h = let a = height_is e in let some = root_some w H (Named L p) z (λ y. cc) in absurd (omega arith)

pub empty_root_part : {w : ℕ} {m : Lookup} {x : Word} {H : Pairs} → IsWidth w → (top : ℕ) (y : Word) → WordFor w m x (Ref H) → x.height ≡ 0 → 1 ≤ top → top ≤ greatest w → y ≡ word_of Num 0 0
    → PartFor w m (record { top = top; at = 1; entry = y }) (array H)
unfolding IsValue
empty_root_part {w} {m} {x} {H} wide top y f h some low e =
    let (none, name) = empty_root f h in
    let empty : PartFor w m (record { top = top; at = 1; entry = y }) [] = record {
      is_part = record { positive = omega arith; low = some_height wide; valid = tt; below = tt };
      high = some;
      low = low;
      entry = ZeroEntry e;
    } in
    subst (PartFor w m (record { top = top; at = 1; entry = y })) (sym none) empty

-- the height of a reference is that of its array
pub word_height : {w : ℕ} {m : Lookup} {x : Word} {H : Pairs} → WordFor w m x (Ref H) → 1 ≤ x.height → x.height ≡ height w (array H)
word_height (IsEmpty e) some = let a = height_is e in absurd (omega arith)
word_height (IsPacked z e) some = height_is e
word_height (IsStored z i e) some = height_is e

pub root_part : {w : ℕ} {m : Lookup} {x : Word} {H : Pairs} → IsWidth w → (top : ℕ) (y : Word) → IsValue (Ref H) → WordFor w m x (Ref H) → 1 ≤ x.height → x.height ≤ top → top ≤ greatest w
    → EntryFor w m y (enc w x.height (array H)) → PartFor w m (record { top = top; at = x.height; entry = y }) (array H)
root_part {w} {m} {x} {H} wide top y v f some less low e =
    let a = valid_array H v in
    let least = heights_are_least w (array H) wide a in
    let same = word_height f some in
    record {
      is_part = record { positive = some; low = omega arith; valid = a; below = subst (λ h. IsBelow (w ^ h) (array H)) (sym same) least.room };
      high = less;
      low = low;
      entry = e;
    }

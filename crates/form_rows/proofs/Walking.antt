-- The line that an entry or a root names is the one that is meant.
use Rattle.std.proofs.Common.{◌≡◌, ℕ, ◌^◌, ◌<◌, ◌%◌, List, None, Some, sym, ◌∙◌, ap, subst}
use Rattle.hic_word.specs.declared.Word.{Word}
use Rattle.hic_word.specs.Values.{Array, Pairs, Ref, array, array-pairs, pairs}
use Rattle.hic_word.specs.Entries.{LineValue, Named}
use Rattle.hic_word.specs.Canon.{root_entry}
use Rattle.hic_word.specs.InMemory.{RootIn}
use Rattle.hic_word.specs.Memory.{Memory, line_at}
use Rattle.hic_word.specs.Names.{named_id}
use Rattle.hic_word.specs.Stands.{EntryFor, IdFor, InnerAt, IsEmpty, IsPacked, IsStored, LeafAt, Lookup, NamedEntry, WordFor, node_bits}
use Rattle.hic_word.proofs.callers.Bits.{node_id}

id_fits : (m : Lookup) (id : ℕ) (L : LineValue) → IdFor 4 m id L → id < 2 ^ 24
id_fits m id L (LeafAt low e s) = low
id_fits m id L (InnerAt low e s) = low

line_named : (m : Lookup) (i id : ℕ) (p : List ℕ) (L : LineValue) → IdFor 4 m i L → Some (node_bits 4 i p % 2 ^ 24) ≡ Some id → IdFor 4 m id L
line_named m i id p L s e = subst (λ j. IdFor 4 m j L) (let a = node_id 4 i p (id_fits m i L s) in cc) s

pub entry_line : (m : Lookup) (x : Word) (L : LineValue) (p : List ℕ) (id : ℕ) → EntryFor 4 m x (Named L p) → named_id x ≡ Some id → IdFor 4 m id L
entry_line m x L p id (NamedEntry {id = i} s e) n = line_named m i id p L s (sym (ap named_id e) ∙ n)

word_line : (m : Lookup) (x : Word) (H : Pairs) (L : LineValue) (p : List ℕ) (id : ℕ) → WordFor 4 m x (Ref H) → root_entry 4 (array H) ≡ Named L p → named_id x ≡ Some id → IdFor 4 m id L
word_line m x H L p id (IsEmpty e) r n = absurd (let a : None ≡ Some id = ap named_id (sym e) ∙ n in cc)
word_line m x H L p id (IsPacked q e) r n = absurd (let a = sym q ∙ r in cc)
word_line m x H L p id (IsStored {id = i} {L = K} {p = k} q s e) r n =
    let same : K ≡ L = let a = sym q ∙ r in cc in
    subst (λ v. IdFor 4 m id v) same (line_named m i id k K s (sym (ap named_id e) ∙ n))

pub root_line : (m : Memory) (x : Word) (A : Array) (L : LineValue) (p : List ℕ) (id : ℕ) → RootIn m x A → root_entry 4 A ≡ Named L p → named_id x ≡ Some id → IdFor 4 (line_at m) id L
root_line m x A L p id r e n = word_line (line_at m) x (pairs A) L p id r.word (ap (root_entry 4) (array-pairs A) ∙ e) n

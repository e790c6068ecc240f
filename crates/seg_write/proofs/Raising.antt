-- A part taken to a greater height: its pieces, and the lines that are made for it.
use Rattle.std.proofs.Common.{◌≡◌, ℕ, zero, suc, ◌+◌, ◌<◌, ◌≤◌, Bool, true, false, ltb, List, ap, arith}
use Rattle.std.proofs.lemmas.Bool.{lt-ltb}
use Rattle.hic_word.specs.declared.Kind.{Kind}
use Rattle.hic_word.specs.declared.Kind.TheVariants.{Node, Num, RefNode, RefPack}
use Rattle.hic_word.specs.declared.Kind.TheVariants as kinds
use Rattle.hic_word.specs.declared.Word.{Word}
use Rattle.hic_word.specs.Values.{Array}
use Rattle.hic_word.specs.Entries.{inner}
use Rattle.hic_word.specs.FormLaws.{part_entries}
use Rattle.hic_word.specs.Stands.{EntriesFor, Lookup}
use Rattle.seg_canon.specs.declared.parts.Part.{Part}
use Rattle.seg_canon.specs.Folds.{PiecesFor}
use Rattle.seg_canon.specs.Raises.{if_low, one_if_packed, raises}

-- entries are the pieces of a part above the lowest
pub entries_pieces : (m : Lookup) (h : ℕ) (xs : List Word) (A : Array) → 2 ≤ h → EntriesFor 4 m xs (inner (part_entries 4 h A)) → PiecesFor 4 m h xs A
entries_pieces m zero xs A high es = absurd (omega arith)
entries_pieces m (suc zero) xs A high es = absurd (omega arith)
entries_pieces m (suc (suc k)) xs A high es = es

-- what is made for it: a line where it is packed, and none any higher
pub raises_low : (p : Part) → p.at < p.top → raises p ≡ one_if_packed p.entry.kind
raises_low p less = ap (λ t. if_low t (one_if_packed p.entry.kind)) (lt-ltb p.at p.top less)

-- a part one level higher, with this entry
abbrev pub higher : Part → Word → Part
higher p x = record { top = p.top; at = p.at + 1; entry = x }

-- raising a part makes one line at most
raise_one : (b : Bool) (k : Kind) → if_low b (one_if_packed k) ≤ 1
raise_one true Num = omega arith
raise_one true Node = omega arith
raise_one true kinds.Pack = omega arith
raise_one true RefNode = omega arith
raise_one true RefPack = omega arith
raise_one false k = omega arith

pub raises_one : (p : Part) → raises p ≤ 1
raises_one p = raise_one (ltb p.at p.top) p.entry.kind

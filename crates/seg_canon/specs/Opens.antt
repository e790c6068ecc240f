-- What an opened part is.
use Rattle.std.specs.Prelude.{◌≡◌, ◌≢◌, ℕ, suc, ◌<◌, List, [], Some}
use Rattle.hic_word.specs.Values.{Array}
use Rattle.hic_word.specs.Entries.{LineValue, Named, Pack}
use Rattle.hic_word.specs.Parts.{part, values}
use Rattle.hic_word.specs.Canon.{enc}
use Rattle.hic_word.specs.Names.{named_id}
use Rattle.hic_word.specs.Stands.{IdFor, Lookup, WordsFor}
use Rattle.seg_canon.specs.declared.parts.Part.{Part}
use Rattle.seg_canon.specs.declared.opened.Opened.{Opened}
use Rattle.seg_canon.specs.declared.opened.Opened.TheVariants.{Zero, Words, One, Stored}
use Rattle.seg_canon.specs.Parts.{PartFor}

-- one part alone is not empty: part q, which r stands for and whose entry names what the part's entry names
pub record IsOne (w : ℕ) (m : Lookup) (p : Part) (q : ℕ) (r : Part) (A : Array) : Type 0 where
  pub some : A ≢ []
  pub place : q < w
  pub top : suc r.top ≡ p.top
  pub quarter : PartFor w m r (part w A p.top q)
  pub others : (i : ℕ) → i < w → i ≢ q → part w A p.top i ≡ []
  pub names : named_id r.entry ≡ named_id p.entry

-- a line must be read: the part's entry is of the part itself and names a line with an empty path
pub record IsLine (w : ℕ) (m : Lookup) (p : Part) (id : ℕ) (A : Array) : Type 0 where
  pub at : p.at ≡ p.top
  pub value : LineValue
  pub made : enc w p.top A ≡ Named value []
  pub line : IdFor w m id value
  pub names : named_id p.entry ≡ Some id

abbrev pub OpenedFor : (w : ℕ) → Lookup → Part → Opened w → Array → Type 0
OpenedFor w m p Zero A = A ≡ []
OpenedFor w m p (Words words) A = (p.top ≡ 1) × (ns : List ℕ) × (enc w 1 A ≡ Pack ns) × WordsFor w m words (values w 0 A)
OpenedFor w m p (One q r) A = IsOne w m p q r A
OpenedFor w m p (Stored id) A = IsLine w m p id A

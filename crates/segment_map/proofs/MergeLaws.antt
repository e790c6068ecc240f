-- What commit and mcas give is valid where what they are given is.
use Rattle.std.proofs.Common.{◌≡◌, ℕ, suc, ◌≤◌, ◌<◌, ◌^◌, Bool, true, false, not, cond, [], ◌∷◌, Option, Some, None, arith}
use Rattle.std.specs.Prelude.{IfSome, ◌||◌, nat_lt, length}
use Rattle.hic_isa.specs.declared.instr.SegKind.{SegKind}
use Rattle.hic_isa.specs.declared.instr.SegKind.TheVariants.{Plain, Merge}
use Rattle.hic_word.specs.Values.{Value, Array, IsArray, IsValue, at}
use Rattle.hic_word.specs.Changes.{AreChanges, with}
use Rattle.hic_word.specs.Differences.{differ}
use Rattle.hic_word.specs.Same.{same_value}
use Rattle.hic_word.proofs.callers.Forms.{changes_are_made, differences_are_exact}
use Rattle.segment_map.specs.declared.merged.Merged.TheVariants.{Wide}
use Rattle.segment_map.specs.Merging.{Changes, commit, commit_row, differences, effective, if_so, joined, joined_before, joined_changes, mcas, mcas_row, merges, most_differing, same_array}

-- changes from an offset on are changes from any lower one on
pub changes_lower : (a b : ℕ) (cs : Changes) → a ≤ b → AreChanges b cs → AreChanges a cs
changes_lower a b [] low are = tt
changes_lower a b (c ∷ cs) low (from, below, is, rest) = (omega (arith, low, from), below, is, rest)

-- the writes that change something are changes
pub effective_changes : (S : Array) (b : ℕ) (W : Changes) → AreChanges b W → AreChanges b (effective S W)
effective_changes S b [] are = tt
effective_changes S b (w ∷ W) (from, below, is, rest) = go (not (same_value w.1 (at S w.0))) (effective_changes S (suc w.0) W rest)
  where
    go : (test : Bool) → AreChanges (suc w.0) (effective S W) → AreChanges b (cond test (w ∷ effective S W) (effective S W))
    go true later = (from, below, is, later)
    go false later = changes_lower b (suc w.0) (effective S W) (omega (arith, from)) later

joined_value : (kind : SegKind) (old mine present : Value) → IsValue mine → IfSome (joined kind old mine present) IsValue
joined_value Plain old mine present is = tt
joined_value Merge old mine present is = go (same_value present old || same_value present mine)
  where
    go : (test : Bool) → IfSome (if_so test mine) IsValue
    go true = is
    go false = tt

joined_first : (offset b : ℕ) (v : Option Value) (rest : Option Changes) → b ≤ offset → offset < 2 ^ 32 → IfSome v IsValue → IfSome rest (AreChanges (suc offset)) → IfSome (joined_before offset v rest) (AreChanges b)
joined_first offset b None rest from below is are = tt
joined_first offset b (Some v) None from below is are = tt
joined_first offset b (Some v) (Some rest) from below is are = (from, below, is, are)

-- changes joined to the present words are changes
pub joined_are_changes : (kind : SegKind) (old present : Array) (b : ℕ) (cs : Changes) → AreChanges b cs → IfSome (joined_changes kind old cs present) (AreChanges b)
joined_are_changes kind old present b [] are = tt
joined_are_changes kind old present b (c ∷ cs) (from, below, is, rest) =
    joined_first c.0 b (joined kind (at old c.0) c.1 (at present c.0)) (joined_changes kind old cs present) from below (joined_value kind (at old c.0) c.1 (at present c.0) is)
    (joined_are_changes kind old present (suc c.0) cs rest)

commit_row_valid : (same merging : Bool) (changed present : Array) (joins : Option Changes) → IsArray changed → IsArray present → IfSome joins (AreChanges 0) → IfSome (commit_row same merging changed present joins).array IsArray
commit_row_valid true merging changed present joins new old are = new
commit_row_valid false false changed present joins new old are = tt
commit_row_valid false true changed present None new old are = tt
commit_row_valid false true changed present (Some cs) new old are = (changes_are_made present cs old are).0

-- a commit's new array is valid
pub commit_valid : (kind : SegKind) (S : Array) (W : Changes) (P : Array) → IsArray S → AreChanges 0 W → IsArray P → IfSome (commit kind S W P).array IsArray
commit_valid kind S W P snapshot writes present =
    commit_row_valid (same_array P S) (merges kind) (with S W) P (joined_changes kind S (effective S W) P) (changes_are_made S W snapshot writes).0 present
    (joined_are_changes kind S P 0 (effective S W) (effective_changes S 0 W writes))

mcas_row_valid : (same merging many : Bool) (mine present : Array) (joins : Option Changes) → IsArray mine → IsArray present → IfSome joins (AreChanges 0) → IfSome (mcas_row same merging many mine present joins).array IsArray
mcas_row_valid true merging many mine present joins new old are = new
mcas_row_valid false false many mine present joins new old are = tt
mcas_row_valid false true true mine present joins new old are = tt
mcas_row_valid false true false mine present None new old are = tt
mcas_row_valid false true false mine present (Some cs) new old are = (changes_are_made present cs old are).0

-- so is that of mcas
pub mcas_valid : (kind : SegKind) (base mine present : Array) → IsArray base → IsArray mine → IsArray present → IfSome (mcas kind base mine present).array IsArray
mcas_valid kind base mine present b n p =
    mcas_row_valid (same_array present base) (merges kind) (nat_lt most_differing (length (differ base mine))) mine present (joined_changes kind base (differences base mine) present) n p
    (joined_are_changes kind base present 0 (differences base mine) (differences_are_exact base mine b n).valid)

row_not_wide : (same merging : Bool) (changed present : Array) (joins : Option Changes) → (commit_row same merging changed present joins).answer ≡ Wide → ⊥
row_not_wide true merging changed present joins e = cc
row_not_wide false false changed present joins e = cc
row_not_wide false true changed present None e = cc
row_not_wide false true changed present (Some cs) e = cc

-- a commit is never too wide
pub commit_not_wide : (kind : SegKind) (S : Array) (W : Changes) (P : Array) → (commit kind S W P).answer ≡ Wide → ⊥
commit_not_wide kind S W P e = row_not_wide (same_array P S) (merges kind) (with S W) P (joined_changes kind S (effective S W) P) e

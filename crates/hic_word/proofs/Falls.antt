-- A line value that fits names ones that fit and have a lower rank.
use Rattle.std.proofs.Common.{◌≡◌, ℕ, suc, ◌<◌, ◌≤◌, List, [], ◌∷◌, map, Some, subst, inl, inr, arith}
use Rattle.hic_word.specs.Width.{IsWidth}
use Rattle.hic_word.specs.Lists.{In}
use Rattle.hic_word.specs.Values.{AreValues, IsValue, Number, Ref, Value, array}
use Rattle.hic_word.specs.Entries.{Entries, Entry, Inner, Leaf, LineValue, More, Named, NoEntry, Pack, Zero, entries}
use Rattle.hic_word.specs.Canon.{root_entry}
use Rattle.hic_word.specs.Lines.{children, found, line_of_entry, line_of_value}
use Rattle.hic_word.proofs.Fits.{EntriesFit, EntryFits, EntryFits-root_entry, LineFits}
use Rattle.hic_word.proofs.Found.{found_first}
use Rattle.hic_word.proofs.Rank.{rank, rank_entries, rank_entry, rank_top, rank_value, rank_values}

-- a valid line value names valid ones of lower rank
pub falls_entry : (w : ℕ) (e : Entry) (M : LineValue) → EntryFits w e → line_of_entry e ≡ Some M → LineFits w M × (rank M ≤ rank_entry e)
unfolding EntryFits rank_entry
falls_entry w Zero M o h = cc
falls_entry w (Pack ns) M o h = cc
falls_entry w (Named L p) M o h = let same : L ≡ M = cc in (subst (LineFits w) same o.2, subst (λ N. rank N ≤ rank L) same (omega arith))

pub falls_value : {w : ℕ} → IsWidth w → (v : Value) (M : LineValue) → IsValue v → line_of_value w v ≡ Some M → LineFits w M × (rank M < suc (rank_value v))
unfolding IsValue
falls_value width (Number n) M o h = cc
falls_value {w} width (Ref H) M o h =
    let r = falls_entry w (root_entry w (array H)) M (EntryFits-root_entry width H o) h in
    (r.0, omega (arith, r.1, rank_top width H o))

pub falls_values : {w : ℕ} → IsWidth w → (vs : List Value) (M : LineValue) → AreValues vs → In M (found (map (line_of_value w) vs)) → LineFits w M × (rank M < suc (rank_values vs))
falls_values width [] M o h = absurd h
falls_values {w} width (v ∷ vs) M o h = elim (found_first M (line_of_value w v) (map (line_of_value w) vs) h) [
  | inl e ↦ let r = falls_value width v M o.0 e in (r.0, omega (arith, r.1))
  | inr k ↦ let r = falls_values width vs M o.1 k in (r.0, omega (arith, r.1))
]

falls_entries : (w : ℕ) (es : Entries) (M : LineValue) → EntriesFit w es → In M (found (map line_of_entry (entries es))) → LineFits w M × (rank M ≤ rank_entries es)
unfolding EntriesFit rank_entries
falls_entries w NoEntry M o h = absurd h
falls_entries w (More e es) M o h = elim (found_first M (line_of_entry e) (map line_of_entry (entries es)) h) [
  | inl n ↦ let r = falls_entry w e M o.0 n in (r.0, omega (arith, r.1))
  | inr k ↦ let r = falls_entries w es M o.1 k in (r.0, omega (arith, r.1))
]

pub falls : {w : ℕ} → IsWidth w → (K M : LineValue) → LineFits w K → In M (children w K) → LineFits w M × (rank M < rank K)
unfolding LineFits rank
falls width (Leaf vs) M o h = falls_values width vs M o.2 h
falls {w} width (Inner es) M o h = let r = falls_entries w es M o.2 h in (r.0, omega (arith, r.1))

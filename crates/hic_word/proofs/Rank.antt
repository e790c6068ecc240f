-- A rank that falls from a line value to those that it names.
use Rattle.std.proofs.Common.{◌≡◌, ℕ, zero, suc, ◌+◌, ◌-◌, ◌*◌, ◌^◌, ◌<◌, ◌≤◌, true, false, cond, ◌&&◌, eqb, ltb, leb, List, [], ◌∷◌, map, max, Option, Some, None, refl, ap, inl, inr, arith}
use Rattle.hic_word.specs.Width.{IsWidth, pack_limit}
use Rattle.hic_word.specs.Lists.{In}
use Rattle.hic_word.specs.Values.{ArePairs, Array, NoPair, Pair, Pairs, Ref, Value, array, at, depth, depth_of}
use Rattle.hic_word.specs.Entries.{Entries, Entry, Inner, Leaf, LineValue, More, Named, NoEntry, Pack, Zero, inner}
use Rattle.hic_word.specs.Parts.{keep, slice, slices, values}
use Rattle.hic_word.specs.Heights.{height}
use Rattle.hic_word.specs.Canon.{AllZero, Alone, Several, Sole, above, enc, joined, lowest, small, sole, root_entry}
use Rattle.hic_word.proofs.Fits.{sorted_pairs}
use Rattle.hic_word.proofs.Heights.{height_at_most}
use Rattle.hic_word.proofs.Soles.{Each, Each-slices, Each-sole}
use Rattle.hic_word.proofs.Widths.{greatest_low}

abbrev pub rank_value : Value → ℕ
rank_value v = 33 * depth_of v

abbrev pub rank_values : List Value → ℕ
rank_values [] = 0
rank_values (v ∷ vs) = max (rank_value v) (rank_values vs)

unfoldable mutual
  pub rank_entry : Entry → ℕ
  rank_entry Zero = 0
  rank_entry (Pack ns) = 0
  rank_entry (Named L p) = rank L

  pub rank : LineValue → ℕ
  rank (Leaf vs) = suc (rank_values vs)
  rank (Inner es) = suc (rank_entries es)

  pub rank_entries : Entries → ℕ
  rank_entries NoEntry = 0
  rank_entries (More e es) = max (rank_entry e) (rank_entries es)

-- each word of an array is of depth at most d
abbrev pub Depths : ℕ → Array → Type 0
Depths d [] = Unit {0}
Depths d (p ∷ A) = (depth_of p.1 ≤ d) × Depths d A

Depths-more : (d e : ℕ) (A : Array) → d ≤ e → Depths d A → Depths e A
Depths-more d e [] h k = tt
Depths-more d e (p ∷ A) h k = (omega arith, Depths-more d e A h k.1)

pub Depths-pairs : (H : Pairs) → Depths (depth H) (array H)
unfolding depth
Depths-pairs NoPair = tt
Depths-pairs (Pair o v H) = (omega arith, Depths-more (depth H) _ (array H) (omega arith) (Depths-pairs H))

Depths-slice : (d b s : ℕ) (A : Array) → Depths d A → Depths d (slice b s A)
Depths-slice d b s [] z = tt
Depths-slice d b s (p ∷ A) z =
    elim (leb b p.0 && ltb p.0 (b + s)) as (λ t. Depths d (keep t (p.0 - b, p.1) (slice b s A))) [
      | true ↦ (z.0, Depths-slice d b s A z.1)
      | false ↦ Depths-slice d b s A z.1
    ]

depth_at : (d i : ℕ) (A : Array) → Depths d A → depth_of (at A i) ≤ d
unfolding depth_of
depth_at d i [] h = omega arith
depth_at d i (p ∷ A) h = elim (eqb p.0 i) as (λ t. depth_of (cond t p.1 (at A i)) ≤ d) [ true ↦ h.0 | false ↦ depth_at d i A h.1 ]

rank_list : (d n i : ℕ) (A : Array) → Depths d A → rank_values (values n i A) ≤ 33 * d
rank_list d zero i A h = omega arith
rank_list d (suc n) i A h = let a = depth_at d i A h in let b = rank_list d n (suc i) A h in omega arith

rank_inner : (m : ℕ) (es : List Entry) → Each (λ e. rank_entry e ≤ m) es → rank_entries (inner es) ≤ m
unfolding rank_entries
rank_inner m [] h = omega arith
rank_inner m (e ∷ es) h = let a = rank_inner m es h.1 in omega arith

rank_joined : (m : ℕ) (s : Sole) (es : List Entry) → Each (λ e. rank_entry e ≤ m) es → sole es ≡ s → rank_entry (joined s es) ≤ suc m
unfolding rank_entry
rank_joined m AllZero es f h = let a = rank_inner m es f in omega arith
rank_joined m (Alone q (Named L p)) es f h = let a : rank L ≤ m = (Each-sole (λ e. rank_entry e ≤ m) es q (Named L p) f h).0 in omega arith
rank_joined m (Alone q Zero) es f h = let a = rank_inner m es f in omega arith
rank_joined m (Alone q (Pack ns)) es f h = let a = rank_inner m es f in omega arith
rank_joined m Several es f h = let a = rank_inner m es f in omega arith

rank_lowest : (d : ℕ) (o : Option (List ℕ)) (vs : List Value) → rank_values vs ≤ d → rank_entry (lowest o vs) ≤ suc d
unfolding rank_entry
rank_lowest d None vs h = omega arith
rank_lowest d (Some ns) vs h = omega arith

pub rank_above : (w k d : ℕ) (A : Array) → Depths d A → rank_entry (above w k A) ≤ suc k + 33 * d
unfolding rank_entry
rank_above w zero d [] h = omega arith
rank_above w zero d (p ∷ A) h = let a = rank_lowest (33 * d) (small (pack_limit w) (values w 0 (p ∷ A))) (values w 0 (p ∷ A)) (rank_list d w 0 (p ∷ A) h) in omega (arith, a)
rank_above w (suc k) d [] h = omega arith
rank_above w (suc k) d (p ∷ A) h =
    let m = suc k + 33 * d in
    let es = map (above w k) (slices w 0 (w ^ suc k) (p ∷ A)) in
    let a = rank_joined m (sole es) es (Each-slices (λ e. rank_entry e ≤ m) (above w k) (w ^ suc k) (p ∷ A) (λ b. rank_above w k d _ (Depths-slice d b (w ^ suc k) (p ∷ A) h)) w 0) refl in
    omega (arith, a)

rank_enc : (w : ℕ) (H : Pairs) (h : ℕ) → h ≤ 32 → rank_entry (enc w h (array H)) < rank_value (Ref H)
unfolding rank_entry depth_of
rank_enc w H zero low = omega arith
rank_enc w H (suc k) low = let a = rank_above w k (depth H) (array H) (Depths-pairs H) in omega (arith, a)

-- what a reference names has a lower rank
pub rank_top : {w : ℕ} → IsWidth w → (H : Pairs) → ArePairs 0 H → rank_entry (root_entry w (array H)) < rank_value (Ref H)
rank_top {w} width H h =
    let at_most = height_at_most width (array H) (sorted_pairs 0 H h).2 in
    let low = greatest_low width in
    rank_enc w H (height w (array H)) (omega (arith, at_most, low))

-- the greatest rank of some line values
pub top_rank : List LineValue → ℕ
top_rank [] = 0
top_rank (K ∷ Ks) = max (rank K) (top_rank Ks)

pub In-top_rank : (K : LineValue) (Ks : List LineValue) → In K Ks → rank K ≤ top_rank Ks
unfolding top_rank
In-top_rank K [] h = absurd h
In-top_rank K (L ∷ Ks) (inl e) = let r : rank L ≡ rank K = ap rank e in omega arith
In-top_rank K (L ∷ Ks) (inr h) = let r = In-top_rank K Ks h in omega arith

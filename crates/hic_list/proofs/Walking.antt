-- The turns of a walk: its start, a line that has a number, a line that gets one, and its end.
use Rattle.std.proofs.Common.{◌≡◌, ℕ, zero, suc, ◌+◌, ◌<◌, ◌≤◌, List, [], ◌∷◌, ◌++◌, length, Option, Some, None, refl, sym, ◌∙◌, ap, subst, inl, inr, ◌⊎◌, append_assoc, append-nil, arith}
use Rattle.std.specs.Prelude.{flat_map, option_to_list}
use Rattle.std.proofs.lemmas.List.{length-append}
use Rattle.hic_word.specs.Width.{IsWidth}
use Rattle.hic_word.specs.Lists.{In}
use Rattle.hic_word.specs.Entries.{LineValue}
use Rattle.hic_word.specs.Lines.{children, visits}
use Rattle.hic_word.proofs.callers.Lines.{falls, In-top_rank, rank, top_rank, In-flat, In-left, In-parts, In-right, flat-In, rank_some, visit_head, visits_enough, visits_step}
use Rattle.hic_word.proofs.callers.Forms.{LineFits}
use Rattle.hic_list.specs.Walks.{IsPending, IsWalk, added, whole_visits}
use Rattle.hic_list.proofs.Firsts.{added-append, added-known, added-length, added-new}

pub flat-append : (f : LineValue → List LineValue) (Ks Ms : List LineValue) → flat_map f (Ks ++ Ms) ≡ flat_map f Ks ++ flat_map f Ms
flat-append f [] Ms = refl
flat-append f (K ∷ Ks) Ms = ap (λ Ls. f K ++ Ls) (flat-append f Ks Ms) ∙ sym (append_assoc (f K) (flat_map f Ks) (flat_map f Ms))

-- a visit stays within what has the children of its members
pub visits_within : (w : ℕ) (Ws : List LineValue) → ((K M : LineValue) → In K Ws → In M (children w K) → In M Ws) → (f : ℕ) (L M : LineValue) → In L Ws → In M (visits w f L) → In M Ws
unfolding visits
visits_within w Ws closed zero L M h k = absurd k
visits_within w Ws closed (suc f) L M h (inl e) = subst (λ N. In N Ws) e h
visits_within w Ws closed (suc f) L M h (inr k) =
    let (N, there, inside) = In-flat (visits w f) M (children w L) k in
    visits_within w Ws closed f N M (closed L N h there) inside

not_lower : (K L : LineValue) → K ≡ L → rank K < rank L → ⊥
not_lower K L e h = let same : rank K ≡ rank L = ap rank e in omega (arith, h, same)

-- Ws have all that their members name, and are valid
module _ (w : ℕ) (width : IsWidth w) (Ws : List LineValue) (closed : (K M : LineValue) → In K Ws → In M (children w K) → In M Ws) (fits : (L : LineValue) → In L Ws → LineFits w L) where
  -- the visit of a line is the line, and then the visits of what its words name
  opened : (L : LineValue) → In L Ws → whole_visits w Ws L ≡ L ∷ flat_map (whole_visits w Ws) (children w L)
  opened L h = visits_step w (LineFits w) (falls width) (top_rank Ws) L (fits L h) (In-top_rank L Ws h)

  -- ---- a line that has a number

  -- all that it reaches has one: those that wait before it are none
  all_numbered : (Ds Ks : List LineValue) (K M : LineValue) → IsPending w Ws Ds (K ∷ Ks) K → In M (whole_visits w Ws K) → In M Ds
  all_numbered Ds Ks K M p h = go p.front p.waiting p.lower (p.reached M h)
    where
      go : (front : List LineValue) → K ∷ Ks ≡ front ++ p.rest → ((N : LineValue) → In N front → rank N < rank K) → In M Ds ⊎ In M (flat_map (whole_visits w Ws) front) → In M Ds
      go [] e low (inl i) = i
      go [] e low (inr i) = absurd i
      go (N ∷ front) e low i = let first : N ≡ K = cc in absurd (not_lower N K first (low N (inl refl)))

  passed : (Ds Ks : List LineValue) (K L : LineValue) → ((M : LineValue) → In M (whole_visits w Ws K) → In M Ds) → IsPending w Ws Ds (K ∷ Ks) L → IsPending w Ws Ds Ks L
  passed Ds Ks K L all p = go p.front p.waiting p.lower p.reached
    where
      go : (front : List LineValue) → K ∷ Ks ≡ front ++ p.rest → ((N : LineValue) → In N front → rank N < rank L) → ((M : LineValue) → In M (whole_visits w Ws L) → In M Ds ⊎ In M (flat_map (whole_visits w Ws) front)) → IsPending w Ws Ds Ks L
      go [] e low reached = record { front = []; rest = Ks; waiting = refl; lower = λ N i. absurd i; reached = reached }
      go (N ∷ front) e low reached =
          let first : N ≡ K = cc in
          let others : Ks ≡ front ++ p.rest = cc in
          record {
            front = front;
            rest = p.rest;
            waiting = others;
            lower = λ M i. low M (inr i);
            reached = λ M i. elim (reached M i) [
              | inl d ↦ inl d
              | inr v ↦ elim (In-parts M (whole_visits w Ws N) (flat_map (whole_visits w Ws) front) v) [
                | inl a ↦ inl (all M (subst (λ H. In M (whole_visits w Ws H)) first a))
                | inr b ↦ inr b
              ]
            ];
          }

  pub walk_on : (Ds Ks : List LineValue) (K : LineValue) → IsWalk w Ws Ds (K ∷ Ks) → In K Ds → IsWalk w Ws Ds Ks
  walk_on Ds Ks K walk h =
      let all : (M : LineValue) → In M (whole_visits w Ws K) → In M Ds = λ M i. all_numbered Ds Ks K M (walk.pending K h) i in
      let visit = whole_visits w Ws in
      let gone : added Ds (visit K ++ flat_map visit Ks) ≡ added Ds (flat_map visit Ks) = added-append Ds (visit K) (flat_map visit Ks) ∙ ap (λ Es. added Es (flat_map visit Ks)) (added-known Ds (visit K) all) in
      record {
        ends = sym gone ∙ walk.ends;
        numbered = walk.numbered;
        waiting = λ M i. walk.waiting M (inr i);
        pending = λ L i. passed Ds Ks K L all (walk.pending L i);
      }

  -- ---- a line that gets a number

  pending_first : (Ds Ks : List LineValue) (K : LineValue) → In K Ws → IsPending w Ws (Ds ++ K ∷ []) (children w K ++ Ks) K
  pending_first Ds Ks K h = record {
    front = children w K;
    rest = Ks;
    waiting = refl;
    lower = λ M i. (falls width K M (fits K h) i).1;
    reached = λ M i. go M (subst (λ Ls. In M Ls) (opened K h) i);
  }
    where
      go : (M : LineValue) → In M (K ∷ flat_map (whole_visits w Ws) (children w K)) → In M (Ds ++ K ∷ []) ⊎ In M (flat_map (whole_visits w Ws) (children w K))
      go M (inl e) = inl (In-right M Ds (K ∷ []) (inl e))
      go M (inr i) = inr i

  below : (Ds front : List LineValue) (K M : LineValue) → In M (K ∷ flat_map (whole_visits w Ws) (children w K)) → In M (Ds ++ K ∷ []) ⊎ In M (flat_map (whole_visits w Ws) (children w K ++ front))
  below Ds front K M (inl e) = inl (In-right M Ds (K ∷ []) (inl e))
  below Ds front K M (inr i) = inr (subst (λ Ls. In M Ls) (sym (flat-append (whole_visits w Ws) (children w K) front)) (In-left M (flat_map (whole_visits w Ws) (children w K)) _ i))

  pending_still : (Ds Ks : List LineValue) (K L : LineValue) → In K Ws → IsPending w Ws Ds (K ∷ Ks) L → IsPending w Ws (Ds ++ K ∷ []) (children w K ++ Ks) L
  pending_still Ds Ks K L h p = go p.front p.waiting p.lower p.reached
    where
      go : (front : List LineValue) → K ∷ Ks ≡ front ++ p.rest → ((N : LineValue) → In N front → rank N < rank L) → ((M : LineValue) → In M (whole_visits w Ws L) → In M Ds ⊎ In M (flat_map (whole_visits w Ws) front)) → IsPending w Ws (Ds ++ K ∷ []) (children w K ++ Ks) L
      go [] e low reached = record {
        front = [];
        rest = children w K ++ Ks;
        waiting = refl;
        lower = λ N i. absurd i;
        reached = λ M i. elim (reached M i) [ inl d ↦ inl (In-left M Ds (K ∷ []) d) | inr v ↦ absurd v ];
      }
      go (N ∷ front) e low reached =
          let first : N ≡ K = cc in
          let others : Ks ≡ front ++ p.rest = cc in
          record {
            front = children w K ++ front;
            rest = p.rest;
            waiting = ap (λ Ls. children w K ++ Ls) others ∙ sym (append_assoc (children w K) front p.rest);
            lower = λ M i. elim (In-parts M (children w K) front i) [
              | inl c ↦ let a = (falls width K M (fits K h) c).1 in let b = low N (inl refl) in let s : rank N ≡ rank K = ap rank first in omega (arith, a, b, s)
              | inr f ↦ low M (inr f)
            ];
            reached = λ M i. elim (reached M i) [
              | inl d ↦ inl (In-left M Ds (K ∷ []) d)
              | inr v ↦ elim (In-parts M (whole_visits w Ws N) (flat_map (whole_visits w Ws) front) v) [
                | inl a ↦ below Ds front K M (subst (λ Ls. In M Ls) (opened K h) (subst (λ H. In M (whole_visits w Ws H)) first a))
                | inr b ↦ inr (subst (λ Ls. In M Ls) (sym (flat-append (whole_visits w Ws) (children w K) front)) (In-right M (flat_map (whole_visits w Ws) (children w K)) _ b))
              ]
            ];
          }

  pub walk_new : (Ds Ks : List LineValue) (K : LineValue) → IsWalk w Ws Ds (K ∷ Ks) → (In K Ds → ⊥) → IsWalk w Ws (Ds ++ K ∷ []) (children w K ++ Ks)
  walk_new Ds Ks K walk n =
      let h : In K Ws = walk.waiting K (inl refl) in
      let visit = whole_visits w Ws in
      let first : added Ds (visit K ++ flat_map visit Ks) ≡ added (Ds ++ K ∷ []) (flat_map visit (children w K) ++ flat_map visit Ks) = ap (λ Ls. added Ds (Ls ++ flat_map visit Ks)) (opened K h) ∙ added-new Ds K (flat_map visit (children w K) ++ flat_map visit Ks) n in
      let rest : flat_map visit (children w K ++ Ks) ≡ flat_map visit (children w K) ++ flat_map visit Ks = flat-append visit (children w K) Ks in
      record {
        ends = ap (λ Ls. added (Ds ++ K ∷ []) Ls) rest ∙ sym first ∙ walk.ends;
        numbered = λ L i. elim (In-parts L Ds (K ∷ []) i) [ inl d ↦ walk.numbered L d | inr k ↦ elim k [ inl e ↦ subst (λ N. In N Ws) e h | inr z ↦ absurd z ] ];
        waiting = λ M i. elim (In-parts M (children w K) Ks i) [ inl c ↦ closed K M h c | inr k ↦ walk.waiting M (inr k) ];
        pending = λ L i. elim (In-parts L Ds (K ∷ []) i) [
          | inl d ↦ pending_still Ds Ks K L h (walk.pending L d)
          | inr k ↦ elim k [ inl e ↦ subst (λ N. IsPending w Ws (Ds ++ K ∷ []) (children w K ++ Ks) N) e (pending_first Ds Ks K h) | inr z ↦ absurd z ]
        ];
      }

  -- there are fewer numbers than lines
  pub walk_room : (Ds Ks : List LineValue) (K : LineValue) → IsWalk w Ws Ds (K ∷ Ks) → (In K Ds → ⊥) → length Ds < length Ws
  walk_room Ds Ks K walk n =
      let next = walk_new Ds Ks K walk n in
      let a = added-length (Ds ++ K ∷ []) (flat_map (whole_visits w Ws) (children w K ++ Ks)) in
      let b = ap length next.ends in
      omega (arith, length-append Ds (K ∷ []), a, b)

-- nothing waits any more
pub walk_end : (w : ℕ) (Ws Ds : List LineValue) → IsWalk w Ws Ds [] → Ds ≡ Ws
walk_end w Ws Ds walk = walk.ends

-- What is found in a list that is seen in another way.
use Rattle.std.proofs.Common.{◌≡◌, Bool, true, false, cond, List, [], ◌∷◌, map, find, Option, Some, None, Bor, option_map, refl}

choice : {A B : Type 0} (v : A → B) (b : Bool) (x : A) (found : Option A) (further : Option B) → option_map v found ≡ further → option_map v (cond b (Some x) found) ≡ cond b (Some (v x)) further
choice v true x found further e = refl
choice v false x found further e = e

-- what is found in a list, seen by v, is found in the list that is seen so
pub find-map : {A B : Type 0} (v : A → B) (p : B → Bool) (xs : List A) → option_map v (find (λ x. p (v x)) xs) ≡ find p (map v xs)
find-map v p [] = refl
find-map v p (x ∷ xs) = choice v (p (v x)) x _ _ (find-map v p xs)

pub option_map-now : {A B : Type 0} (v : A → B) (o : Option (Bor A)) → option_map (λ x. v x.now) o ≡ option_map v (option_map (λ x. x.now) o)
option_map-now v None = refl
option_map-now v (Some x) = refl

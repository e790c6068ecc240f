-- Reading items one after the other, as a loop does.
use Rattle.std.proofs.Common.{◌≡◌, ℕ, suc, ◌-◌, ◌+◌, ◌≤◌, ◌<◌, List, [], ◌∷◌, ◌++◌, Ok, Err, Result, sym, ap, ◌∙◌, arith}
use Rattle.std.specs.Prelude.{◌≢◌}
use Rattle.hic_object.specs.declared.error.ObjectError.{ObjectError}
use Rattle.hic_object.specs.declared.error.ObjectError.TheVariants.{OutOfMemory}
use Rattle.hic_object.specs.Reading.{Reader, onward, items_at}

-- after an item the loop has one fewer to read
pub goes_on : {X : Type 0} (item : List X → Reader X) (count i : ℕ) (before : List X) (bytes : List ℕ) (x : X) (after : List ℕ) (total : Result (List X × List ℕ) ObjectError)
    → i < count → item before bytes ≡ Ok (x, after) → items_at item (count - i) before bytes ≡ total → items_at item (count - (i + 1)) (before ++ x ∷ []) after ≡ total
unfolding items_at
goes_on {X} item count i before bytes x after total lt read so_far =
    let k : count - i ≡ suc (count - (i + 1)) = omega arith in
    let one : items_at item (count - i) before bytes ≡ items_at item (count - (i + 1)) (before ++ x ∷ []) after
    = ap (λ (n : ℕ). items_at item n before bytes) k ∙ ap (λ (r : Result (X × List ℕ) ObjectError). onward r (λ y. items_at item (count - (i + 1)) (before ++ y ∷ []))) read in
    sym one ∙ so_far

-- the fault of an item is the fault of all
pub ends : {X : Type 0} (item : List X → Reader X) (e : ObjectError) (count i : ℕ) (before : List X) (bytes : List ℕ) (total : Result (List X × List ℕ) ObjectError)
    → i < count → (e ≢ OutOfMemory → item before bytes ≡ Err e) → items_at item (count - i) before bytes ≡ total → e ≢ OutOfMemory → total ≡ Err e
unfolding items_at
ends {X} item e count i before bytes total lt fails so_far other =
    let k : count - i ≡ suc (count - (i + 1)) = omega arith in
    let one : items_at item (count - i) before bytes ≡ Err e
    = ap (λ (n : ℕ). items_at item n before bytes) k ∙ ap (λ (r : Result (X × List ℕ) ObjectError). onward r (λ y. items_at item (count - (i + 1)) (before ++ y ∷ []))) (fails other) in
    sym so_far ∙ one

pub is_done : {X : Type 0} (item : List X → Reader X) (count i : ℕ) (before : List X) (bytes : List ℕ) (total : Result (List X × List ℕ) ObjectError)
    → count ≤ i → items_at item (count - i) before bytes ≡ total → total ≡ Ok (before, bytes)
unfolding items_at
is_done item count i before bytes total le so_far =
    let k : count - i ≡ 0 = omega arith in
    sym so_far ∙ ap (λ (n : ℕ). items_at item n before bytes) k

-- The reference at a number among words that are gone past part by part.
use Rattle.std.proofs.Common.{◌≡◌, ℕ, zero, suc, ◌+◌, ◌<◌, ◌≤◌, List, [], ◌∷◌, ◌++◌, Option, Some, None, length, drop, get_or, refl, sym, ◌∙◌, ap}
use Rattle.std.specs.Prelude.{flat_map, slice_get, Result, Ok, Err}
use Rattle.std.specs.declared.ops.ControlFlow.{ControlFlow}
use Rattle.std.specs.declared.ops.ControlFlow.TheVariants.{Break, Continue}
use Rattle.std.proofs.lemmas.List.{drop_all, drop_more}
use Rattle.std.proofs.lemmas.List.Elements.{filter-append}
use Rattle.hic_word.specs.declared.Word.{Word}
use Rattle.iter_regs.specs.declared.opened.Open.{Open}
use Rattle.iter_regs.specs.declared.refusal.IterRefusal.{IterRefusal}
use Rattle.iter_regs.specs.Iters.{Answers, of_open, words_of}
use Rattle.write_buf.specs.WordPairs.{WordPairs}
use Rattle.hic_machine.specs.Held.{snapshot_words, waiting_words}
use Rattle.hic_machine.specs.HeldAt.{is_reference_kind, passing, references_in, sought}

-- on with what is left, unless the member was found
abbrev pub further : ControlFlow Word ℕ → (ℕ → ControlFlow Word ℕ) → ControlFlow Word ℕ
further (Continue k) rest = rest k
further (Break x) rest = Break x

passing_parts : (xs ys : List Word) (k : ℕ) → passing (xs ++ ys) k ≡ further (passing xs k) (passing ys)
passing_parts [] ys k = refl
passing_parts (x ∷ xs) ys zero = refl
passing_parts (x ∷ xs) ys (suc k) = passing_parts xs ys k

pub sought_parts : (xs ys : List Word) (k : ℕ) → sought (xs ++ ys) k ≡ further (sought xs k) (sought ys)
sought_parts xs ys k = ap (λ ws. passing ws k) (filter-append (λ (word : Word). is_reference_kind word.kind) xs ys) ∙ passing_parts (references_in xs) (references_in ys) k

-- a part that has the reference, and one that does not have it
module _ (xs ys : List Word) (k : ℕ) (flow : ControlFlow Word ℕ) (told : flow ≡ sought xs k) where
  pub found_in : (root : Word) → flow ≡ Break root → Break root ≡ sought (xs ++ ys) k
  found_in root e = sym (sought_parts xs ys k ∙ ap (λ z. further z (sought ys)) (sym told ∙ e))

  pub left_by : (left : ℕ) → flow ≡ Continue left → sought ys left ≡ sought (xs ++ ys) k
  left_by left e = sym (sought_parts xs ys k ∙ ap (λ z. further z (sought ys)) (sym told ∙ e))

-- ---- a loop over members that stand for words

module _ {X : Type 0} (f : X → List Word) (xs : List X) (k : ℕ) where
  -- what is left to be sought in the members from one on
  abbrev pub Going : ℕ → ℕ → Type 0
  Going i left = sought (flat_map f (drop i xs)) left ≡ sought (flat_map f xs) k

  pub starts : Going 0 k
  starts = refl

  pub ends : (i left : ℕ) → length xs ≤ i → Going i left → Continue left ≡ sought (flat_map f xs) k
  ends i left past going = sym (ap (λ ys. sought (flat_map f ys) left) (drop_all i xs past)) ∙ going

  module _ (i left : ℕ) (x : X) (low : i < length xs) (is : x ≡ get_or xs i x) (going : Going i left) where
    parts : sought (f x ++ flat_map f (drop (i + 1) xs)) left ≡ sought (flat_map f xs) k
    parts = sym (ap (λ ys. sought (flat_map f ys) left) (drop_more xs i x low) ∙ ap (λ y. sought (f y ++ flat_map f (drop (i + 1) xs)) left) (sym is)) ∙ going

    pub stops : (flow : ControlFlow Word ℕ) (root : Word) → flow ≡ sought (f x) left → flow ≡ Break root → Break root ≡ sought (flat_map f xs) k
    stops flow root told e = found_in (f x) (flat_map f (drop (i + 1) xs)) left flow told root e ∙ parts

    pub goes_on : (flow : ControlFlow Word ℕ) (rest : ℕ) → flow ≡ sought (f x) left → flow ≡ Continue rest → Going (i + 1) rest
    goes_on flow rest told e = left_by (f x) (flat_map f (drop (i + 1) xs)) left flow told rest e ∙ parts

    pub passes : f x ≡ [] → Going (i + 1) left
    passes none = goes_on (Continue left) left (ap (λ ws. sought ws left) (sym none)) refl

-- ---- the members of each loop

-- a word alone
abbrev pub alone : Word → List Word
alone x = x ∷ []

pub all_alone : (xs : List Word) → flat_map alone xs ≡ xs
all_alone [] = refl
all_alone (x ∷ xs) = ap (λ ys. x ∷ ys) (all_alone xs)

abbrev pub snapshot_of : Option Open → List Word
snapshot_of None = []
snapshot_of (Some r) = r.cursor.root ∷ []

pub all_snapshots : (rs : List (Option Open)) → flat_map snapshot_of rs ≡ snapshot_words rs
all_snapshots [] = refl
all_snapshots (None ∷ rs) = all_snapshots rs
all_snapshots (Some r ∷ rs) = ap (λ ys. r.cursor.root ∷ ys) (all_snapshots rs)

abbrev pub waiting_of : Option Open → List Word
waiting_of None = []
waiting_of (Some r) = words_of r.pairs

pub all_waiting : (rs : List (Option Open)) → flat_map waiting_of rs ≡ waiting_words rs
all_waiting [] = refl
all_waiting (None ∷ rs) = all_waiting rs
all_waiting (Some r ∷ rs) = ap (λ ys. words_of r.pairs ++ ys) (all_waiting rs)

-- the member that is there
pub there : {X : Type 0} (xs : List X) (i : ℕ) (x : X) → slice_get xs i ≡ Some x → x ≡ get_or xs i x
there [] i x e = cc
there (y ∷ xs) zero x e = cc
there (y ∷ xs) (suc i) x e = there xs i x e

-- ---- what an iterator register tells

pub opened_snapshot : (x : Option Open) (root : Word) → of_open x (λ r. r.cursor.root) ≡ Ok root → snapshot_of x ≡ root ∷ []
opened_snapshot None root e = cc
opened_snapshot (Some r) root e = let same : r.cursor.root ≡ root = cc in ap (λ y. y ∷ []) same

module _ {X : Type 0} (now : X → WordPairs) where
  pub opened_pairs : (x : Option Open) (answer : Result X IterRefusal) (pairs : X) → Answers x answer (λ r p. now p ≡ r.pairs) → answer ≡ Ok pairs → waiting_of x ≡ words_of (now pairs)
  opened_pairs None (Ok p) pairs told e = absurd told
  opened_pairs None (Err f) pairs told e = cc
  opened_pairs (Some r) (Ok p) pairs told e = let same : p ≡ pairs = cc in ap words_of (sym told) ∙ ap (λ q. words_of (now q)) same
  opened_pairs (Some r) (Err f) pairs told e = absurd told

  pub closed_pairs : (x : Option Open) (answer : Result X IterRefusal) (refusal : IterRefusal) → Answers x answer (λ r p. now p ≡ r.pairs) → answer ≡ Err refusal → waiting_of x ≡ []
  closed_pairs None answer refusal told e = refl
  closed_pairs (Some r) (Ok p) refusal told e = cc
  closed_pairs (Some r) (Err f) refusal told e = absurd told

-- A register stays usable: after it is opened, after `seek` and a search, and after a word is stored.
use Rattle.std.proofs.Common.{◌≡◌, ◌+◌, ◌^◌, ◌<◌, ℕ, Bool, true, false, List, [], ◌∷◌, ◌++◌, Option, Some, None, Result, Ok, Err, refl, sym, subst, inl, inr, arith}
use Rattle.std.specs.Prelude.{OnErr, OnOk, nat_lt}
use Rattle.std.proofs.lemmas.Bool.Decides.{nat_tests}
use Rattle.hic_word.specs.declared.Word.{Word}
use Rattle.hic_word.specs.Lists.{In}
use Rattle.hic_word.specs.Values.{Array, IsValue, Number, Value}
use Rattle.hic_word.specs.Exchanges.{Exchanges, HoldsAmong}
use Rattle.hic_word.specs.Holds.{Holds}
use Rattle.hic_word.specs.InMemory.{RootIn, WordIn}
use Rattle.hic_word.specs.Memory.{Memory, width}
use Rattle.hic_word.specs.View.{next_of}
use Rattle.hic_word.proofs.callers.Holds.{among_after, fewer_keep}
use Rattle.iter_regs.specs.declared.refusal.IterRefusal.{IterRefusal}
use Rattle.iter_regs.specs.declared.opened.Open.{Open}
use Rattle.iter_regs.specs.Iters.{CanRead, ForOpen, OpenFor, SameButCursor, Searches, Stays, attached, iter_words, open_words, seeks, sought, stored, view, went_to, with_stored}
use Rattle.iter_regs.proofs.Going.{same_stands, same_words, went_stands, went_words}
use Rattle.iter_regs.proofs.OpenStands.{open_stands_on, stored_stands}
use Rattle.iter_regs.proofs.Passing.{held_alone, held_for_both}
use Rattle.form_rows.specs.Usable.{IsUsable}
use Rattle.form_rows.proofs.FirstCursor.{first_cursor}
use Rattle.form_rows.proofs.Rooting.{root_stays}

-- opened on an array, with nothing buffered
pub first_stands : {m : Memory} {segment : Option ℕ} {root : Word} {A : Array} → RootIn m root A → OpenFor m (attached segment root) A []
first_stands stands = record { can_apply = record { root_for = stands; changes_for = tt; ascend = tt }; cursor = first_cursor stands refl }

-- ---- opened on an array that the caller held, which has given up its hold

pub usable_alone : (m n k : Memory) (old new : Option Open) (root : Word) (A : Array) → old ≡ None → new ≡ Some (attached None root) → Exchanges m n (iter_words old) (iter_words new) → Exchanges n k (root ∷ []) [] → Holds (width m) m (root ∷ []) → RootIn m root A → IsUsable k new
usable_alone m n k old new root A closed opened passed released held stands =
    let there = root_stays m n (root ∷ root ∷ []) root A (fewer_keep m n passed.lines) (held_for_both m n old new None root closed opened passed held) (inl refl) stands in
    let alone = held_alone m n old new None root closed opened passed held k released in
    let later = root_stays n k (root ∷ []) root A (fewer_keep n k released.lines) alone (inl refl) there in
    subst (IsUsable k) (sym opened) (([], alone), (A, [], first_stands later))

-- ---- another position

seeks_usable : (m : Memory) (old : Option Open) (offset : ℕ) → IsUsable m old → IsUsable m (seeks old offset).1
seeks_usable m None offset usable = usable
seeks_usable m (Some r) offset (held, (A, L, for)) = go (nat_lt offset (2 ^ 32))
  where
    go : (low : Bool) → IsUsable m (sought low r offset).1
    go true = (held, (A, L, went_stands r (Some offset) for))
    go false = (held, (A, L, for))

pub usable_after_seek : (m : Memory) (old new : Option Open) (offset : ℕ) (result : Result (Unit {0}) IterRefusal) → (result, new) ≡ seeks old offset → IsUsable m old → IsUsable m new
usable_after_seek m old new offset result e usable = subst (λ (after : Result (Unit {0}) IterRefusal × Option Open). IsUsable m after.1) (sym e) (seeks_usable m old offset usable)

-- but for where its cursor stands
same_usable : (m : Memory) (r s : Open) → SameButCursor m r s → IsUsable m (Some r) → IsUsable m (Some s)
same_usable m r s same (held, (A, L, for)) = (subst (HoldsAmong m) (sym (same_words same)) held, (A, L, same_stands same A L for))

pub held_after_load : (m : Memory) (old new : Option Open) → Stays m old new → HoldsAmong m (iter_words old) → HoldsAmong m (iter_words new)
held_after_load m None new e held = subst (λ o. HoldsAmong m (iter_words o)) (sym e) held
held_after_load m (Some r) new (s, e, same) held = subst (λ o. HoldsAmong m (iter_words o)) (sym e) (subst (HoldsAmong m) (sym (same_words same)) held)

pub usable_after_load : (m : Memory) (old new : Option Open) → Stays m old new → IsUsable m old → IsUsable m new
usable_after_load m None new e usable = subst (IsUsable m) (sym e) usable
usable_after_load m (Some r) new (s, e, same) usable = subst (IsUsable m) (sym e) (same_usable m r s same usable)

pub usable_after_search : (m : Memory) (old new : Option Open) (n : ℕ) (result : Result Bool IterRefusal) → Searches m old n (result, new) → IsUsable m old → IsUsable m new
usable_after_search m None new n result e usable = subst (λ (after : Result Bool IterRefusal × Option Open). IsUsable m after.1) (sym e) usable
usable_after_search m (Some r) new n result search_is (held, (A, L, for)) =
    let found = next_of (view A L) (r.position + n) in
    let (s, e, same) = search_is A L for in
    subst (λ (after : Result Bool IterRefusal × Option Open). IsUsable m after.1) (sym e) (same_usable m (went_to r found) s same (subst (HoldsAmong m) (sym (went_words r found)) held, (A, L, went_stands r found for)))

-- after `seek`, then a load, then a search
pub usable_after_look : (m : Memory) (old between same new : Option Open) (offset n : ℕ) (result : Result (Unit {0}) IterRefusal) (found : Result Bool IterRefusal) → (result, between) ≡ seeks old offset → Stays m between same → Searches m same n (found, new) → IsUsable m old → IsUsable m new
usable_after_look m old between same new offset n result found e stays search_is usable =
    usable_after_search m same new n found search_is (usable_after_load m between same stays (usable_after_seek m old between offset result e usable))

-- ---- a word stored

pub low_after_seek : (old new : Option Open) (offset : ℕ) (result : Result (Unit {0}) IterRefusal) → (result, new) ≡ seeks old offset → offset < 2 ^ 32 → ForOpen new (λ r. r.position < 2 ^ 32)
low_after_seek old new offset result e low = subst (λ (after : Result (Unit {0}) IterRefusal × Option Open). ForOpen after.1 (λ r. r.position < 2 ^ 32)) (sym e) (seeks_low old)
  where
    go : (r : Open) (b : Bool) → nat_lt offset (2 ^ 32) ≡ b → ForOpen (sought b r offset).1 (λ r. r.position < 2 ^ 32)
    go r true f = low
    go r false f = absurd (grind (arith, nat_tests, f))

    seeks_low : (reg : Option Open) → ForOpen (seeks reg offset).1 (λ r. r.position < 2 ^ 32)
    seeks_low None = tt
    seeks_low (Some r) = go r (nat_lt offset (2 ^ 32)) refl

pub number_valid : (n : ℕ) → n < 2 ^ 64 → IsValue (Number n)
unfolding IsValue
number_valid n low = low

pub in_first : (P Q : List Word) (x : Word) → In x P → In x (P ++ Q)
in_first [] Q x there = absurd there
in_first (p ∷ P) Q x (inl e) = inl e
in_first (p ∷ P) Q x (inr there) = inr (in_first P Q x there)

can_read_stored : (m n : Memory) (old : Option Open) (x : Word) (v : Value) → ForOpen old (λ r. r.position < 2 ^ 32) → IsValue v → WordIn m x v → Exchanges m n (iter_words old) (iter_words (stored old x)) → IsUsable m old → CanRead n (stored old x)
can_read_stored m n None x v low valid stands passed usable = tt
can_read_stored m n (Some r) x v low valid stands passed (among, (A, L, for)) =
    let (others, held) = among_after m n (open_words r) (open_words (with_stored r x)) passed.holds among in
    (A, _, open_stands_on m n (open_words (with_stored r x) ++ others) (fewer_keep m n passed.lines) held (with_stored r x) A _ (in_first (open_words (with_stored r x)) others) (stored_stands m r A L x v for low valid stands))

pub usable_after_store : (m n : Memory) (old new : Option Open) (x : Word) (v : Value) (result : Result (Unit {0}) IterRefusal) → ForOpen old (λ r. r.position < 2 ^ 32) → IsValue v → WordIn m x v
    → OnOk result (new ≡ stored old x) → OnOk result (Exchanges m n (iter_words old) (iter_words new)) → OnErr result ((new ≡ old) × (n ≡ m)) → IsUsable m old → IsUsable n new
usable_after_store m n old new x v (Ok done) low valid stands e passed same usable =
    let exchanged : Exchanges m n (iter_words old) (iter_words (stored old x)) = subst (λ o. Exchanges m n (iter_words old) (iter_words o)) e passed in
    subst (IsUsable n) (sym e) (among_after m n (iter_words old) (iter_words (stored old x)) exchanged.holds usable.0, can_read_stored m n old x v low valid stands exchanged usable)
usable_after_store m n old new x v (Err refusal) low valid stands e passed (same, same_memory) usable = subst (λ k. IsUsable k new) (sym same_memory) (subst (IsUsable m) (sym same) usable)

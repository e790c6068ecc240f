-- The arrays of the tests, and their roots.
use Rattle.std.proofs.Common.{◌≡◌, ℕ, ◌+◌, ◌*◌, ◌^◌, ◌<◌, ◌≤◌, Bool, true, false, cond, eqb, [], ◌∷◌, Some, None, refl, sym, ◌∙◌, ap, arith}
use Rattle.std.proofs.lemmas.Bool.{eqb-true}
use Rattle.hic_word.specs.declared.Kind.TheVariants.{Node, Num, RefNode, RefPack}
use Rattle.hic_word.specs.declared.Kind.TheVariants as kinds
use Rattle.hic_word.specs.declared.Word.{Word}
use Rattle.hic_word.specs.Lists.{times}
use Rattle.hic_word.specs.Values.{ArePairs, IsArray}
use Rattle.hic_word.specs.Heights.{height, height_from}
use Rattle.hic_word.specs.Names.{named_id, names_in}
use Rattle.hic_word.specs.Stands.{AnEntry, InnerAt, IsPacked, IsStored, NamedEntry, NoEntries, PackEntry, ZeroEntry, word_of}
use Rattle.hic_word.specs.InMemory.{RootIn}
use Rattle.hic_word.specs.Memory.{Memory, count_at, line_at}
use Rattle.hic_word.specs.MemorySteps.{Interns}
use Rattle.hic_word.proofs.callers.Bits.{node_id}
use Rattle.hic_word.proofs.callers.Holds.{names-none, names-some, interned_there, interned_within}
use Rattle.line_mem.specs.Sound.{IsSound}
use Rattle.line_mem.proofs.DeadIds.{alive}
use Rattle.line_mem.proofs.PlainLines.{plain_kept}
use Rattle.seg_changes.specs.Rows.{far, one}

one_valid : IsArray one
unfolding ArePairs
one_valid = (omega arith, omega arith, refl, omega arith, tt)

pub one_root : (m : Memory) (root : Word) → root ≡ word_of RefPack 1 1 → RootIn m root one
unfolding height height_from
one_root m root is = record { valid = one_valid; word = IsPacked {ns = 1 ∷ 0 ∷ 0 ∷ 0 ∷ []} refl is }

far_valid : IsArray far
unfolding ArePairs
far_valid = (omega arith, omega arith, refl, omega arith, (omega arith, omega arith, refl, omega arith, tt))

-- the three lines of far: packed numbers x and y, in lines i and j, which the entries f and l of line k name
pub record HasLines (m : Memory) (i j k : ℕ) (x y z f l : Word) : Type 0 where
  pub low : i < 2 ^ 24
  pub low_too : j < 2 ^ 24
  pub low_ends : k < 2 ^ 24
  pub first : line_at m i ≡ Some (x ∷ z ∷ z ∷ z ∷ [])
  pub last : line_at m j ≡ Some (z ∷ z ∷ z ∷ y ∷ [])
  pub ends : line_at m k ≡ Some (f ∷ z ∷ z ∷ l ∷ [])
  pub is_one : x ≡ word_of kinds.Pack 0 1
  pub is_two : y ≡ word_of kinds.Pack 0 562949953421312
  pub is_zero : z ≡ word_of Num 0 0
  pub path : f ≡ word_of Node 0 (i + 2 ^ 24 * 0 + 2 ^ 59 * 13)
  pub path_too : l ≡ word_of Node 0 (j + 2 ^ 24 * 67108863 + 2 ^ 59 * 13)

pub far_root : {m : Memory} {i j k : ℕ} {x y z f l : Word} (root : Word) → HasLines m i j k x y z f l → root ≡ word_of RefNode 16 (k + 2 ^ 24 * 0 + 2 ^ 59 * 0) → RootIn m root far
unfolding height height_from
far_root {m} {i} {j} {k} root h is = record {
  valid = far_valid;
  word = IsStored {id = k} refl (InnerAt h.low_ends h.ends
      (AnEntry (NamedEntry {id = i} (InnerAt h.low h.first (AnEntry (PackEntry h.is_one) (AnEntry (ZeroEntry h.is_zero) (AnEntry (ZeroEntry h.is_zero) (AnEntry (ZeroEntry h.is_zero) NoEntries))))) h.path)
      (AnEntry (ZeroEntry h.is_zero) (AnEntry (ZeroEntry h.is_zero)
      (AnEntry (NamedEntry {id = j} (InnerAt h.low_too h.last (AnEntry (ZeroEntry h.is_zero) (AnEntry (ZeroEntry h.is_zero) (AnEntry (ZeroEntry h.is_zero) (AnEntry (PackEntry h.is_two) NoEntries))))) h.path_too) NoEntries))))) is;
}

-- two lines that differ have a hold each, for the entries that name them
ends_held : (m : Memory) (i j : ℕ) (x y z f l : Word) → IsSound m → m.dead ≡ [] → i < 2 ^ 24 → j < 2 ^ 24 → line_at m i ≡ Some (x ∷ z ∷ z ∷ z ∷ []) → line_at m j ≡ Some (z ∷ z ∷ z ∷ y ∷ [])
    → x ≡ word_of kinds.Pack 0 1 → z ≡ word_of Num 0 0 → f ≡ word_of Node 0 (i + 2 ^ 24 * 0 + 2 ^ 59 * 13) → l ≡ word_of Node 0 (j + 2 ^ 24 * 67108863 + 2 ^ 59 * 13)
    → (q : ℕ) → times q (names_in (f ∷ z ∷ z ∷ l ∷ [])) ≤ count_at m q
ends_held m i j x y z f l sound none low low_too first last is_one is_zero path path_too q = go (eqb q i) (eqb q j) refl refl
  where
    named : named_id f ≡ Some i
    named = ap named_id path ∙ ap (λ n. Some n) (node_id 4 i (0 ∷ 0 ∷ 0 ∷ 0 ∷ 0 ∷ 0 ∷ 0 ∷ 0 ∷ 0 ∷ 0 ∷ 0 ∷ 0 ∷ 0 ∷ []) low)

    also : named_id l ≡ Some j
    also = ap named_id path_too ∙ ap (λ n. Some n) (node_id 4 j (3 ∷ 3 ∷ 3 ∷ 3 ∷ 3 ∷ 3 ∷ 3 ∷ 3 ∷ 3 ∷ 3 ∷ 3 ∷ 3 ∷ 3 ∷ []) low_too)

    no_name : named_id z ≡ None
    no_name = ap named_id is_zero

    total : times q (names_in (f ∷ z ∷ z ∷ l ∷ [])) ≡ cond (eqb q i) 1 0 + cond (eqb q j) 1 0
    total =
        let a = names-some q i f (z ∷ z ∷ l ∷ []) named in
        let b = names-none q z (z ∷ l ∷ []) no_name in
        let c = names-none q z (l ∷ []) no_name in
        let d = names-some q j l [] also in
        omega (arith, a, b, c, d)

    go : (s t : Bool) → eqb q i ≡ s → eqb q j ≡ t → times q (names_in (f ∷ z ∷ z ∷ l ∷ [])) ≤ count_at m q
    go true true e d =
        let same : i ≡ j = sym (eqb-true q i e) ∙ eqb-true q j d in
        let lines : Some (x ∷ z ∷ z ∷ z ∷ []) ≡ Some (z ∷ z ∷ z ∷ y ∷ []) = sym first ∙ ap (line_at m) same ∙ last in
        let words : x ≡ z = cc in
        let kinds_differ = ap (λ (w : Word). w.kind) (sym is_one ∙ words ∙ is_zero) in
        cc
    go true false e d =
        let here = ap (λ s. cond {A = ℕ} s 1 0) e in
        let other = ap (λ s. cond {A = ℕ} s 1 0) d in
        let held = alive m sound none q _ (ap (line_at m) (eqb-true q i e) ∙ first) in
        omega (arith, total, here, other, held)
    go false true e d =
        let here = ap (λ s. cond {A = ℕ} s 1 0) e in
        let other = ap (λ s. cond {A = ℕ} s 1 0) d in
        let held = alive m sound none q _ (ap (line_at m) (eqb-true q j d) ∙ last) in
        omega (arith, total, here, other, held)
    go false false e d =
        let here = ap (λ s. cond {A = ℕ} s 1 0) e in
        let other = ap (λ s. cond {A = ℕ} s 1 0) d in
        omega (arith, total, here, other)

-- the lines are interned one after another
pub far_kept : {i j k : ℕ} {x y z f l : Word} (start now next end : Memory) → IsSound end → Interns start (x ∷ z ∷ z ∷ z ∷ []) i now → Interns now (z ∷ z ∷ z ∷ y ∷ []) j next → Interns next (f ∷ z ∷ z ∷ l ∷ []) k end
    → x ≡ word_of kinds.Pack 0 1 → y ≡ word_of kinds.Pack 0 562949953421312 → z ≡ word_of Num 0 0 → f ≡ word_of Node 0 (i + 2 ^ 24 * 0 + 2 ^ 59 * 13) → l ≡ word_of Node 0 (j + 2 ^ 24 * 67108863 + 2 ^ 59 * 13) → HasLines end i j k x y z f l
far_kept {i} {j} {k} start now next end sound a b c is_one is_two is_zero path path_too =
    let first = interned_within next end _ k c i _ (interned_within now next _ j b i _ (interned_there start now _ i a)) in
    let last = interned_within next end _ k c j _ (interned_there now next _ j b) in
    let ends = interned_there next end _ k c in
    record {
      low = sound.small i _ first;
      low_too = sound.small j _ last;
      low_ends = sound.small k _ ends;
      first = first;
      last = last;
      ends = ends;
      is_one = is_one;
      is_two = is_two;
      is_zero = is_zero;
      path = path;
      path_too = path_too;
    }

no_names : {x y z : Word} → x ≡ word_of kinds.Pack 0 1 → y ≡ word_of kinds.Pack 0 562949953421312 → z ≡ word_of Num 0 0 → (names_in (x ∷ z ∷ z ∷ z ∷ []) ≡ []) × (names_in (z ∷ z ∷ z ∷ y ∷ []) ≡ [])
no_names e d n = (λ i. names_in (e i ∷ n i ∷ n i ∷ n i ∷ []), λ i. names_in (n i ∷ n i ∷ n i ∷ d i ∷ []))

pub ends_covered : (i j : ℕ) {x y z f l : Word} (start now next : Memory) → IsSound next → start.dead ≡ [] → Interns start (x ∷ z ∷ z ∷ z ∷ []) i now → Interns now (z ∷ z ∷ z ∷ y ∷ []) j next
    → x ≡ word_of kinds.Pack 0 1 → y ≡ word_of kinds.Pack 0 562949953421312 → z ≡ word_of Num 0 0 → f ≡ word_of Node 0 (i + 2 ^ 24 * 0 + 2 ^ 59 * 13) → l ≡ word_of Node 0 (j + 2 ^ 24 * 67108863 + 2 ^ 59 * 13)
    → (q : ℕ) → times q (names_in (f ∷ z ∷ z ∷ l ∷ [])) ≤ count_at next q
ends_covered i j {x} {y} {z} {f} {l} start now next sound none a b is_one is_two is_zero path path_too =
    let names = no_names is_one is_two is_zero in
    let alive_first = (plain_kept start now _ i names.0 none a).no_dead in
    let alive_next = (plain_kept now next _ j names.1 alive_first b).no_dead in
    let first = interned_within now next _ j b i _ (interned_there start now _ i a) in
    let last = interned_there now next _ j b in
    ends_held next i j x y z f l sound alive_next (sound.small i _ first) (sound.small j _ last) first last is_one is_zero path path_too

-- Arrays of one value, and of one value twice, are stored: for the tests.
use Rattle.std.proofs.Common.{◌≡◌, ℕ, ◌+◌, ◌-◌, ◌^◌, ◌<◌, ◌≤◌, List, [], ◌∷◌, ◌++◌, length, Option, None, Some, refl, sym, ◌∙◌, ap, subst, arith, inl, inr}
use Rattle.std.specs.Ordering.{nat_cmp}
use Rattle.std.specs.FinMap.{FinMap}
use Rattle.std.specs.FinMap as map
use Rattle.hic_word.specs.declared.Kind.TheVariants.{Num, RefNode}
use Rattle.hic_word.specs.declared.Word.{Word}
use Rattle.hic_word.specs.Values.{Number, Ref, ArePairs, IsValue, pairs}
use Rattle.hic_word.specs.Entries.{Named}
use Rattle.hic_word.specs.Heights.{height, height_from}
use Rattle.hic_word.specs.Canon.{IsMade, lowest}
use Rattle.hic_word.specs.Memory.{Layout, Memory, count_at, line_at}
use Rattle.hic_word.specs.MemorySteps.{empty_memory}
use Rattle.hic_word.specs.Holds.{Holds, HasRoom, IsLive}
use Rattle.hic_word.specs.Stands.{Lookup, EntryFor, LineFor, NoWord, AWord, NoEntries, AnEntry, IsNumber, IsStored, ZeroEntry, NamedEntry, node_word, word_of}
use Rattle.hic_word.proofs.callers.Holds.{counts_are_bounded, count_none, hit-same, is_there, names-cons, names-some, empty_memory_holds_nothing, held_later, holding_is_by_counts}
use Rattle.line_mem.specs.Sound.{IsSound}
use Rattle.ref_counts.specs.Links.{IsLink, leaf_of, only, padded, twice_of}

-- a number that is not small
pub number_links : (m : Lookup) (x : Word) → x ≡ word_of Num 0 70000 → IsLink m x
unfolding ArePairs IsValue
number_links m x e = record {
  value = Number 70000;
  stands = IsNumber e;
  large = refl;
  valid = (omega arith, omega arith, refl, omega arith, tt);
}

pub leaf_made : (m : Lookup) (x : Word) (link : IsLink m x) → IsMade 4 (leaf_of link.value)
leaf_made m x link = record {
  height = 1;
  array = only link.value;
  path = [];
  is_part = record { positive = omega arith; low = omega arith; valid = link.valid; below = (omega arith, tt) };
  made = ap (λ o. lowest o (padded link.value)) link.large;
}

-- the reference to the array of a value that is not small
pub reference_links : (m n : Lookup) (x : Word) (id : ℕ) (link : IsLink m x) → EntryFor 4 n (node_word id) (Named (leaf_of link.value) []) → (y : Word) → y ≡ word_of RefNode 1 id → IsLink n y
unfolding ArePairs IsValue height height_from
reference_links m n x id link (NamedEntry {id = j} i e) y f = record {
  value = Ref (pairs (only link.value));
  stands = IsStored {id = j} {p = []} (ap (λ o. lowest o (padded link.value)) link.large) i (f ∙ ap (λ n. word_of RefNode 1 n) (ap (λ (w : Word). w.bits) e));
  large = refl;
  valid = (omega arith, omega arith, refl, link.valid, tt);
}

-- zeros beside a word
zeros : (P : List Word → Type 0) (x a b c : Word) → a ≡ word_of Num 0 0 → b ≡ word_of Num 0 0 → c ≡ word_of Num 0 0 → P (x ∷ word_of Num 0 0 ∷ word_of Num 0 0 ∷ word_of Num 0 0 ∷ []) → P (x ∷ a ∷ b ∷ c ∷ [])
zeros P x a b c e f g p = subst P (λ i. x ∷ sym e i ∷ sym f i ∷ sym g i ∷ []) p

pub leaf_stands : (m : Lookup) (x a b c : Word) (link : IsLink m x) → a ≡ word_of Num 0 0 → b ≡ word_of Num 0 0 → c ≡ word_of Num 0 0 → LineFor 4 m (x ∷ a ∷ b ∷ c ∷ []) (leaf_of link.value)
leaf_stands m x a b c link e f g = AWord link.stands (AWord (IsNumber e) (AWord (IsNumber f) (AWord (IsNumber g) NoWord)))

pub leaf_held : (m : Memory) (H : List Word) (x a b c : Word) → a ≡ word_of Num 0 0 → b ≡ word_of Num 0 0 → c ≡ word_of Num 0 0 → Holds 4 m (x ∷ H) → Holds 4 m ((x ∷ a ∷ b ∷ c ∷ []) ++ H)
leaf_held m H x a b c e f g h = zeros (λ ws. Holds 4 m (ws ++ H)) x a b c e f g (holding_is_by_counts 4 m (x ∷ H) (x ∷ word_of Num 0 0 ∷ word_of Num 0 0 ∷ word_of Num 0 0 ∷ H) (λ j. refl) h)

-- counts have room where few words are held, and an id without a line has none
few_holds : (m : Memory) (H : List Word) → IsSound m → Holds 4 m H → length H < 200 → (id : ℕ) (line : List Word) → line_at m id ≡ Some line → count_at m id < 2 ^ 30
few_holds m H sound h few id line e =
    let a = counts_are_bounded 4 m H id line (inr (inl refl)) h.balanced sound.room e in
    let b = sound.most in
    omega (arith, a, b, few)

pub room_of : (m : Memory) (H : List Word) → IsSound m → Holds 4 m H → length H < 200 → (id : ℕ) (line : List Word) → line_at m id ≡ Some line → count_at m id < 2 ^ 32 - 1
room_of m H sound h few id line e = let a = few_holds m H sound h few id line e in omega (arith, a)

pub room_each : (m : Memory) (H : List Word) → IsSound m → Holds 4 m H → length H < 200 → (id : ℕ) → count_at m id + 200 ≤ 2 ^ 32 - 1
room_each m H sound h few id = go (map.get m.lines id) refl
  where
    go : (o : Option (List Word)) → line_at m id ≡ o → count_at m id + 200 ≤ 2 ^ 32 - 1
    go None e = let a = count_none m id (sound.keys id) e in omega (arith, a)
    go (Some line) e = let a = few_holds m H sound h few id line e in omega (arith, a)

-- a held word is live, and has room where few words are held
pub held_live : (m : Memory) (H : List Word) (x : Word) → Holds 4 m (x ∷ H) → IsLive m x
held_live m H x h id e = h.named id (let a = names-some id id x H e in let b = hit-same id id refl in omega (arith, a, b))

pub held_room : (m : Memory) (H : List Word) (x : Word) → IsSound m → Holds 4 m (x ∷ H) → length H < 100 → HasRoom m x
held_room m H x sound h few id e = let (line, there) = is_there (line_at m id) (held_live m H x h id e) in room_of m (x ∷ H) sound h (omega (arith, few)) id line there

-- the entry or the reference in place of the word of an id
pub entry_held : (m : Memory) (H : List Word) (x : Word) (id : ℕ) → x ≡ node_word id → Holds 4 m (node_word id ∷ H) → Holds 4 m (x ∷ H)
entry_held m H x id e h = subst (λ y. Holds 4 m (y ∷ H)) (sym e) h

pub reference_held : (m : Memory) (H : List Word) (x : Word) (height id : ℕ) → x ≡ word_of RefNode height id → Holds 4 m (node_word id ∷ H) → Holds 4 m (x ∷ H)
reference_held m H x height id e h = subst (λ y. Holds 4 m (y ∷ H)) (sym e) (holding_is_by_counts 4 m (node_word id ∷ H) (word_of RefNode height id ∷ H) (λ j. refl) h)

pub number_held : (m : Memory) (x : Word) → x ≡ word_of Num 0 70000 → Holds 4 m [] → Holds 4 m (x ∷ [])
number_held m x e h = subst (λ y. Holds 4 m (y ∷ [])) (sym e) (holding_is_by_counts 4 m [] (word_of Num 0 70000 ∷ []) (λ j. refl) h)

pub turned : (m : Memory) (x y : Word) → Holds 4 m (x ∷ y ∷ []) → Holds 4 m (y ∷ x ∷ [])
turned m x y h = held_later m (y ∷ []) x [] h

pub twice_made : IsMade 4 twice_of
unfolding ArePairs IsValue
twice_made = record {
  height = 2;
  array = (0, Number 70000) ∷ (4, Number 70000) ∷ [];
  path = [];
  is_part = record {
    positive = omega arith;
    low = omega arith;
    valid = (omega arith, omega arith, refl, omega arith, (omega arith, omega arith, refl, omega arith, tt));
    below = (omega arith, (omega arith, tt));
  };
  made = refl;
}

-- two holds leave the lines as they are
pub twice_stands : (old m held : Memory) (n x a b : Word) (id : ℕ) → n ≡ word_of Num 0 70000 → ((link : IsLink (line_at old) n) → EntryFor 4 (line_at m) (node_word id) (Named (leaf_of link.value) [])) → held.lines ≡ m.lines → x ≡ node_word id → a ≡ word_of Num 0 0 → b ≡ word_of Num 0 0
    → LineFor 4 (line_at held) (x ∷ x ∷ a ∷ b ∷ []) twice_of
unfolding number_links
twice_stands old m held n x a b id large d e same g h =
    let there : EntryFor 4 (line_at m) (node_word id) (Named (leaf_of (Number 70000)) []) = d (number_links (line_at old) n large) in
    let here : EntryFor 4 (line_at held) (node_word id) (Named (leaf_of (Number 70000)) []) = subst (λ (ls : FinMap nat_cmp (List Word)). EntryFor 4 (λ q. map.get ls q) (node_word id) (Named (leaf_of (Number 70000)) [])) (sym e) there in
    let part : EntryFor 4 (line_at held) x (Named (leaf_of (Number 70000)) []) = subst (λ y. EntryFor 4 (line_at held) y (Named (leaf_of (Number 70000)) [])) (sym same) here in
    AnEntry part (AnEntry part (AnEntry (ZeroEntry g) (AnEntry (ZeroEntry h) NoEntries)))

pub twice_held : (m : Memory) (x a b : Word) → a ≡ word_of Num 0 0 → b ≡ word_of Num 0 0 → Holds 4 m (x ∷ x ∷ x ∷ []) → Holds 4 m ((x ∷ x ∷ a ∷ b ∷ []) ++ x ∷ [])
twice_held m x a b e f h = subst (λ ws. Holds 4 m (ws ++ x ∷ [])) (λ i. x ∷ x ∷ sym e i ∷ sym f i ∷ []) (holding_is_by_counts 4 m (x ∷ x ∷ x ∷ []) (x ∷ x ∷ word_of Num 0 0 ∷ word_of Num 0 0 ∷ x ∷ []) (λ j.
    let a = names-cons j x (x ∷ x ∷ []) in
    let b = names-cons j x (x ∷ []) in
    let c = names-cons j x (x ∷ word_of Num 0 0 ∷ word_of Num 0 0 ∷ x ∷ []) in
    let d = names-cons j x (word_of Num 0 0 ∷ word_of Num 0 0 ∷ x ∷ []) in
    omega (arith, a, b, c, d)) h)

-- an empty memory holds nothing
pub empty_holds : (m : Memory) (layout : Layout) → m ≡ empty_memory layout → Holds 4 m []
empty_holds m layout e = subst (λ x. Holds 4 x []) (sym e) (empty_memory_holds_nothing 4 layout)

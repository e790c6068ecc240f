-- Words stay kept: beside a word that is held besides, with one in place of another, and after a hold is given up.
use Rattle.std.proofs.Common.{◌≡◌, ℕ, zero, suc, ◌^◌, ◌<◌, ◌≤◌, List, [], ◌∷◌, length, get_or, set, replicate, None, refl, sym, ◌∙◌, ap, subst, inl, inr, false, arith, IsSome}
use Rattle.std.specs.Prelude.{is_some}
use Rattle.std.specs.Ordering.{nat_cmp}
use Rattle.std.specs.FinMap.{FinMap}
use Rattle.std.specs.FinMap as map
use Rattle.std.proofs.lemmas.Bool.{le-ltb, ne_eqb}
use Rattle.hic_word.specs.declared.Kind.TheVariants.{Num, RefNode}
use Rattle.hic_word.specs.declared.Word.{Word}
use Rattle.hic_word.specs.Lists.{In}
use Rattle.hic_word.specs.Names.{NamedAlike, named_id}
use Rattle.hic_word.specs.Values.{Number, ArePairs, IsValue}
use Rattle.hic_word.specs.Canon.{small, small_more}
use Rattle.hic_word.specs.Memory.{Memory, line_at, width}
use Rattle.hic_word.specs.Stands.{IsNumber, Lookup, node_word, word_of}
use Rattle.hic_word.specs.Holds.{HasRoom, Holds, IsLive}
use Rattle.hic_word.specs.Exchanges.{Exchanges, KeepsLines, PassesHolds}
use Rattle.hic_word.specs.Standing.{IsWithin}
use Rattle.hic_word.proofs.callers.Holds.{exchanges_then, fewer_keep, holding_is_by_counts, is_there, more_keep, names-cons}
use Rattle.hic_word.proofs.callers.Standing.{held_word_live, live_words_stand_on}
use Rattle.line_mem.specs.Sound.{IsSound}
use Rattle.ref_counts.specs.Links.{IsLink}
use Rattle.ref_counts.proofs.Linked.{reference_held, room_of}
use Rattle.reg_file.proofs.Swapped.{times-set}
use Rattle.line_rows.specs.Kept.{AreKept}

-- a number that is not small
pub large_links : (m : Lookup) (x : Word) (n : ℕ) → 65536 ≤ n → n < 2 ^ 64 → x ≡ word_of Num 0 n → IsLink m x
unfolding ArePairs IsValue
large_links m x n large low e = record {
  value = Number n;
  stands = IsNumber e;
  large = ap (λ b. small_more b n (small 65536 (Number 0 ∷ Number 0 ∷ Number 0 ∷ []))) (le-ltb n 65536 large);
  valid = (omega arith, omega arith, ne_eqb n 0 (λ z. omega arith), low, tt);
}

-- a held word that is a link stays one
pub link_stays : (old new : Memory) (H : List Word) (x : Word) → KeepsLines old new → Holds (width new) new H → In x H → IsLink (line_at old) x → IsLink (line_at new) x
link_stays old new H x keeps held there link = record {
  value = link.value;
  stands = (live_words_stand_on (width new) old new H x keeps held (held_word_live new H x held there)).value link.value link.stands;
  large = link.large;
  valid = link.valid;
}

-- words that are held stay kept
pub kept_after : (old new : Memory) (words : List Word) → KeepsLines old new → Holds (width new) new words → AreKept old words → AreKept new words
kept_after old new words keeps held kept = record {
  held = held;
  links = λ x there named. link_stays old new words x keeps held there (kept.links x there named);
}

-- beside a word that is a link if it names a line
pub kept_beside : (old new : Memory) (words : List Word) (x : Word) → KeepsLines old new → Holds (width new) new (x ∷ words) → AreKept old words → (IsSome (named_id x) → IsLink (line_at new) x) → AreKept new (x ∷ words)
kept_beside old new words x keeps held kept link = record { held = held; links = links }
  where
    links : (y : Word) → In y (x ∷ words) → IsSome (named_id y) → IsLink (line_at new) y
    links y (inl same) named = subst (IsLink (line_at new)) same (link (subst (λ z. IsSome (named_id z)) (sym same) named))
    links y (inr later) named = link_stays old new (x ∷ words) y keeps held (inr later) (kept.links y later named)

-- one word in place of another
swapped_alike : (words : List Word) (at : ℕ) (x d : Word) → at < length words → NamedAlike (x ∷ words) (get_or words at d ∷ set words at x)
swapped_alike words at x d low j =
    let a = names-cons j x words in
    let b = names-cons j (get_or words at d) (set words at x) in
    let c = times-set j words at x d low in
    omega (arith, a, b, c)

pub swapped_held : (m : Memory) (words : List Word) (at : ℕ) (x d : Word) → at < length words → Holds (width m) m (x ∷ words) → Holds (width m) m (get_or words at d ∷ set words at x)
swapped_held m words at x d low held = holding_is_by_counts (width m) m (x ∷ words) (get_or words at d ∷ set words at x) (swapped_alike words at x d low) held

set_from : (words : List Word) (at : ℕ) (x y : Word) → In y (set words at x) → In y (x ∷ words)
set_from [] at x y there = absurd there
set_from (w ∷ words) zero x y (inl e) = inl e
set_from (w ∷ words) zero x y (inr later) = inr (inr later)
set_from (w ∷ words) (suc at) x y (inl e) = inr (inl e)
set_from (w ∷ words) (suc at) x y (inr later) = elim (set_from words at x y later) [
  | inl e ↦ inl e
  | inr there ↦ inr (inr there)
]

pub swapped_kept : (old new : Memory) (words : List Word) (at : ℕ) (x d : Word) → at < length words → AreKept old (x ∷ words) → Exchanges old new (get_or words at d ∷ []) [] → AreKept new (set words at x)
swapped_kept old new words at x d low kept given_up =
    let held : Holds (width new) new (set words at x) = given_up.holds (set words at x) (swapped_held old words at x d low kept.held) in
    record {
      held = held;
      links = λ y there named. link_stays old new (set words at x) y (fewer_keep old new given_up.lines) held there (kept.links y (set_from words at x y there) named);
    }

-- one of some words
one_in : (words : List Word) (at : ℕ) (d : Word) → at < length words → In (get_or words at d) words
one_in [] at d low = absurd (omega arith)
one_in (w ∷ words) zero d low = inl refl
one_in (w ∷ words) (suc at) d low = inr (one_in words at d (omega arith))

-- a live word has room for a hold
pub live_room : (m : Memory) (words : List Word) (x : Word) → IsSound m → length words < 200 → AreKept m words → IsLive m x → HasRoom m x
live_room m words x sound few kept live id e = let (line, there) = is_there (line_at m id) (live id e) in room_of m words sound kept.held few id line there

module _ (m : Memory) (words : List Word) (at : ℕ) (d : Word) (low : at < length words) (kept : AreKept m words) where
  pub one_live : IsLive m (get_or words at d)
  one_live = held_word_live m words (get_or words at d) kept.held (one_in words at d low)

  pub one_link : IsSome (named_id (get_or words at d)) → IsLink (line_at m) (get_or words at d)
  one_link named = kept.links (get_or words at d) (one_in words at d low) named

  pub one_room : IsSound m → length words < 200 → HasRoom m (get_or words at d)
  one_room sound few = live_room m words (get_or words at d) sound few kept one_live

-- a number names no line
pub number_live : (m : Memory) (x : Word) (n : ℕ) → x ≡ word_of Num 0 n → IsLive m x
number_live m x n e id named = let none : named_id x ≡ None = ap named_id e in cc

-- the number 0 beside words
pub zero_beside : (m : Memory) (words : List Word) (x : Word) → x ≡ word_of Num 0 0 → AreKept m words → AreKept m (x ∷ words)
zero_beside m words x e kept =
    let held : Holds (width m) m (x ∷ words) = subst (λ y. Holds (width m) m (y ∷ words)) (sym e) (holding_is_by_counts (width m) m words (word_of Num 0 0 ∷ words) (λ j. refl) kept.held) in
    kept_beside m m words x (fewer_keep m m (λ id line there. there)) held kept (λ named. let none : is_some (named_id x) ≡ false = ap (λ (y : Word). is_some (named_id y)) e in cc)

pub zeros_kept : (m : Memory) (n : ℕ) (x : Word) → x ≡ word_of Num 0 0 → Holds (width m) m [] → AreKept m (replicate n x)
zeros_kept m zero x e held = record { held = held; links = λ y there named. absurd there }
zeros_kept m (suc n) x e held = zero_beside m (replicate n x) x e (zeros_kept m n x e held)

-- a word of which a hold is taken
module _ (m taken : Memory) (words : List Word) (x : Word) (kept : AreKept m words) (e : Exchanges m taken [] (x ∷ [])) where
  pub link_taken : IsLink (line_at m) x → IsLink (line_at taken) x
  link_taken link = link_stays m taken (x ∷ words) x (fewer_keep m taken e.lines) (e.holds words kept.held) (inl refl) link

  pub kept_twice : (IsSome (named_id x) → IsLink (line_at m) x) → AreKept taken (x ∷ words)
  kept_twice link = kept_beside m taken words x (fewer_keep m taken e.lines) (e.holds words kept.held) kept (λ named. link_taken (link named))

  -- and given up again
  pub given_back : (same new : Memory) → same ≡ taken → Exchanges same new (x ∷ []) [] → AreKept new words
  given_back same new is given_up =
      let both : Exchanges m new [] [] = exchanges_then e (subst (λ n. Exchanges n new (x ∷ []) []) is given_up) in
      kept_after m new words (fewer_keep m new both.lines) (both.holds words kept.held) kept

  -- or passed to a line, which a reference holds
  pub kept_made : (new : Memory) (y : Word) (id : ℕ) → taken.lines ≡ m.lines → IsWithin (line_at taken) (line_at new) → PassesHolds taken new (x ∷ []) (node_word id ∷ []) → IsLink (line_at new) y → y ≡ word_of RefNode 1 id → AreKept new (y ∷ words)
  kept_made new y id same within passes link is =
      kept_beside m new words y (more_keep m new (λ j line there. within j line (ap (λ (ls : FinMap nat_cmp (List Word)). map.get ls j) same ∙ there)))
      (reference_held new words y 1 id is (passes words (e.holds words kept.held))) kept (λ named. link)

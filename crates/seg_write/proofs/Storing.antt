-- What a memory holds and stores after a line is kept in it.
use Rattle.std.proofs.Common.{◌≡◌, ℕ, List, [], ◌++◌, sym, ◌∙◌, ap, subst, inl, inr, ◌⊎◌, ◌+◌, ◌<◌, ◌^◌, arith}
use Rattle.std.proofs.lemmas.Bool.{cases_eq}
use Rattle.hic_word.specs.Width.{four_wide}
use Rattle.hic_word.specs.declared.Word.{Word}
use Rattle.hic_word.specs.Lists.{times}
use Rattle.hic_word.specs.Entries.{Entry, LineValue, Named}
use Rattle.hic_word.specs.Canon.{IsMade}
use Rattle.hic_word.specs.Names.{names_in}
use Rattle.hic_word.specs.Values.{Array}
use Rattle.hic_word.specs.Memory.{Memory, line_at}
use Rattle.hic_word.specs.MemorySteps.{Interns}
use Rattle.hic_word.specs.Holds.{Holds}
use Rattle.hic_word.specs.Standing.{IsWithin}
use Rattle.hic_word.specs.Stands.{IdFor, LineFor, node_word, word_of}
use Rattle.hic_word.specs.declared.Kind.TheVariants.{Node}
use Rattle.hic_word.proofs.callers.Holds.{names-append, holding_is_by_counts, interned_there, interned_within, others_kept}
use Rattle.hic_word.proofs.callers.Forms.{made_fits}
use Rattle.hic_word.proofs.callers.Standing.{IdFor-within, stands_at, line_of, one_value}
use Rattle.line_room.specs.Room.{Stores}
use Rattle.seg_write.specs.Gains.{GainsOnly, HasNamed}

-- words that name the same are held alike
pub held_alike : (m : Memory) (xs ys held : List Word) → names_in xs ≡ names_in ys → Holds 4 m (xs ++ held) → Holds 4 m (ys ++ held)
held_alike m xs ys held e h = holding_is_by_counts 4 m (xs ++ held) (ys ++ held) (λ j.
    let a = names-append j xs held in
    let b = names-append j ys held in
    let c = ap (times j) e in
    omega (arith, a, b, c)) h

-- the entry that is made of an id
pub entry_of_id : (x : Word) (n id : ℕ) → x ≡ word_of Node 0 (n + 0 + 0) → n ≡ id → node_word id ≡ x
entry_of_id x n id e same = sym (e ∙ ap node_word (let all : n + 0 + 0 ≡ id = omega arith in all))

-- no line value but that of the line is stored that was not stored before
pub one_gained : (old new : Memory) (line H : List Word) (id : ℕ) (value L : LineValue) → Holds 4 old H → LineFor 4 (line_at old) line value → IsMade 4 value
    → Interns old line id new → id < 2 ^ 24 → Stores 4 (line_at new) L → Stores 4 (line_at old) L ⊎ (value ≡ L)
one_gained old new line H id value L h d made i low s = elim (cases_eq s.id id) [
  | inl same ↦
      let stands : IdFor 4 (line_at new) s.id value = subst (λ q. IdFor 4 (line_at new) q value) (sym same) (stands_at (line_at old) (line_at new) line id value within low (interned_there old new line id i) d) in
      inr (one_value four_wide stands (made_fits four_wide made) s.stands (made_fits four_wide s.made))
  | inr other ↦
      let (words, now) = line_of s.stands in
      let (K, stood, kept) = h.balanced.stands s.id words (sym (others_kept old new line id i s.id other) ∙ now) in
      let same : K ≡ L = one_value four_wide (IdFor-within (line_at old) (line_at new) within stood) (made_fits four_wide kept) s.stands (made_fits four_wide s.made) in
      inl (record { id = s.id; stands = subst (IdFor 4 (line_at old) s.id) same stood; made = s.made })
]
  where
    within : IsWithin (line_at old) (line_at new)
    within = interned_within old new line id i

-- so where an entry names the line, an array that has the entry's line has the one that was gained
pub gains_named : (old new : Memory) (e : Entry) (value : LineValue) (R : List Array) → e ≡ Named value [] → HasNamed e R → ((L : LineValue) → Stores 4 (line_at new) L → Stores 4 (line_at old) L ⊎ (value ≡ L)) → GainsOnly old new R
gains_named old new e value R is named one L s = elim (one L s) [ inl old_one ↦ inl old_one | inr same ↦ inr (named L [] (is ∙ ap (λ K. Named K []) same)) ]

-- The line values that a balanced memory stores.
use Rattle.std.proofs.Common.{◌≡◌, ℕ, List, length, Some, sym, ◌∙◌, subst}
use Rattle.std.specs.FinMap as map_of
use Rattle.hic_word.specs.declared.Word.{Word}
use Rattle.hic_word.specs.Width.{IsWidth}
use Rattle.hic_word.specs.Lists.{In}
use Rattle.hic_word.specs.Entries.{LineValue}
use Rattle.hic_word.specs.Canon.{IsMade}
use Rattle.hic_word.specs.Memory.{Memory, line_at}
use Rattle.hic_word.specs.Stands.{IdFor}
use Rattle.hic_word.specs.Balanced.{IsBalanced}
use Rattle.hic_word.proofs.callers.Lines.{Valued, KeysRise, entry_line, find_has, keys_rise, all_stored, in_valued, length_valued, valued_apart, valued_in}
use Rattle.hic_word.proofs.callers.Forms.{LineFits, made_fits}
use Rattle.hic_word.proofs.callers.Standing.{line_of, one_value}
use Rattle.line_room.specs.Room.{AreDistinct, Stores}

-- the line values that a memory stores, each once, as many as its lines
pub record AreLiveValues (w : ℕ) (m : Memory) (Ks : List LineValue) : Type 0 where
  pub distinct : AreDistinct Ks
  pub number : map_of.len m.lines ≡ length Ks
  pub stored : (L : LineValue) → In L Ks → Stores w (line_at m) L
  pub all : (L : LineValue) → Stores w (line_at m) L → In L Ks

-- the entries of a memory's map, whose keys rise, have its lines
rise : (m : Memory) → KeysRise (map_of.entries m.lines)
rise m = keys_rise (map_of.entries m.lines) (map_of.entries_sorted m.lines)

line_entry : (m : Memory) (id : ℕ) (line : List Word) → line_at m id ≡ Some line → In (id, line) (map_of.entries m.lines)
line_entry m id line at = find_has id line (map_of.entries m.lines) (sym (map_of.get-entries m.lines id) ∙ at)

module _ {w : ℕ} (width : IsWidth w) {m : Memory} {H : List Word} (b : IsBalanced w m H) where
  -- an id stands for at most one line value that fits, and a balanced memory has one for it that is made
  pub stores : (id : ℕ) (L : LineValue) → IdFor w (line_at m) id L → LineFits w L → Stores w (line_at m) L
  stores id L i fits =
      let (line, at) = line_of i in
      let (K, k, made) = b.stands id line at in
      let same : K ≡ L = one_value width k (made_fits width made) i fits in
      record { id = id; stands = i; made = subst (IsMade w) same made }

  -- they are those of the entries, in order
  values : (Ks : List LineValue) × Valued w (line_at m) (map_of.entries m.lines) Ks
  values = all_stored (line_at m) (map_of.entries m.lines) (λ e there.
      let at = entry_line m e there in
      let (L, i, made) = b.stands e.0 e.1 at in
      (L, i, made_fits width made, at))

  pub live_values : (Ks : List LineValue) × AreLiveValues w m Ks
  live_values =
      let es = map_of.entries m.lines in
      let (Ks, valued) = values in (
        Ks,
        record {
          distinct = valued_apart w (line_at m) b.unique es Ks (rise m) valued;
          number = map_of.len-entries m.lines ∙ length_valued w (line_at m) es Ks valued;
          stored = λ L k. let (e, there, i, fits, at) = in_valued (line_at m) es Ks L valued k in stores e.0 L i fits;
          all = λ L s.
              let (line, at) = line_of s.stands in
              let (K, k, i, fits) = valued_in (line_at m) es Ks (s.id, line) valued (line_entry m s.id line at) in
              let same : K ≡ L = one_value width i fits s.stands (made_fits width s.made) in
              subst (λ N. In N Ks) same k;
        },
      )

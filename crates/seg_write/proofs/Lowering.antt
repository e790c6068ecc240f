-- Changes that all fall into a lower part of an empty one: they are put in there, and its entry is lifted.
use Rattle.std.proofs.Common.{◌≡◌, ℕ, ◌+◌, ◌-◌, ◌*◌, ◌^◌, ◌<◌, ◌≤◌, List, [], refl, sym, ◌∙◌, ap, subst, arith}
use Rattle.std.proofs.Math.Nat.{mul-le-mul_left, mul-le-mul_right}
use Rattle.hic_word.specs.declared.Kind.TheVariants.{Num}
use Rattle.hic_word.specs.declared.Word.{Word}
use Rattle.hic_word.specs.Values.{Array, IsBelow}
use Rattle.hic_word.specs.Changes.{with}
use Rattle.hic_word.specs.Parts.{slice}
use Rattle.hic_word.specs.Canon.{IsPart, enc}
use Rattle.hic_word.specs.Stands.{EntryFor, Lookup, word_of}
use Rattle.hic_word.proofs.callers.Slices.{slice_changes, slice_past, slices_are_changed, slices_nest}
use Rattle.line_mem.specs.Looks.{LooksUpTo}
use Rattle.seg_canon.specs.declared.parts.Part.{Part}
use Rattle.seg_canon.specs.Parts.{PartFor, whole_part}
use Rattle.seg_canon.specs.Raises.{raises}
use Rattle.seg_canon.proofs.Opening.{part_empty}
use Rattle.seg_read.specs.Levels.{levels}
use Rattle.seg_read.proofs.Entering.{empty_quarter}
use Rattle.seg_read.proofs.Levels.{levels-empty}
use Rattle.seg_write.specs.declared.changes.Numbered.{Numbered}
use Rattle.seg_write.specs.Gains.{HasNamed}
use Rattle.seg_write.specs.Lone.{CanLift, LiesIn, TakesAll, piece}
use Rattle.seg_write.specs.Puts.{CanPut, FallInto, put_at}
use Rattle.seg_write.proofs.Changing.{part_put}
use Rattle.seg_write.proofs.Cutting.{rises_from}
use Rattle.seg_write.proofs.Lifting.{levels_below_lift, lift_levels, named_below, piece_room, slice_none}

-- where the changes end, each count has room for them and for a line more
pub low_counts : (l h n : ℕ) → l < h → 1 ≤ n → 4 * l * n + 1 + 1 ≤ 4 * h * n + 1
low_counts l h n less some = let more : 4 * (l + 1) * n ≤ 4 * h * n = mul-le-mul_right n (omega (arith, less)) in omega (arith, more, some)

-- a lower part of an empty one, which begins at offset c, takes all changes
pub record Lowered (m : Lookup) (h b c : ℕ) (cs : List (ℕ × Word)) (p : Numbered) (A L : Array) : Type 0 where
  pub can : CanPut m h (word_of Num 0 0) b cs A L
  pub lower : (1 ≤ p.height) × (p.height < h)
  pub inside : p.number < 4 ^ (h - p.height)
  pub takes : TakesAll p b cs
  pub at : c ≡ b + p.number * 4 ^ p.height

module _ {m : Lookup} {h b c : ℕ} {cs : List (ℕ × Word)} {p : Numbered} {A L : Array} (w : Lowered m h b c cs p A L) where
  none : A ≡ []
  none = part_empty w.can.part refl

  fall : FallInto m p.height c 1 cs L
  fall = subst (λ o. FallInto m p.height o 1 cs L) (sym w.at) (w.takes m b L w.can.changes.changes w.can.changes.ascend)

  low_room : p.number * 4 ^ p.height + 4 ^ p.height ≤ 4 ^ h
  low_room = let less = w.lower.1 in piece_room (h - p.height) p.height p.number h (omega (arith, less)) w.inside

  pub low_end : b + 4 ^ h ≤ 2 ^ 32 → c + 4 ^ p.height ≤ 2 ^ 32
  low_end end = let room = low_room in let at = w.at in omega (arith, room, at, end)

  -- the lower part is empty as well, and the changes fall into it
  pub low_put : (z : Word) → z ≡ word_of Num 0 0 → CanPut m p.height z c cs [] L
  low_put z is =
      let less = w.lower.1 in
      let low = w.can.part.is_part.low in
      record { part = empty_quarter m p.height z [] w.lower.0 (omega (arith, less, low)) is refl; changes = fall }

  -- slices of the changed array are of the changes alone
  cut_put : (o t : ℕ) → o + t ≤ 4 ^ h → slice o t (put_at h b A L) ≡ with [] (slice (b + o) t L)
  cut_put o t fits =
      slices_are_changed o t 0 A (slice b (4 ^ h) L) w.can.part.is_part.valid (slice_changes b (4 ^ h) b L w.can.changes.ascend)
      ∙ ap (λ X. with (slice o t X) (slice o t (slice b (4 ^ h) L))) none
      ∙ ap (with []) (slices_nest b (4 ^ h) o t L fits)

  low_piece : piece p.height (put_at h b A L) p.number ≡ put_at p.height c [] L
  low_piece = cut_put (p.number * 4 ^ p.height) (4 ^ p.height) low_room ∙ ap (λ o. put_at p.height o [] L) (sym w.at)

  -- so it has all words of the changed array
  low_lies : LiesIn p.height p.number h (put_at h b A L)
  low_lies =
      let s = 4 ^ p.height in
      let d = p.number * s in
      let e = d + s in
      let room = low_room in
      let below = fall.below in
      let at = w.at in
      let end : c + 1 * s ≡ b + e = omega (arith, at) in
      record {
        is_part = part_put h b b A L w.can.part.is_part w.can.changes.ascend;
        inside = w.inside;
        before = cut_put 0 d (omega (arith, room)) ∙ ap (with []) (slice_past (b + 0) d c L (omega (arith, at)) (rises_from c L fall.ascend));
        past = cut_put e (4 ^ h - e) (omega (arith, room)) ∙ ap (with []) (slice_none (b + e) (4 ^ h - e) L (subst (λ n. IsBelow n L) end below));
      }

  -- an array that has the line of the changed part has that of the lower one
  pub low_named : (R : List Array) → HasNamed (enc 4 h (put_at h b A L)) R → HasNamed (enc 4 p.height (put_at p.height c [] L)) R
  low_named R named =
      let less = w.lower.1 in
      subst (λ B. HasNamed (enc 4 p.height B) R) low_piece (named_below (h - p.height) p.height p.number h (put_at h b A L) R (omega (arith, less)) w.lower.0 low_lies named)

  -- what was looked at where the lower part finds no room
  low_levels : levels (enc 4 p.height (put_at p.height c [] L)) ≤ levels (enc 4 h (put_at h b A L))
  low_levels = let less = w.lower.1 in let more = levels_below_lift (h - p.height) p.height p.number h (put_at h b A L) (omega (arith, less)) w.lower.0 low_lies in let own = ap (λ B. levels (enc 4 p.height B)) low_piece in omega (arith, more, own)

  pub low_looks_full : (n P s0 s1 : ℕ) → LooksUpTo (n * (levels (enc 4 p.height []) + levels (enc 4 p.height (put_at p.height c [] L)) * P)) s0 s1 → LooksUpTo (n * (levels (enc 4 h A) + levels (enc 4 h (put_at h b A L)) * P)) s0 s1
  low_looks_full n P s0 s1 first =
      let j = levels (enc 4 p.height (put_at p.height c [] L)) in
      let k = levels (enc 4 h (put_at h b A L)) in
      let more : j * P ≤ k * P = mul-le-mul_right P low_levels in
      let each : n * (j * P) ≤ n * (k * P) = mul-le-mul_left n more in
      let empty = ap (λ t. n * (t + j * P)) (levels-empty p.height) in
      let rose = first.0 in
      let middle = first.1 in
      (rose, omega (arith, middle, each, empty))

  module _ {o : Lookup} {x : Word} (part : PartFor 4 o (whole_part p.height x) (put_at p.height c [] L)) where
    -- its entry is lifted to the height of the part
    pub low_lift : CanLift o (record { top = h; at = p.height; entry = x }) p.number (put_at h b A L)
    low_lift =
        let less = w.lower.1 in
        let same = sym low_piece in
        record {
          part = record {
            is_part = subst (λ B. IsPart 4 p.height B) same part.is_part;
            high = omega (arith, less);
            low = w.can.part.is_part.low;
            entry = subst (λ B. EntryFor 4 o x (enc 4 p.height B)) same part.entry;
          };
          lies = low_lies;
        }

    pub low_looks : (n P Q s0 s1 s2 : ℕ) → 1 ≤ n → Q ≡ P
        → LooksUpTo (n * (levels (enc 4 p.height []) + levels (enc 4 p.height (put_at p.height c [] L)) * P)) s0 s1
        → LooksUpTo (raises (record { top = h; at = p.height; entry = x }) * Q) s1 s2
        → LooksUpTo (n * (levels (enc 4 h A) + levels (enc 4 h (put_at h b A L)) * P)) s0 s2
    low_looks n P Q s0 s1 s2 some same first last =
        let q : Part = record { top = h; at = p.height; entry = x } in
        let j = levels (enc 4 p.height (put_at p.height c [] L)) in
        let k = levels (enc 4 h (put_at h b A L)) in
        let all = lift_levels low_lift w.lower.1 in
        let own = ap (λ B. levels (enc 4 p.height B)) low_piece in
        let more : (j + raises q) * P ≤ k * P = mul-le-mul_right P (omega (arith, all, own)) in
        let each : n * ((j + raises q) * P) ≤ n * (k * P) = mul-le-mul_left n more in
        let once : 1 * (raises q * P) ≤ n * (raises q * P) = mul-le-mul_right (raises q * P) some in
        let cost = ap (λ t. raises q * t) same in
        let empty = ap (λ t. n * (t + j * P)) (levels-empty p.height) in
        let rose = first.0 in
        let up = last.0 in
        let middle = first.1 in
        let end = last.1 in
        (omega (arith, rose, up), omega (arith, middle, end, each, once, cost, empty))

-- What memories keep, gain, lack and hold over several steps.
use Rattle.std.proofs.Common.{◌≡◌, List, inl, inr, ◌∙◌, ap, subst, arith}
use Rattle.std.specs.Ordering.{nat_cmp}
use Rattle.std.specs.FinMap.{FinMap}
use Rattle.std.specs.FinMap as map
use Rattle.hic_word.specs.declared.Word.{Word}
use Rattle.hic_word.specs.Values.{Array}
use Rattle.hic_word.specs.Memory.{Layout, Memory, line_at}
use Rattle.hic_word.specs.Standing.{IsWithin}
use Rattle.line_room.specs.Room.{LacksRoom, Stores}
use Rattle.seg_write.specs.Gains.{GainsOnly}

-- a memory with the same lines keeps them and gains none
pub lines_within : (old m : Memory) → m.lines ≡ old.lines → IsWithin (line_at old) (line_at m)
lines_within old m same id line e = ap (λ (ls : FinMap nat_cmp (List Word)). map.get ls id) same ∙ e

pub gains_nothing : (old m : Memory) (R : List Array) → m.lines ≡ old.lines → GainsOnly old m R
gains_nothing old m R same L s = inl (subst (λ (ls : FinMap nat_cmp (List Word)). Stores 4 (λ id. map.get ls id) L) same s)

-- what is gained on the way from a memory to a third one is gained on the way to the second or from it
pub gains_after : (a b c : Memory) (R : List Array) → GainsOnly a b R → GainsOnly b c R → GainsOnly a c R
gains_after a b c R first then L s = elim (then L s) [ inl stored ↦ first L stored | inr new ↦ inr new ]

-- layouts that are the same have the same bound of looks
pub same_probe : {a b : Layout} → a ≡ b → a.probe ≡ b.probe
same_probe e = ap (λ (x : Layout). x.probe) e

-- arrays that find no room in a later memory, whose gains are lines of theirs, found none in the earlier one
pub lacks_before : (m n : Memory) (R : List Array) → GainsOnly m n R → n.layout ≡ m.layout → LacksRoom 4 n R → LacksRoom 4 m R
lacks_before m n R gains same_layout lacks = record {
  values = lacks.values;
  distinct = lacks.distinct;
  each = λ L k. elim (lacks.each L k) [ inl stored ↦ gains L stored | inr new ↦ inr new ];
  more = let more = lacks.more in let same = ap (λ (x : Layout). x.cap) same_layout in omega (arith, more, same);
}

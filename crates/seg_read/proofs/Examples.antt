-- The arrays of the tests, and their roots.
use Rattle.std.proofs.Common.{◌≡◌, ℕ, ◌+◌, ◌*◌, ◌^◌, ◌<◌, [], ◌∷◌, Some, refl, arith}
use Rattle.hic_word.specs.declared.Kind.TheVariants.{Num, RefNode, RefPack}
use Rattle.hic_word.specs.declared.Word.{Word}
use Rattle.hic_word.specs.Values.{ArePairs, IsArray, NoPair, Number, Ref}
use Rattle.hic_word.specs.Heights.{height, height_from}
use Rattle.hic_word.specs.Stands.{AWord, IsNumber, IsPacked, IsStored, LeafAt, NoWord, word_of}
use Rattle.hic_word.specs.InMemory.{RootIn, WordIn}
use Rattle.hic_word.specs.Memory.{Memory, line_at}

five_valid : IsArray ((5, Number 70000) ∷ [])
unfolding ArePairs
five_valid = (omega arith, omega arith, refl, omega arith, tt)

pub five_root : (m : Memory) (id : ℕ) (root a b c d : Word) → id < 2 ^ 24 → line_at m id ≡ Some (a ∷ b ∷ c ∷ d ∷ []) → a ≡ word_of Num 0 0 → b ≡ word_of Num 0 70000 → c ≡ word_of Num 0 0 → d ≡ word_of Num 0 0
    → root ≡ word_of RefNode 2 (id + 2 ^ 24 * 1 + 2 ^ 59 * 1) → RootIn m root ((5, Number 70000) ∷ [])
unfolding height height_from
five_root m id root a b c d low there e f g h is = record {
  valid = five_valid;
  word = IsStored {id = id} refl (LeafAt low there (AWord (IsNumber e) (AWord (IsNumber f) (AWord (IsNumber g) (AWord (IsNumber h) NoWord))))) is;
}

packed_valid : IsArray ((0, Number 1) ∷ (2, Number 3) ∷ [])
unfolding ArePairs
packed_valid = (omega arith, omega arith, refl, omega arith, (omega arith, omega arith, refl, omega arith, tt))

pub packed_root : (m : Memory) (root : Word) → root ≡ word_of RefPack 1 12884901889 → RootIn m root ((0, Number 1) ∷ (2, Number 3) ∷ [])
unfolding height height_from
packed_root m root is = record { valid = packed_valid; word = IsPacked {ns = 1 ∷ 0 ∷ 3 ∷ 0 ∷ []} refl is }

pub empty_is : (m : Memory) (root : Word) → WordIn m root (Ref NoPair) → RootIn m root []
unfolding ArePairs
empty_is m root f = record { valid = tt; word = f }

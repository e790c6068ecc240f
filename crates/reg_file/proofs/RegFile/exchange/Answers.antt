use Rattle.std.proofs.Common.{◌≡◌, ◌++◌, ◌∙◌, length, arith, length-set}
use Rattle.hic_word.specs.declared.Kind.TheVariants.{Num}
use Rattle.hic_word.specs.Stands.{word_of}
use Rattle.reg_file.proofs.Others.{bit_tells, others_set}
use Rattle.reg_file.proofs.Swapped.{former_held, swapped}
use Rattle.reg_file.proofs.RegFile.exchange.Goals as goal

pub hold-requires-clause-held : goal.hold-requires-clause-held
hold-requires-clause-held g c = let (H, held) = c.requires.held in (c.args.self.now ++ H, held)

pub release-requires : goal.release-requires
release-requires g c =
    let eight : length c.self.inside.words ≡ 8 = c.self.invariant.0 in
    former_held c.self.inside.words c.args.self.now c.args.r c.args.word (word_of Num 0 0) c.self.view_is (omega arith) c.hold.ensures.exchanges c.requires.held

pub returns-clause-eight : goal.returns-clause-eight
returns-clause-eight g c = length-set c.self.inside.words c.args.r c.args.word ∙ c.self.invariant.0

pub returns-clause-exchanges : goal.returns-clause-exchanges
returns-clause-exchanges g c =
    let eight : length c.self.inside.words ≡ 8 = c.self.invariant.0 in
    swapped c.self.inside.words c.args.self.now c.args.r c.args.word (word_of Num 0 0) c.self.view_is (omega arith) c.hold.ensures.exchanges c.release.ensures.exchanges

-- the bit of the register tells of the new word
pub invariant_of-self : goal.invariant_of-self
invariant_of-self g c =
    let eight : length c.self.inside.words ≡ 8 = c.self.invariant.0 in (
      length-set c.self.inside.words c.args.r c.args.word ∙ eight,
      others_set c.self.inside.others c.with_bit-self-inside.result c.self.inside.words c.args.r c.args.word (omega arith) (omega arith) c.self.invariant.1 (bit_tells c.is_number.result _ c.is_number.ensures c.with_bit-self-inside.ensures.there) c.with_bit-self-inside.ensures.elsewhere,
    )

use Rattle.std.proofs.Common.{sym, rules}
use Rattle.write_buf.proofs.PairLaws.{ascend-put, sets_only, not_full}
use Rattle.write_buf.proofs.PlaceLaws.{word_at-stands, written-stands, inserted-fits}
use Rattle.write_buf.proofs.WriteBuf.put.Goals as goal

-- the word is written over the one at its offset
pub returns-in-Ok-clause-pairs : goal.returns-in-Ok-clause-pairs
returns-in-Ok-clause-pairs c = written-stands _ _ _ _ _ _ _ _ c.self.view_is c.deref_mut.ensures.value c.replace.ensures.after c.in-Ok.ensures.stands

pub invariant_of-self : goal.invariant_of-self
invariant_of-self c = ascend-put _ _ _ _ _ c.self.view_is c.self.invariant (returns-in-Ok-clause-pairs c) (search (rules, c.ranges.offset))

pub returns-in-Ok-clause-only : goal.returns-in-Ok-clause-only
returns-in-Ok-clause-only c = sets_only _ _ _ _ (returns-in-Ok-clause-pairs c)

pub returns-in-Ok-clause-former : goal.returns-in-Ok-clause-former
returns-in-Ok-clause-former c = rw (c.replace.ensures.value, c.deref_mut.ensures.value, c.self.view_is) (sym (word_at-stands _ _ _ _ c.in-Ok.ensures.stands))

pub returns-in-Ok-clause-full : goal.returns-in-Ok-clause-full
returns-in-Ok-clause-full c = not_full _ _ _ (word_at-stands _ _ _ (0, c.args.word) c.in-Ok.ensures.stands)

-- the pair is inserted where its offset fits
pub returns-else-is_full-clause-pairs : goal.returns-else-is_full-clause-pairs
returns-else-is_full-clause-pairs c = inserted-fits _ _ _ _ _ _ c.self.view_is c.insert.ensures.items c.in-Err.ensures.fits

pub invariant_of-self-in-Err : goal.invariant_of-self-in-Err
invariant_of-self-in-Err c = ascend-put _ _ _ _ _ c.self.view_is c.self.invariant (returns-else-is_full-clause-pairs c) (search (rules, c.ranges.offset))

pub returns-else-is_full-clause-only : goal.returns-else-is_full-clause-only
returns-else-is_full-clause-only c = sets_only _ _ _ _ (returns-else-is_full-clause-pairs c)

use Rattle.std.proofs.Common.{arith}
use Rattle.line_store.proofs.StoreCalls.{live_slot, word_read}
use Rattle.line_store.proofs.bucket_store.BucketStoreLineMem.word.Goals as goal

pub word-requires : goal.word-requires
word-requires g c = (omega arith, (live_slot c.args.self.now.slots c.args.id c.get.result c.get.ensures.value c.requires.live, c.requires.inside))

pub returns-clause-word : goal.returns-clause-word
returns-clause-word g c = word_read c.args.self.now.slots c.args.id c.get.result c.args.place c.word.result c.get.ensures.value c.word.ensures.word

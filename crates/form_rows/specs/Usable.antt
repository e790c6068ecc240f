-- Registers as the tests use them.
use Rattle.std.specs.Prelude.{Option}
use Rattle.hic_word.specs.Exchanges.{HoldsAmong}
use Rattle.hic_word.specs.Memory.{Memory}
use Rattle.iter_regs.specs.declared.opened.Open.{Open}
use Rattle.iter_regs.specs.Iters.{CanRead, iter_words}

-- a register whose words the memory holds, and which can be read
abbrev pub IsUsable : Memory → Option Open → Type 0
IsUsable m reg = HoldsAmong m (iter_words reg) × CanRead m reg

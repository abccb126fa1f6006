use Rattle.std.proofs.Common.{arith}
use Rattle.memory_laws.proofs.Numbers.{word_low}
use Rattle.memory.proofs.checked.CheckedMemory.fetch.Goals as goal

pub record_of-requires : goal.record_of-requires
record_of-requires g c =
    word_low c.args.self.now.clock.width c.in_ok-word.word c.args.self.now.clock.narrow (omega (arith, c.power.ensures, c.if-word-power.false))

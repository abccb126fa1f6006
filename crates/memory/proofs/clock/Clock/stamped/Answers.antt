use Rattle.std.proofs.Common.{arith}
use Rattle.memory_laws.proofs.Numbers.{word_fits}
use Rattle.memory.proofs.clock.Clock.stamped.Goals as goal

pub returns-clause-below : goal.returns-clause-below
returns-clause-below c =
    let k = c.args.self.now in rw c.power.ensures (word_fits k.width _ c.args.value (omega arith) c.requires.1 k.narrow)

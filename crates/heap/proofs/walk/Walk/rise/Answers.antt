use Rattle.std.proofs.Common.{rules}
use Rattle.heap_laws.proofs.Turns.{rising_turn}
use Rattle.heap.proofs.walk.Walk.rise.Goals as goal

pub loop-self-init : goal.loop-self-init
loop-self-init g c = search (rules, rising_turn)

pub loop-self-preserved : goal.loop-self-preserved
loop-self-preserved g c = search (rules, rising_turn)

use Rattle.std.proofs.Common.{rules}
use Rattle.heap_laws.proofs.Turns.{sinking_turn}
use Rattle.heap.proofs.walk.Walk.sink.Goals as goal

pub loop-self-init : goal.loop-self-init
loop-self-init g c = search (rules, sinking_turn)

pub loop-self-preserved : goal.loop-self-preserved
loop-self-preserved g c = search (rules, sinking_turn)

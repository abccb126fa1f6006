use Rattle.std.proofs.Common.{rules}
use Rattle.parts.proofs.Naming.{names_so}
use Rattle.heap_laws.specs.HeapMachine.{heap}
use Rattle.heap_laws.proofs.HeapKeeps.{heap_keeps}
use Rattle.heap.specs.View.{view}
use Rattle.heap.proofs.binary.HeapQueue.least.Goals as goal

pub returns-clause-names : goal.returns-clause-names
returns-clause-names g c =
    let m = g.S.Store.meaning in let b = g.O.Order.before in
    names_so b (heap m b) (heap_keeps m g.S.Store.keeps b g.met.O.Order.laws) (view g.S.Store.state c.args.self.now) c.map.result (search rules)

use Rattle.std.proofs.Common.{◌≡◌, Ok}
use Rattle.heap_laws.specs.HeapMachine.{wiping}
use Rattle.heap.proofs.binary.HeapQueue.clear.Given as goal

abbrev pub invariant-loop-ticket : goal.invariant-loop-ticket
invariant-loop-ticket g l =
    let f = g.S.Store.state in
    (l.self.count ≡ 0) ×
    (wiping g.S.Store.meaning g.O.Order.before l.ticket (f l.initial.self.store) ≡ (Ok tt, f l.self.store))

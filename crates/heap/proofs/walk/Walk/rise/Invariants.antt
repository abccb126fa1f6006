use Rattle.std.proofs.Common.{◌≡◌, cond, eqb, Ok}
use Rattle.parts.specs.Outcomes.{and_then}
use Rattle.heap_laws.specs.Cells.{parent}
use Rattle.heap_laws.specs.HeapMachine.{key_at, risen, rising}
use Rattle.heap.specs.Walks.{Same}
use Rattle.heap.proofs.walk.Walk.rise.Given as goal

-- the turn that comes next, and what is left after it, make the whole way
abbrev pub invariant-loop-self : goal.invariant-loop-self
invariant-loop-self g l =
    let m = g.S.Store.meaning in
    let f = g.S.Store.state in
    let before = g.O.Order.before in
    let from = l.initial.self.hole in
    let hole = l.self.hole in
    let above = parent hole in
    let cap = l.self.capacity in
    Same l.initial.self l.self ×
    (cond (eqb hole 0) (Ok hole, f l.self.store.now) (and_then (key_at m above (f l.self.store.now)) (risen m before cap l.key hole (rising m before above cap l.key above)))
    ≡ rising m before from cap l.key from (f l.initial.self.store.now))

abbrev pub decreases-loop-self : goal.decreases-loop-self
decreases-loop-self g l = l.self.hole

use Rattle.std.proofs.Common.{◌≡◌, ◌-◌, cond, ltb, Ok}
use Rattle.parts.specs.Outcomes.{and_then}
use Rattle.heap_laws.specs.Cells.{left_child}
use Rattle.heap_laws.specs.HeapMachine.{first_child, sunk, sinking}
use Rattle.heap.specs.Walks.{Same}
use Rattle.heap.proofs.walk.Walk.sink.Given as goal

-- the turn that comes next, and what is left after it, make the whole way
abbrev pub invariant-loop-self : goal.invariant-loop-self
invariant-loop-self g l =
    let m = g.S.Store.meaning in
    let f = g.S.Store.state in
    let before = g.O.Order.before in
    let from = l.initial.self.hole in
    let hole = l.self.hole in
    let cap = l.self.capacity in
    let n = l.self.count in
    Same l.initial.self l.self ×
    (cond (ltb (left_child hole) n) (and_then (first_child m before n hole (f l.self.store.now)) (sunk m before cap l.key hole (λ c. sinking m before (n - c) cap n l.key c))) (Ok hole, f l.self.store.now)
    ≡ sinking m before (n - from) cap n l.key from (f l.initial.self.store.now))

abbrev pub decreases-loop-self : goal.decreases-loop-self
decreases-loop-self g l = l.self.count - l.self.hole

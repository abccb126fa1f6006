use Rattle.std.proofs.Common.{rules}
use Rattle.parts.specs.declared.fault.QueueFault.TheVariants.{Store}
use Rattle.parts.proofs.Steps.{up_to_none, up_to_more, up_to_fault}
use Rattle.heap_laws.specs.HeapMachine.{wiped_at}
use Rattle.heap.proofs.binary.HeapQueue.clear.Goals as goal

pub loop-ticket-init : goal.loop-ticket-init
loop-ticket-init g c = search (rules, up_to_none)

pub loop-ticket-preserved : goal.loop-ticket-preserved
loop-ticket-preserved g c =
    (c.loop-ticket.invariant.0, up_to_more (wiped_at g.S.Store.meaning g.O.Order.before) _ _ c.loop-ticket.ticket _ _ _ _ c.loop-ticket.invariant.1 (search rules) (search rules))

pub returns-in_err-write : goal.returns-in_err-write
returns-in_err-write g c =
    let step = wiped_at g.S.Store.meaning g.O.Order.before in
    let left = g.S.Store.state c.write.new.self in
    let all = up_to_fault step _ _ c.loop-ticket.ticket _ _ _ (Store c.in_err-write.field-0.0) left c.loop-ticket-test.true c.loop-ticket.invariant.1 (search rules) (search rules) in
    search rules

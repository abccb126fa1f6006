use Rattle.std.proofs.Common.{Ok, None, rules}
use Rattle.parts.proofs.Naming.{names_so}
use Rattle.queue_laws.specs.CheckedQueue.{checked}
use Rattle.queue_laws.proofs.QueueKeeps.{checked_keeps}
use Rattle.queue.specs.View.{view}
use Rattle.queue.proofs.checked.CheckedQueueQueue.least.Goals as goal

pub returns-then-is_none-clause-names : goal.returns-then-is_none-clause-names
returns-then-is_none-clause-names g c =
    let q = g.Q.Queue.meaning in let b = g.Q.Order.Order.before in
    names_so b (checked q b) (checked_keeps q b g.met.Q.Queue.keeps) (view g.Q.Queue.state c.args.self.now) (Ok None) (search rules)

pub returns-clause-names : goal.returns-clause-names
returns-clause-names g c =
    let q = g.Q.Queue.meaning in let b = g.Q.Order.Order.before in
    names_so b (checked q b) (checked_keeps q b g.met.Q.Queue.keeps) (view g.Q.Queue.state c.args.self.now) c.settle.result (search rules)

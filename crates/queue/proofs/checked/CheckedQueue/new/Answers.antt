use Rattle.std.proofs.Common.{◌≡◌, sym, subst, rules}
use Rattle.queue_laws.specs.CheckedQueue.{made, StartsLoyal}
use Rattle.queue_laws.proofs.QueueKeeps.{starts_loyal}
use Rattle.queue.specs.View.{view}
use Rattle.queue.proofs.checked.CheckedQueue.new.Goals as goal

pub returns-clause-loyal : goal.returns-clause-loyal
returns-clause-loyal g c =
    let q = g.Q.Queue.meaning in let b = g.Q.Order.Order.before in let x = g.Q.Queue.state c.args.below in
    let e : view g.Q.Queue.state (record { below = c.args.below; table = c.new.result; latch = c.new-2.result }) ≡ made q b c.args.capacity x = search rules in
    subst (StartsLoyal q b c.args.capacity x) (sym e) (starts_loyal q b g.met.Q.Queue.keeps c.args.capacity x)

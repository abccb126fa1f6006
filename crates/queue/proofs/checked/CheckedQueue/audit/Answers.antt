use Rattle.std.proofs.Common.{◌≡◌, ap, ◌∙◌, rules}
use Rattle.queue_laws.specs.CheckedQueue.{audits}
use Rattle.queue_laws.proofs.QueueKeeps.{loyal_audit}
use Rattle.queue.specs.View.{view}
use Rattle.queue.proofs.checked.CheckedQueue.audit.Goals as goal

pub returns-clause-passes : goal.returns-clause-passes
returns-clause-passes g c = λ l.
    let q = g.Q.Queue.meaning in let b = g.Q.Order.Order.before in let s = view g.Q.Queue.state c.args.self.now in
    let d : c.settle.result ≡ (audits q b s).0 = search rules in
    d ∙ ap (λ o. o.0) (loyal_audit q b g.met.Q.Queue.keeps s l)

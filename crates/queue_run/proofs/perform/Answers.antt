use Rattle.std.proofs.Common.{ap, ◌∙◌}
use Rattle.parts.specs.Runs.{answers, after}
use Rattle.parts.proofs.Runs.{all_answered, all_left}
use Rattle.queue_laws.specs.CheckedQueue.{Chk}
use Rattle.queue_laws.specs.QueueRuns.{performed}
use Rattle.queue_laws.proofs.QueuePromised.{promised}
use Rattle.queue_run.proofs.perform.Goals as goal

pub returns : goal.returns
returns g c =
    let q = g.Q.Queue.meaning in let b = g.Q.Order.Order.before in
    let cs = c.args.calls.now in
    let new = c.new.ensures.outcome in
    let all = c.in-Ok.ensures in let done = c.perform_all.ensures in
    record {
      keeps = promised q b g.met.Q.Queue.keeps g.met.Q.Order.Order.laws c.args.capacity (g.Q.Queue.state c.args.queue) cs;
      gives = (
        all_answered (performed q b) cs _ _ _ all.len all.capacity _ _ all.items done.answer ∙ ap (answers (performed q b) cs) new,
        c.into_queue.ensures ∙ ap (λ (s : Chk q b). s.below) (all_left (performed q b) cs _ _ _ all.len all.capacity _ done.leaves ∙ ap (after (performed q b) cs) new),
      );
    }

pub returns-in-Err-clause-keeps : goal.returns-in-Err-clause-keeps
returns-in-Err-clause-keeps g c = promised g.Q.Queue.meaning g.Q.Order.Order.before g.met.Q.Queue.keeps g.met.Q.Order.Order.laws c.args.capacity _ c.args.calls.now

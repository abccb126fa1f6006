use Rattle.std.proofs.Common.{ℕ, ◌+◌, min, List, sym, subst}
use Rattle.std.proofs.lemmas.Result.{MatchResult-weaker}
use Rattle.parts.specs.Queues.{nothing_waits}
use Rattle.memory_laws.proofs.Mixes.{sum_laws}
use Rattle.memory_laws.specs.Mix.{sum_tally}
use Rattle.queue_laws.specs.declared.call.Answer.{Answer}
use Rattle.queue_laws.specs.QueueRuns.{CanGive}
use Rattle.queue_examples.proofs.QueuePiles.{ideal_on_queues}
use Rattle.queue_examples.proofs.queue_pile.on_queue_pile.Goals as goal

pub returns : goal.returns
returns g c h wide low high =
    let up : ℕ → ℕ = λ n. min 255 (n + 1) in
    let top = up (up (up (up (g.S.Store.meaning.height (g.S.Store.state c.args.bottom))))) in
    MatchResult-weaker c.perform-lower.result.1 c.perform-lower.ensures.gives
    (λ v p. subst (λ (rs : List Answer). CanGive g.O.Order.before top c.args.capacity nothing_waits c.args.calls.now rs) (sym p.0)
    (ideal_on_queues g.S.Store.meaning g.S.Store.keeps (λ t. sum_tally t.key) (λ t. sum_laws t.key) g.O.Order.before g.met.O.Order.laws
    _ _ _ _ c.args.capacity c.args.calls.now c.new-cells.ensures.loyal c.new.ensures.loyal c.new-lower.ensures.outcome c.new-lower.ensures.loyal
    c.perform-lower.ensures.keeps h wide low high))
    (λ _ _. tt)

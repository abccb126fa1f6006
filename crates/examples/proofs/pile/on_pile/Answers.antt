use Rattle.std.proofs.Common.{◌∙◌}
use Rattle.std.proofs.lemmas.Result.{MatchResult-weaker}
use Rattle.examples.proofs.Piles.{ideal_on_pile}
use Rattle.memory_laws.proofs.Mixes.{sum_laws}
use Rattle.memory_laws.specs.Mix.{sum_tally, xor_tally}
use Rattle.examples.proofs.pile.on_pile.Goals as goal

pub returns : goal.returns
returns g c h wide =
    MatchResult-weaker c.perform-lower.result.1 c.perform-lower.ensures.gives
    (λ v p. p.0 ∙ ideal_on_pile g.S.Store.meaning g.S.Store.keeps (λ t. sum_tally t.key) (λ t. sum_laws t.key) (λ t. xor_tally t.key)
    _ _ _ c.args.calls.now c.new-lower.ensures.loyal c.perform-lower.ensures.keeps h wide)
    (λ _ _. tt)

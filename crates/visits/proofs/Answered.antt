-- From what the call that performs a list of calls gives.
use Rattle.std.proofs.Common.{◌≡◌, List, IfOk, Some, None, Ok, Err, Option, Result, ◌∙◌, MatchResult}
use Rattle.std.specs.Option.{unwrap_or, UnwrapsOrElse}
use Rattle.script.specs.Cards.{usual_tally}
use Rattle.script.specs.declared.card.Tally.{Tally}

pub answered : {A X Y : Type 0} (r : Result X Y) (items : X → List A) (all wanted : List A) (P : X → Type 0) (Q : Y → Type 0) → all ≡ wanted → MatchResult r (λ v. (items v ≡ all) × P v) Q → IfOk r (λ v. items v ≡ wanted)
answered (Ok v) items all wanted P Q e h = h.0 ∙ e
answered (Err y) items all wanted P Q e h = tt

-- the tally that is given, or the usual one
pub usual : (given : Option Tally) (t : Tally) → UnwrapsOrElse given (λ d. d ≡ usual_tally) t → t ≡ unwrap_or given usual_tally
usual None t h = h
usual (Some x) t h = h

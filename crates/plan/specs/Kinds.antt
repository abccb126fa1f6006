-- A kind of section.
use Rattle.std.specs.Prelude.{ℕ, Bool, List, Ok, Result}
use Rattle.words.specs.declared.reason.Reason.{Reason}
use Rattle.words.specs.Taken.{ended, and_then}
use Rattle.plan.specs.declared.kind.Line.{Line}
use Rattle.plan.specs.declared.kind.Line.TheVariants.{Does}

-- a line that says a call by its first word alone
abbrev pub plain_said : {S C : Type 0} → C → List (List ℕ) → Result (Line S C) Reason
plain_said call ws = and_then (ended ws) (λ _. Ok (Does call))

-- What is read from its lines: what its first line gives, what another says, alterations apart, whether such a setting was given,
-- and what there is with the setting.
pub record Reading (K S C : Type 0) : Type 0 where
  pub begun : List (List ℕ) → Result K Reason
  pub said : List ℕ → List (List ℕ) → Result (Line S C) Reason
  pub given : K → S → Bool
  pub with_setting : K → S → K

-- A list of calls performed in turn on a part that answers each.
use Rattle.std.specs.Prelude.{List, [], ◌∷◌}

-- what they are answered
unfoldable pub answers : {C R S : Type 0} → (C → S → R × S) → List C → S → List R
answers step [] s = []
answers step (c ∷ cs) s = (step c s).0 ∷ answers step cs (step c s).1

-- what they leave
unfoldable pub after : {C R S : Type 0} → (C → S → R × S) → List C → S → S
after step [] s = s
after step (c ∷ cs) s = after step cs (step c s).1

-- a part that answers calls of the type C by answers of the type R: its states, and what each call is answered and leaves
pub record Machine (C R : Type 0) : Type 1 where
  pub State : Type 0
  pub step : C → State → R × State

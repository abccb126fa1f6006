-- What a tally does, and its laws.
use Rattle.std.specs.Prelude.{◌≡◌, ℕ, ◌^◌, ◌<◌, Bool, Decides}

-- the value of the empty bag, the value with one record more, and the test whether two values are one
pub record Tallying (V : Type 0) : Type 0 where
  pub start : V
  pub add : V → ℕ → V
  pub same : V → V → Bool

-- A record is a number below 2 ^ 64. That the first law is asked of all numbers excludes no tally of such records:
-- one can always be said to add r as r modulo 2 ^ 64.
pub record Laws {V : Type 0} (l : Tallying V) : Type 0 where
  -- two records added in either order give one value
  pub swap : (v : V) (a b : ℕ) → l.add (l.add v a) b ≡ l.add (l.add v b) a
  -- different records added to one value give different values
  pub apart : (v : V) (a b : ℕ) → a < 2 ^ 64 → b < 2 ^ 64 → l.add v a ≡ l.add v b → a ≡ b
  -- the test tells whether the values are one
  pub same_tells : (v w : V) → Decides (l.same v w) (v ≡ w)

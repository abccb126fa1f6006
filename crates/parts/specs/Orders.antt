-- What an order of keys is.
use Rattle.std.specs.Prelude.{◌≡◌, ℕ, Bool, true, false}

-- The two laws, asked of all numbers. A key is below 2 ^ 28; that they are asked of the others too excludes no order
-- of keys: one can always be said to compare numbers modulo 2 ^ 28.
pub record OrderLaws (before : ℕ → ℕ → Bool) : Type 0 where
  -- no key is before one that is before it
  pub asymmetric : (a b : ℕ) → before a b ≡ true → before b a ≡ false
  -- "not before" chains
  pub chains : (a b c : ℕ) → before a b ≡ false → before b c ≡ false → before a c ≡ false

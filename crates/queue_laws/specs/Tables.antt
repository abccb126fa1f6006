-- The table of a checked queue: the waiting keys and their bounds.
use Rattle.std.specs.Prelude.{ℕ, zero, suc, Bool, false, cond, is_some, Some, None, Option, ◌==◌}
use Rattle.parts.specs.Queues.{Entries}

-- The key with which a ticket waits, and its bound: a key that was named while it waited and that it must not be before, or none.
pub record Row : Type 0 where
  pub key : ℕ
  pub bound : Option ℕ

-- under each ticket its row, or nothing where it does not wait
abbrev pub Table : Type 0
Table = ℕ → Option Row

abbrev pub empty_table : Table
empty_table t = None

-- the table with r under the ticket t
abbrev pub with_row : Table → ℕ → Option Row → Table
with_row T t r u = cond (u == t) r (T u)

-- an entry of key k waits without a bound
abbrev pub fresh_row : ℕ → Row
fresh_row k = record { key = k; bound = None }

abbrev pub key_in : Option Row → Option ℕ
key_in (Some r) = Some r.key
key_in None = None

-- what waits, by the table
abbrev pub waiting : Table → Entries
waiting T t = key_in (T t)

-- the first number below n that passes
abbrev pub or_next : Option ℕ → Bool → ℕ → Option ℕ
or_next (Some t) passes n = Some t
or_next None passes n = cond passes (Some n) None

unfoldable pub first_below : (ℕ → Bool) → ℕ → Option ℕ
first_below p zero = None
first_below p (suc n) = or_next (first_below p n) (p n) n

-- the first ticket below m that waits
abbrev pub first_waiting : Table → ℕ → Option ℕ
first_waiting T m = first_below (λ t. is_some (T t)) m

module _ (before : ℕ → ℕ → Bool) where
  -- a bound that is none or before the named key k becomes k
  abbrev pub raised_bound : ℕ → Option ℕ → ℕ
  raised_bound k None = k
  raised_bound k (Some b) = cond (before b k) k b

  abbrev pub raised_row : ℕ → Option Row → Option Row
  raised_row k (Some r) = Some (record { key = r.key; bound = Some (raised_bound k r.bound) })
  raised_row k None = None

  abbrev pub raised : Table → ℕ → Table
  raised T k t = raised_row k (T t)

  -- whether a key is before its bound
  abbrev pub before_bound : ℕ → Option ℕ → Bool
  before_bound k (Some b) = before k b
  before_bound k None = false

  abbrev pub offends : Option Row → Bool
  offends (Some r) = before_bound r.key r.bound
  offends None = false

  -- the first ticket below m whose key is before its bound
  abbrev pub first_offender : Table → ℕ → Option ℕ
  first_offender T m = first_below (λ t. offends (T t)) m

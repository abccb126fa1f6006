-- The rows that the arrays of a table hold.
use Rattle.std.specs.Prelude.{ℕ, Bool, false, cond, Some, None, Option, nat_lt, slice_index, slice_index_or}
use Rattle.queue_laws.specs.Tables.{Row}
use Rattle.table.specs.declared.table.Table.{Table}

-- a row, where the ticket waits, with a bound where it has one
abbrev pub row : Bool → ℕ → Bool → ℕ → Option Row
row waits key bounded bound = cond waits (Some (record { key = key; bound = cond bounded (Some bound) None })) None

abbrev pub rows : Table → ℕ → Option Row
rows T t = cond (nat_lt t T.tickets) (row (slice_index_or T.waits t false) (slice_index T.keys t) (slice_index_or T.bounded t false) (slice_index T.bounds t)) None

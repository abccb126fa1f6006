-- The value that is written.
use Rattle.std.proofs.Common.{ℕ, ◌<◌, IfSome, Some, None, Option, unwrap_or}

-- it is below the limit, whether it is new or the one read
pub chosen_below : (new : Option ℕ) (old n : ℕ) → IfSome new (λ v. v < n) → old < n → unwrap_or new old < n
chosen_below None old n h lt = lt
chosen_below (Some v) old n h lt = h

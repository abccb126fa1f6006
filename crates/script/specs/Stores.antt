-- The cells of a store.
use Rattle.std.specs.Prelude.{ℕ, List, Ok, Result}
use Rattle.words.specs.declared.reason.Reason.{Reason}
use Rattle.words.specs.Taken.{rest_of, number_first, ended, and_then}
use Rattle.script.specs.declared.cells.Cells.{Cells}

-- SIZE WIDTH
abbrev pub cells_said : List (List ℕ) → Result Cells Reason
cells_said ws =
    and_then (number_first ws) (λ size.
    and_then (number_first (rest_of ws)) (λ width.
    and_then (ended (rest_of (rest_of ws))) (λ _. Ok (record { size = size; width = width }))))

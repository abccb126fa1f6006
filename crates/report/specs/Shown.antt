-- Values as text.
use Rattle.std.specs.Prelude.{ℕ, List, [], ◌∷◌, ◌++◌, Some, None, codes, decimal, Option}
use Rattle.parts.specs.Causes.{number_of, words_of}
use Rattle.parts.specs.declared.fault.Cause.{Cause}
use Rattle.parts.specs.declared.fault.Fault.{Fault}

abbrev pub shown_cause : Cause → List ℕ
shown_cause c = decimal (number_of c) ++ (codes " (" ++ (words_of c ++ codes ")"))

abbrev pub shown_decline : Fault → List ℕ
shown_decline f = shown_cause f.cause ++ (codes " at " ++ decimal f.place)

abbrev pub shown_fault : Fault → List ℕ
shown_fault f = shown_cause f.cause ++ (codes " height " ++ (decimal f.height ++ (codes " at " ++ decimal f.place)))

abbrev pub or_later : {Y : Type 0} → Option Y → Option Y → Option Y
or_later None later = later
or_later (Some y) later = Some y

-- N CALL: ANSWER
abbrev pub shown_line : ℕ → List ℕ → List ℕ → List ℕ
shown_line number call answer = decimal number ++ (codes " " ++ (call ++ (codes ": " ++ (answer ++ codes "\n"))))

-- the first that f gives of the elements
abbrev pub first_of : {X Y : Type 0} → (X → Option Y) → List X → Option Y
first_of f [] = None
first_of f (x ∷ xs) = or_later (f x) (first_of f xs)

abbrev pub shown_first : Option Fault → List ℕ
shown_first None = codes "none"
shown_first (Some fault) = shown_fault fault

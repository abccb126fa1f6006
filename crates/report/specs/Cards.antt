-- What is printed of a card section.
use Rattle.std.specs.Prelude.{ℕ, Bool, true, false, List, ◌++◌, length, Some, None, codes, decimal, count_by, Option}
use Rattle.parts.specs.declared.fault.Fault.{Fault}
use Rattle.memory_laws.specs.declared.call.Answer.{Answer}
use Rattle.memory_laws.specs.declared.call.Answer.TheVariants.{Written, Value, Passed, Declined, Failed}
use Rattle.report.specs.Shown.{shown_decline, shown_fault, first_of, shown_first}

abbrev pub shown_answer : Answer → List ℕ
shown_answer Written = codes "written"
shown_answer (Value v) = codes "value " ++ decimal v
shown_answer Passed = codes "passed"
shown_answer (Declined fault) = codes "declined " ++ shown_decline fault
shown_answer (Failed fault) = codes "fault " ++ shown_fault fault

abbrev pub fault_of : Answer → Option Fault
fault_of Written = None
fault_of (Value v) = None
fault_of Passed = None
fault_of (Declined fault) = None
fault_of (Failed fault) = Some fault

abbrev pub is_passed : Answer → Bool
is_passed Written = false
is_passed (Value v) = false
is_passed Passed = true
is_passed (Declined fault) = false
is_passed (Failed fault) = false

-- card SIZE WIDTH
abbrev pub shown_card : ℕ → ℕ → List ℕ
shown_card size width = codes "card " ++ (decimal size ++ (codes " " ++ decimal width))

-- calls N, sweeps passed P, first fault F
abbrev pub shown_done : List Answer → List ℕ
shown_done answers = codes "calls " ++ (decimal (length answers) ++ (codes ", sweeps passed " ++ (decimal (count_by is_passed answers) ++ (codes ", first fault " ++ shown_first (first_of fault_of answers)))))

abbrev pub shown_summary : ℕ → ℕ → List Answer → List ℕ
shown_summary size width answers = shown_card size width ++ (codes ": " ++ (shown_done answers ++ codes "\n"))

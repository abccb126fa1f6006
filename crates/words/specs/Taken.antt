-- Lines taken from the front of what is left of a text, and words from what is left of a line.
use Rattle.std.specs.Prelude.{ℕ, List, [], ◌∷◌, Ok, Err, Result}
use Rattle.words.specs.declared.reason.Reason.{Reason}
use Rattle.words.specs.declared.reason.Reason.TheVariants.{MissingWord, ExtraWord}
use Rattle.words.specs.declared.lines.Lines.{Lines}
use Rattle.words.specs.declared.words.Words.{Words}
use Rattle.words.specs.Numerals.{number_of, key_of}
use Rattle.words.specs.Words.{words, lines}

-- the lines that are left
abbrev pub lines_left : Lines → List (List ℕ)
lines_left ls = lines ls.rest.now

-- the words that are left
abbrev pub left : Words → List (List ℕ)
left w = words w.rest.now

abbrev pub rest_of : List (List ℕ) → List (List ℕ)
rest_of [] = []
rest_of (w ∷ ws) = ws

-- the first word as a number
abbrev pub number_first : List (List ℕ) → Result ℕ Reason
number_first [] = Err MissingWord
number_first (w ∷ ws) = number_of w

-- the first word as a key
abbrev pub key_first : List (List ℕ) → Result ℕ Reason
key_first [] = Err MissingWord
key_first (w ∷ ws) = key_of w

-- no word is left
abbrev pub ended : List (List ℕ) → Result (Unit {0}) Reason
ended [] = Ok tt
ended (w ∷ ws) = Err ExtraWord

-- one step, and then the next unless the first went wrong
abbrev pub and_then : {X Y : Type 0} → Result X Reason → (X → Result Y Reason) → Result Y Reason
and_then (Ok x) next = next x
and_then (Err why) next = Err why

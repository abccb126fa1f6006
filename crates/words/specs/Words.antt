-- A line and its words.
use Rattle.std.specs.Prelude.{ℕ, ◌-◌, Bool, false, cond, not, ◌||◌, List, [], ◌∷◌, length, take, drop, ◌==◌}
use Rattle.std.specs.List.{prefix_len, suffix_len}

-- space, tab and carriage return
abbrev pub white : ℕ → Bool
white b = (b == 32 || b == 9) || b == 13

abbrev pub dark : ℕ → Bool
dark b = not (white b)

abbrev pub begins_dark : List ℕ → Bool
begins_dark [] = false
begins_dark (b ∷ bs) = dark b

-- the byte put before the first of them
abbrev pub onto_first : ℕ → List (List ℕ) → List (List ℕ)
onto_first b [] = (b ∷ []) ∷ []
onto_first b (w ∷ ws) = (b ∷ w) ∷ ws

-- the words of a line: its longest runs of bytes that are not white
unfoldable pub words : List ℕ → List (List ℕ)
words [] = []
words (b ∷ bs) = cond (white b) (words bs) (cond (begins_dark bs) (onto_first b (words bs)) ((b ∷ []) ∷ words bs))

-- a line's break
abbrev pub ends_line : ℕ → Bool
ends_line b = b == 10

-- a byte within a line, and not the break at its end
abbrev pub inner : ℕ → Bool
inner b = not (ends_line b)

-- the lines of a text, without their breaks; the last need not have one
unfoldable pub lines : List ℕ → List (List ℕ)
lines [] = []
lines (b ∷ bs) = cond (inner b) (onto_first b (lines bs)) ([] ∷ lines bs)

-- the line without the white space at both ends
abbrev pub trimmed : List ℕ → List ℕ
trimmed bs = take (length (drop (prefix_len white bs) bs) - suffix_len white (drop (prefix_len white bs) bs)) (drop (prefix_len white bs) bs)

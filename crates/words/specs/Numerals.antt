-- The numbers and keys that a script's words write.
use Rattle.std.specs.Prelude.{ℕ, ◌^◌, Bool, true, cond, ◌&&◌, List, [], ◌∷◌, length, Some, None, Ok, Err, Option, Result, nat_le, nat_lt}
use Rattle.std.specs.Str.Parse.{digits_value}
use Rattle.std.specs.Char.{digit_value}
use Rattle.words.specs.declared.reason.Reason.{Reason}
use Rattle.words.specs.declared.reason.Reason.TheVariants.{NotANumber, NotAKey}

-- each byte is a digit of the radix
abbrev pub all_digits : ℕ → List ℕ → Bool
all_digits radix [] = true
all_digits radix (c ∷ cs) = nat_lt (digit_value c) radix && all_digits radix cs

-- one digit or more, and nothing else
abbrev pub numeral : ℕ → List ℕ → Bool
numeral radix w = nat_lt 0 (length w) && all_digits radix w

-- the number of 64 bits that the word writes in the radix, if it writes one
unfoldable pub numbered : ℕ → List ℕ → Option ℕ
numbered radix w = cond (numeral radix w && nat_lt (digits_value radix w) (2 ^ 64)) (Some (digits_value radix w)) None

abbrev pub or_else : Option ℕ → Reason → Result ℕ Reason
or_else (Some n) why = Ok n
or_else None why = Err why

-- a decimal number
abbrev pub number_of : List ℕ → Result ℕ Reason
number_of w = or_else (numbered 10 w) NotANumber

-- a key: 1 to 16 hexadecimal digits
abbrev pub key_of : List ℕ → Result ℕ Reason
key_of w = cond (nat_le (length w) 16) (or_else (numbered 16 w) NotAKey) (Err NotAKey)

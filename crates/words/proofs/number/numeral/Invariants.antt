use Rattle.std.proofs.Common.{◌≡◌, ◌^◌, ◌<◌, true, take}
use Rattle.std.specs.Str.Parse.{digits_value}
use Rattle.words.specs.Numerals.{all_digits}
use Rattle.words.proofs.number.numeral.Given as goal

-- the number so far is that of the bytes passed, which are digits
abbrev pub invariant-loop-byte : goal.invariant-loop-byte
invariant-loop-byte l = (l.n ≡ digits_value l.radix (take l.byte-index l.word)) × (all_digits l.radix (take l.byte-index l.word) ≡ true) × (l.n < 2 ^ 64)

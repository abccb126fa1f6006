-- Reading a numeral byte by byte.
use Rattle.std.proofs.Common.{◌≡◌, ℕ, zero, suc, ◌+◌, ◌*◌, ◌^◌, ◌<◌, ◌≤◌, true, false, ◌&&◌, ltb, List, [], ◌∷◌, ◌++◌, length, get_or, take, Some, None, sym, refl, ap, ◌∙◌, arith}
use Rattle.std.proofs.Math.Bool.{and-false}
use Rattle.std.proofs.lemmas.Int.Digits.{digits_value_more}
use Rattle.std.proofs.lemmas.List.{take_more}
use Rattle.std.proofs.lemmas.Str.Parse.{digits_value-take-le}
use Rattle.std.proofs.lemmas.Bool.{lt-ltb, le-ltb}
use Rattle.std.proofs.lemmas.Bool.Decides.{nat_tests}
use Rattle.std.specs.Str.Parse.{digits_value}
use Rattle.std.specs.Char.{digit_value}
use Rattle.words.specs.Numerals.{all_digits, numeral, numbered}

all_push : (radix : ℕ) (ds : List ℕ) (c : ℕ) → all_digits radix ds ≡ true → digit_value c < radix → all_digits radix (ds ++ (c ∷ [])) ≡ true
all_push radix [] c h lt = rw (lt-ltb (digit_value c) radix lt) refl
all_push radix (d ∷ ds) c h lt =
    let a : ltb (digit_value d) radix ≡ true = grind (arith, nat_tests) in
    let b : all_digits radix ds ≡ true = grind (arith, nat_tests) in
    ap (λ t. t && all_digits radix (ds ++ (c ∷ []))) a ∙ all_push radix ds c b lt

pub all_more : (radix : ℕ) (w : List ℕ) (i : ℕ) → i < length w → all_digits radix (take i w) ≡ true → digit_value (get_or w i 0) < radix → all_digits radix (take (i + 1) w) ≡ true
all_more radix w i lt h d = ap (all_digits radix) (take_more w i 0 lt) ∙ all_push radix (take i w) (get_or w i 0) h d

not_all : (radix : ℕ) (w : List ℕ) (i : ℕ) → i < length w → radix ≤ digit_value (get_or w i 0) → all_digits radix w ≡ false
not_all radix [] i lt h = absurd (omega arith)
not_all radix (c ∷ cs) zero lt h = ap (λ t. t && all_digits radix cs) (le-ltb (digit_value c) radix h)
not_all radix (c ∷ cs) (suc i) lt h = ap (λ t. ltb (digit_value c) radix && t) (not_all radix cs i (omega arith) h) ∙ and-false (ltb (digit_value c) radix)

pub no_digit_none : (radix : ℕ) (w : List ℕ) → length w ≡ 0 → numbered radix w ≡ None
unfolding numbered
no_digit_none radix [] e = refl
no_digit_none radix (c ∷ cs) e = absurd (omega arith)

pub other_none : (radix : ℕ) (w : List ℕ) (i : ℕ) → i < length w → (digit_value (get_or w i 0) < radix → ⊥) → numbered radix w ≡ None
unfolding numbered
other_none radix w i lt h = rw (not_all radix w i lt (omega (arith, h)), and-false (ltb 0 (length w))) refl

-- the number so far times the radix, and the digit, do not fit
pub large_none : (radix : ℕ) (w : List ℕ) (i : ℕ) → 1 ≤ radix → i < length w → digit_value (get_or w i 0) < radix → 2 ^ 64 ≤ digits_value radix (take i w) * radix + digit_value (get_or w i 0) → numbered radix w ≡ None
unfolding numbered
large_none radix w i pos lt d h =
    let big : 2 ^ 64 ≤ digits_value radix w = omega (arith, digits_value_more radix w i lt, digits_value-take-le radix w (i + 1) pos) in
    rw (le-ltb (digits_value radix w) (2 ^ 64) big, and-false (numeral radix w)) refl

pub read_some : (radix : ℕ) (w : List ℕ) (n : ℕ) → 0 < length w → all_digits radix w ≡ true → n ≡ digits_value radix w → n < 2 ^ 64 → numbered radix w ≡ Some n
unfolding numbered
read_some radix w n some h e small =
    let v : digits_value radix w < 2 ^ 64 = omega arith in
    rw (lt-ltb 0 (length w) some, h, lt-ltb (digits_value radix w) (2 ^ 64) v) (ap Some (sym e))

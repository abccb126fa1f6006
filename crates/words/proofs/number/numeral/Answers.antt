use Rattle.std.proofs.Common.{◌≡◌, ◌*◌, ◌<◌, length, get_or, take, sym, ap, ◌∙◌, arith}
use Rattle.std.proofs.lemmas.Int.Digits.{digits_value_more}
use Rattle.std.proofs.lemmas.List.{take_all}
use Rattle.std.proofs.lemmas.Bool.Decides.{nat_tests}
use Rattle.std.specs.Str.Parse.{digits_value}
use Rattle.std.specs.Char.{digit_value}
use Rattle.words.specs.Numerals.{all_digits}
use Rattle.words.proofs.NumeralSteps.{all_more, no_digit_none, other_none, large_none, read_some}
use Rattle.words.proofs.number.numeral.Goals as goal

pub returns-then-is_empty : goal.returns-then-is_empty
returns-then-is_empty c =
    let e : length c.args.word.now ≡ 0 = grind (arith, nat_tests, c.if-is_empty.ensures) in
    sym (no_digit_none c.args.radix c.args.word.now e)

pub returns-in_err-digit : goal.returns-in_err-digit
returns-in_err-digit c =
    let v : digit_value c.from.result ≡ digit_value (get_or c.args.word.now c.loop-byte.byte-index 0) = ap digit_value c.from.ensures in
    c.from_residual.ensures ∙ sym (other_none c.args.radix c.args.word.now c.loop-byte.byte-index c.loop-byte-test.true (λ lt. c.in_err-digit.ensures.value (omega arith)))

pub returns-in_err-checked_mul : goal.returns-in_err-checked_mul
returns-in_err-checked_mul c =
    let d : digit_value (get_or c.args.word.now c.loop-byte.byte-index 0) < c.args.radix = omega (arith, ap digit_value c.from.ensures, c.in_ok-digit.ensures.value.0) in
    let e : c.loop-byte.n * c.from-in-loop-byte.result ≡ digits_value c.args.radix (take c.loop-byte.byte-index c.args.word.now) * c.args.radix = cc in
    c.from_residual-in_err-checked_mul.ensures ∙ sym (large_none c.args.radix c.args.word.now c.loop-byte.byte-index (omega arith) c.loop-byte-test.true d (omega (arith, c.in_err-checked_mul.ensures)))

pub returns-in_err-n : goal.returns-in_err-n
returns-in_err-n c =
    let v : digit_value c.from.result ≡ digit_value (get_or c.args.word.now c.loop-byte.byte-index 0) = ap digit_value c.from.ensures in
    let e : c.loop-byte.n * c.from-in-loop-byte.result ≡ digits_value c.args.radix (take c.loop-byte.byte-index c.args.word.now) * c.args.radix = cc in
    let h = c.in_ok-digit.ensures.value in
    c.from_residual-in_err-n.ensures ∙ sym (large_none c.args.radix c.args.word.now c.loop-byte.byte-index (omega arith) c.loop-byte-test.true (omega arith) (omega (arith, c.in_err-n.ensures, c.in_ok-checked_mul.ensures)))

pub loop-byte-preserved : goal.loop-byte-preserved
loop-byte-preserved c =
    let v : digit_value c.from.result ≡ digit_value (get_or c.args.word.now c.loop-byte.byte-index 0) = ap digit_value c.from.ensures in
    let e : c.loop-byte.n * c.from-in-loop-byte.result ≡ digits_value c.args.radix (take c.loop-byte.byte-index c.args.word.now) * c.args.radix = cc in
    let h = c.in_ok-digit.ensures.value in
    (omega (arith, c.in_ok-n.ensures, c.in_ok-checked_mul.ensures, digits_value_more c.args.radix c.args.word.now c.loop-byte.byte-index c.loop-byte-test.true), all_more c.args.radix c.args.word.now c.loop-byte.byte-index c.loop-byte-test.true c.loop-byte.invariant.1 (omega arith), omega (arith, c.in_ok-n.ensures))

pub returns : goal.returns
returns c =
    let w : take c.loop-byte.byte-index c.args.word.now ≡ c.args.word.now = take_all c.loop-byte.byte-index c.args.word.now c.loop-byte-test.false in
    let some : 0 < length c.args.word.now = grind (arith, nat_tests, c.if-is_empty.ensures) in
    let n : c.loop-byte.n ≡ digits_value c.args.radix c.args.word.now = c.loop-byte.invariant.0 ∙ ap (digits_value c.args.radix) w in
    sym (read_some c.args.radix c.args.word.now c.loop-byte.n some (sym (ap (all_digits c.args.radix) w) ∙ c.loop-byte.invariant.1) n c.loop-byte.invariant.2)

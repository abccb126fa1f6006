use Rattle.std.proofs.Common.{◌≡◌, ◌<◌, ap, length, arith, rules}
use Rattle.std.proofs.lemmas.Bool.Decides.{nat_tests}
use Rattle.words.proofs.WordSteps.{taken_none, taken_word}
use Rattle.words.proofs.words.WordsIterator.next.Goals as goal

pub returns-then-is_empty-clause-steps : goal.returns-then-is_empty-clause-steps
returns-then-is_empty-clause-steps c =
    let none : c.word_len.result ≡ 0 = grind (arith, nat_tests, c.if-is_empty.ensures, c.split_at-2.ensures.front_len) in
    taken_none c.args.self.now.rest.now c.split_at.result.1.now c.split_at-2.result.1.now c.gap_len.result c.word_len.result c.gap_len.ensures.value c.split_at.ensures.back c.word_len.ensures.value c.split_at-2.ensures.back none

pub returns-else-is_empty-clause-steps : goal.returns-else-is_empty-clause-steps
returns-else-is_empty-clause-steps c =
    let some : 0 < c.word_len.result = grind (arith, nat_tests, c.if-is_empty.ensures, c.split_at-2.ensures.front_len) in
    taken_word c.args.self.now.rest.now c.split_at.result.1.now c.split_at-2.result.0.now c.split_at-2.result.1.now c.gap_len.result c.word_len.result c.gap_len.ensures.value c.split_at.ensures.back c.word_len.ensures.value c.split_at-2.ensures.front c.split_at-2.ensures.back some

pub returns-else-is_empty-clause-goes : goal.returns-else-is_empty-clause-goes
returns-else-is_empty-clause-goes c =
    let e = returns-else-is_empty-clause-steps c in
    let l = ap length e in
    search rules

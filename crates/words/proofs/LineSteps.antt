-- Taking the first line of a text.
use Rattle.std.proofs.Common.{◌≡◌, ℕ, ◌+◌, ◌-◌, ◌<◌, ◌≤◌, Bool, true, false, cond, ltb, List, [], ◌∷◌, length, take, drop, Some, None, sym, refl, ap, ◌∙◌, add-one, one-add, arith, length-drop}
use Rattle.std.proofs.lemmas.Bool.{ltb-true, ltb-false}
use Rattle.std.proofs.lemmas.List.{take_all, drop_all}
use Rattle.std.proofs.lemmas.Option.{cond_some, none-some}
use Rattle.std.specs.List.{prefix_len, position}
use Rattle.words.specs.Words.{inner, onto_first, lines, ends_line}

step : (b : ℕ) (bs : List ℕ) (t : Bool) → (0 < length bs → lines bs ≡ take (prefix_len inner bs) bs ∷ lines (drop (prefix_len inner bs + 1) bs)) → cond t (onto_first b (lines bs)) ([] ∷ lines bs) ≡ take (cond t (1 + prefix_len inner bs) 0) (b ∷ bs) ∷ lines (drop (cond t (1 + prefix_len inner bs) 0 + 1) (b ∷ bs))
unfolding lines
step b [] true h = refl
step b (d ∷ ds) true h = rw (one-add, add-one) (ap (onto_first b) (h (omega arith)) ∙ ap (λ k. (b ∷ take (prefix_len inner (d ∷ ds)) (d ∷ ds)) ∷ lines (drop k (d ∷ ds))) (add-one (prefix_len inner (d ∷ ds))))
step b bs false h = refl

first_line : (text : List ℕ) → 0 < length text → lines text ≡ take (prefix_len inner text) text ∷ lines (drop (prefix_len inner text + 1) text)
unfolding lines
first_line [] some = absurd (omega arith)
first_line (b ∷ bs) some = step b bs (inner b) (first_line bs)

-- the first line, where its break stands at n
pub ended_line : (text rest : List ℕ) (n : ℕ) → Some n ≡ position ends_line text → rest ≡ take (length text - (n + 1)) (drop (n + 1) text) → lines text ≡ take n text ∷ lines rest
ended_line text rest n e is =
    let h = cond_some _ _ _ (sym e) in
    let some : prefix_len inner text < length text = ltb-true _ _ h.0 in
    let whole : rest ≡ drop (n + 1) text = is ∙ take_all (length text - (n + 1)) (drop (n + 1) text) (omega (arith, length-drop (n + 1) text)) in
    first_line text (omega arith) ∙ rw (h.1, whole) refl

unended : (k n : ℕ) (t : Bool) → ltb k n ≡ t → None ≡ cond t (Some k) None → n ≤ k
unended k n true p e = absurd (none-some k e)
unended k n false p e = ltb-false k n p

-- a text that is one line, without a break
pub whole_line : (text : List ℕ) → None ≡ position ends_line text → 0 < length text → lines text ≡ text ∷ lines []
whole_line text e some =
    let h : length text ≤ prefix_len inner text = unended (prefix_len inner text) (length text) (ltb (prefix_len inner text) (length text)) refl e in
    first_line text some ∙ rw (take_all (prefix_len inner text) text h, drop_all (prefix_len inner text + 1) text (omega arith)) refl

pub no_lines : (text : List ℕ) → length text ≡ 0 → lines text ≡ []
unfolding lines
no_lines [] e = refl
no_lines (b ∷ bs) e = absurd (omega arith)

few_by : (b : ℕ) (ls : List (List ℕ)) (t : Bool) (n : ℕ) → length ls ≤ n → length (cond t (onto_first b ls) ([] ∷ ls)) ≤ n + 1
few_by b ls false n h = omega arith
few_by b [] true n h = omega arith
few_by b (l ∷ ls) true n h = omega arith

-- no more lines than bytes
pub few_lines : (text : List ℕ) → length (lines text) ≤ length text
unfolding lines
few_lines [] = omega arith
few_lines (b ∷ bs) = omega (arith, few_by b (lines bs) (inner b) (length bs) (few_lines bs))

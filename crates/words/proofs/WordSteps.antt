-- Taking the first word of a line.
use Rattle.std.proofs.Common.{◌≡◌, ℕ, ◌+◌, ◌<◌, Bool, true, false, cond, not, List, [], ◌∷◌, take, drop, sym, refl, ap, ◌∙◌, one-add, arith}
use Rattle.std.specs.List.{prefix_len}
use Rattle.words.specs.Words.{white, dark, begins_dark, onto_first, words}

begins_some : (bs : List ℕ) → begins_dark bs ≡ true → 0 < prefix_len dark bs
begins_some [] e = absurd (let z : ◌≡◌ {A = ℕ} 0 1 = cc in omega arith)
begins_some (b ∷ bs) e = rw e (omega arith)

begins_none : (bs : List ℕ) → begins_dark bs ≡ false → prefix_len dark bs ≡ 0
begins_none [] e = refl
begins_none (b ∷ bs) e = rw e refl

gap_by : (b : ℕ) (bs : List ℕ) (t : Bool) → white b ≡ t → words (drop (prefix_len white bs) bs) ≡ words bs → words (drop (cond t (1 + prefix_len white bs) 0) (b ∷ bs)) ≡ words (b ∷ bs)
unfolding words
gap_by b bs true e h = rw (one-add, e) h
gap_by b bs false e h = refl

pub gap_skipped : (line : List ℕ) → words (drop (prefix_len white line) line) ≡ words line
gap_skipped [] = refl
gap_skipped (b ∷ bs) = gap_by b bs (white b) refl (gap_skipped bs)

none_by : (b : ℕ) (bs : List ℕ) (t : Bool) → white b ≡ t → (prefix_len dark (drop (prefix_len white bs) bs) ≡ 0 → words bs ≡ []) → prefix_len dark (drop (cond t (1 + prefix_len white bs) 0) (b ∷ bs)) ≡ 0 → words (b ∷ bs) ≡ []
unfolding words
none_by b bs true e h z = rw e (h (rw one-add at z))
none_by b bs false e h z = absurd (omega (arith, rw e at z))

pub no_word : (line : List ℕ) → prefix_len dark (drop (prefix_len white line) line) ≡ 0 → words line ≡ []
unfolding words
no_word [] z = refl
no_word (b ∷ bs) z = none_by b bs (white b) refl (no_word bs) z

word_by : (b : ℕ) (bs : List ℕ) (t u : Bool) → begins_dark bs ≡ u → (0 < prefix_len dark bs → words bs ≡ take (prefix_len dark bs) bs ∷ words (drop (prefix_len dark bs) bs)) → 0 < cond (not t) (1 + prefix_len dark bs) 0 → cond t (words bs) (cond u (onto_first b (words bs)) ((b ∷ []) ∷ words bs)) ≡ take (cond (not t) (1 + prefix_len dark bs) 0) (b ∷ bs) ∷ words (drop (cond (not t) (1 + prefix_len dark bs) 0) (b ∷ bs))
word_by b bs true u e h some = absurd (omega arith)
word_by b bs false true e h some = rw one-add (ap (onto_first b) (h (begins_some bs e)))
word_by b bs false false e h some = rw (begins_none bs e) refl

-- a line that begins with a word
pub first_word : (line : List ℕ) → 0 < prefix_len dark line → words line ≡ take (prefix_len dark line) line ∷ words (drop (prefix_len dark line) line)
unfolding words
first_word [] some = absurd (omega arith)
first_word (b ∷ bs) some = word_by b bs (white b) (begins_dark bs) refl (first_word bs) some

-- after the gap of g bytes, a word of n
pub taken_none : (line mid rest : List ℕ) (g n : ℕ) → g ≡ prefix_len white line → mid ≡ drop g line → n ≡ prefix_len dark mid → rest ≡ drop n mid → n ≡ 0 → (words line ≡ []) × (words rest ≡ [])
taken_none line mid rest g n p q r s z =
    let e : mid ≡ drop (prefix_len white line) line = q ∙ ap (λ k. drop k line) p in
    let none : words line ≡ [] = no_word line (sym (ap (prefix_len dark) e) ∙ (sym r ∙ z)) in
    (none, ap words (s ∙ (ap (λ k. drop k mid) z ∙ e)) ∙ (gap_skipped line ∙ none))

pub taken_word : (line mid word rest : List ℕ) (g n : ℕ) → g ≡ prefix_len white line → mid ≡ drop g line → n ≡ prefix_len dark mid → word ≡ take n mid → rest ≡ drop n mid → 0 < n → words line ≡ word ∷ words rest
taken_word line mid word rest g n p q r s t some =
    let e : mid ≡ drop (prefix_len white line) line = q ∙ ap (λ k. drop k line) p in
    let skipped : words mid ≡ words line = ap words e ∙ gap_skipped line in
    let first : words mid ≡ take (prefix_len dark mid) mid ∷ words (drop (prefix_len dark mid) mid) = first_word mid (omega arith) in
    cc

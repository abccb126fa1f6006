-- Lists of calls performed in turn, call by call.
use Rattle.std.proofs.Common.{◌≡◌, ℕ, zero, suc, ◌-◌, ◌<◌, ◌≤◌, List, [], ◌∷◌, ◌++◌, length, get_or, take, drop, refl, ap, ◌∙◌, arith, take_all}
use Rattle.parts.specs.Runs.{answers, after}

module _ {C R S : Type 0} (step : C → S → R × S) where
  -- the answer to the call i is that of the state that the calls before it leave
  pub answer_at : (cs : List C) (s : S) (i : ℕ) (d : C) (r : R) → i < length cs → get_or (answers step cs s) i r ≡ (step (get_or cs i d) (after step (take i cs) s)).0
  unfolding answers after
  answer_at [] s i d r lt = absurd (omega arith)
  answer_at (c ∷ cs) s zero d r lt = refl
  answer_at (c ∷ cs) s (suc i) d r lt = answer_at cs (step c s).1 i d r (omega arith)

  pub after_one : (cs : List C) (s : S) (i : ℕ) (d : C) → i < length cs → after step (take (suc i) cs) s ≡ (step (get_or cs i d) (after step (take i cs) s)).1
  unfolding after
  after_one [] s i d lt = absurd (omega arith)
  after_one (c ∷ cs) s zero d lt = refl
  after_one (c ∷ cs) s (suc i) d lt = after_one cs (step c s).1 i d (omega arith)

  pub answers_take : (cs : List C) (s : S) (i : ℕ) → take i (answers step cs s) ≡ answers step (take i cs) s
  unfolding answers
  answers_take cs s zero = refl
  answers_take [] s (suc i) = refl
  answers_take (c ∷ cs) s (suc i) = ap (λ (rs : List R). (step c s).0 ∷ rs) (answers_take cs (step c s).1 i)

  pub after_rest : (cs : List C) (s : S) (i : ℕ) → after step cs s ≡ after step (drop i cs) (after step (take i cs) s)
  unfolding after
  after_rest cs s zero = refl
  after_rest [] s (suc i) = refl
  after_rest (c ∷ cs) s (suc i) = after_rest cs (step c s).1 i

  -- into an empty vector with room for all
  module _ (cs : List C) (s : S) (len cap : ℕ) (empty : len ≡ 0) (room : length cs ≤ cap) where
    all_taken : take (cap - len) cs ≡ cs
    all_taken = take_all (cap - len) cs (omega arith)

    pub all_answered : (already all : List R) → already ≡ [] → all ≡ already ++ answers step (take (cap - len) cs) s → all ≡ answers step cs s
    all_answered already all none e = e ∙ ap (λ (rs : List R). rs ++ answers step (take (cap - len) cs) s) none ∙ ap (λ (ds : List C). answers step ds s) all_taken

    pub all_left : (t : S) → t ≡ after step (take (cap - len) cs) s → t ≡ after step cs s
    all_left t e = e ∙ ap (λ (ds : List C). after step ds s) all_taken

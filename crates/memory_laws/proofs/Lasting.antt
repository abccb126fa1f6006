-- Histories that go on, and the values that they leave.
use Rattle.std.proofs.Common.{◌≡◌, ℕ, zero, suc, ◌+◌, ◌<◌, ◌≤◌, ◌⊎◌, List, [], ◌∷◌, ◌++◌, length, slice_index_or, take, sym, refl, ap, ◌∙◌, inl, inr, append_assoc, append-nil, arith, ne_eqb}
use Rattle.std.proofs.lemmas.Bool.{cases_eq}
use Rattle.memory_laws.specs.History.{update, Same, no_bags}
use Rattle.memory_laws.proofs.Touches.{Touch, Epoch, writes, stale, words_after, touches, Each, Agree, stale_append, words_after_append, update_same, update_other}
use Rattle.memory_laws.proofs.Log.{Hist, all, push, close, bags, zeros, touches_append, all_push, all_close}
use Rattle.memory_laws.proofs.Remembers.{Renews}

-- h₁ goes on from h: the open epoch has become longer, or it has ended
abbrev pub Later : Hist → Hist → Type 0
Later h h₁ = (more : List Touch) × (((h₁.past ≡ h.past) × (h₁.own ≡ h.own ++ more)) ⊎ ((e : Epoch) × (es : List Epoch) × (h₁.past ≡ h.past ++ e ∷ es) × (e.own ≡ h.own ++ more)))

pub later_refl : (h : Hist) → Later h h
later_refl h = ([], inl (refl, sym (append-nil h.own)))

pub later_trans : (h h₁ h₂ : Hist) → Later h h₁ → Later h₁ h₂ → Later h h₂
later_trans h h₁ h₂ (m, inl p) (m', inl q) =
    (m ++ m', inl (q.0 ∙ p.0, q.1 ∙ ap (λ (k : List Touch). k ++ m') p.1 ∙ append_assoc h.own m m'))
later_trans h h₁ h₂ (m, inl p) (m', inr q) =
    (m ++ m', inr (q.0, q.1, q.2 ∙ ap (λ (k : List Epoch). k ++ q.0 ∷ q.1) p.0, q.3 ∙ ap (λ (k : List Touch). k ++ m') p.1 ∙ append_assoc h.own m m'))
later_trans h h₁ h₂ (m, inr p) (m', inl q) = (m, inr (p.0, p.1, q.0 ∙ p.2, p.3))
later_trans h h₁ h₂ (m, inr p) (m', inr q) =
    (m, inr (p.0, p.1 ++ q.0 ∷ q.1, q.2 ∙ ap (λ (k : List Epoch). k ++ q.0 ∷ q.1) p.2 ∙ append_assoc h.past (p.0 ∷ p.1) (q.0 ∷ q.1), p.3))

pub later_push : (h : Hist) (t : Touch) → Later h (push h t)
later_push h t = (t ∷ [], inl (refl, refl))

pub later_close : (h : Hist) (sw : List Touch) → Later h (close h sw)
later_close h sw = ([], inr (record { own = h.own; sweep = sw }, [], refl, sym (append-nil h.own)))

take_one : (xs : List Epoch) (y : Epoch) (ys : List Epoch) → take (suc (length xs)) (xs ++ y ∷ ys) ≡ xs ++ y ∷ []
take_one [] y ys = refl
take_one (x ∷ xs) y ys = ap (λ (k : List Epoch). x ∷ k) (take_one xs y ys)

-- what was read up to h was read up to the end of the epoch that was then open
pub prefix_stale : (m : ℕ → ℕ) (h h₁ : Hist) → Later h h₁ → length h.past < length h₁.past → stale m (all h) ≤ stale m (touches (take (suc (length h.past)) h₁.past))
prefix_stale m h h₁ (more, inl p) lt = absurd (omega (arith, ap length p.0))
prefix_stale m h h₁ (more, inr p) lt =
    let past = h.past in
    let e : take (suc (length past)) h₁.past ≡ past ++ p.0 ∷ [] = ap (take (suc (length past))) p.2 ∙ take_one past p.0 p.1 in
    let m' = words_after m (touches past) in
    let f : stale m' p.0.own ≡ stale m' h.own + stale (words_after m' h.own) more = ap (stale m') p.3 ∙ stale_append m' h.own more in
    rw (e, touches_append past (p.0 ∷ []))
    (omega (arith, stale_append m (touches past) h.own, stale_append m (touches past) (p.0.own ++ (p.0.sweep ++ [])), stale_append m' p.0.own (p.0.sweep ++ []), f))

-- the first k epochs
pub each_take : (P : Epoch → Type 0) (es : List Epoch) (k : ℕ) → Each P es → Each P (take k es)
each_take P es zero h = tt
each_take P [] (suc k) h = tt
each_take P (e ∷ es) (suc k) h = (h.0, each_take P es k h.1)

pub agree_take : (P : List ℕ → List ℕ → Type 0) (w : List ℕ) (es : List Epoch) (k : ℕ) → Agree P w es → Agree P w (take k es)
agree_take P w es zero h = tt
agree_take P w [] (suc k) h = tt
agree_take P w (e ∷ es) (suc k) h = (h.0, agree_take P (writes e.sweep) es k h.1)

pub same_take : (w : List ℕ) (es : List Epoch) (k : ℕ) → ((j : ℕ) → j < k → Same (slice_index_or (bags w es) j no_bags).got (slice_index_or (bags w es) j no_bags).put) → Agree Same w (take k es)
same_take w es zero h = tt
same_take w [] (suc k) h = tt
same_take w (e ∷ es) (suc k) h = (h 0 (omega arith), same_take (writes e.sweep) es k (λ j lt. h (suc j) (omega arith)))

-- a read that is not stale gave the word last written
pub read_true : (m : ℕ → ℕ) (t : Touch) (ts : List Touch) → stale m (t ∷ ts) ≡ 0 → t.got ≡ m t.cell
read_true m t ts h = elim (cases_eq t.got (m t.cell)) [ inl p ↦ p | inr ne ↦ let q = ne_eqb t.got (m t.cell) ne in absurd (omega (arith, rw q at h)) ]

module _ (stamp value : ℕ → ℕ) where
  one_kept : (m : ℕ → ℕ) (t : Touch) (b : ℕ) → t.got ≡ m t.cell → value t.put ≡ value t.got → value (update m t.cell t.put b) ≡ value (m b)
  one_kept m t b e v =
      elim (cases_eq b t.cell) [
        | inl p ↦ ap value (ap (update m t.cell t.put) p ∙ update_same m t.cell t.put) ∙ v ∙ ap value (e ∙ ap m (sym p))
        | inr ne ↦ ap value (update_other m t.cell t.put b ne)
      ]

  -- a true sweep leaves each value
  sweep_keeps : (m : ℕ → ℕ) (sw : List Touch) → stale m sw ≡ 0 → Renews stamp value sw → (b : ℕ) → value (words_after m sw b) ≡ value (m b)
  sweep_keeps m [] z r b = refl
  sweep_keeps m (t ∷ ts) z r b =
      sweep_keeps (update m t.cell t.put) ts (omega arith) r.2 b ∙ one_kept m t b (read_true m t ts z) r.1

  -- where nothing was read falsely, the values of the n cells are xs
  abbrev pub Noted : ℕ → List ℕ → Hist → Type 0
  Noted n xs h = stale zeros (all h) ≡ 0 → (a : ℕ) → a < n → value (words_after zeros (all h) a) ≡ slice_index_or xs a 0

  pub noted_close : (n : ℕ) (xs : List ℕ) (h : Hist) (sw : List Touch) → Renews stamp value sw → Noted n xs h → Noted n xs (close h sw)
  noted_close n xs h sw r k z a lt =
      let s : stale zeros (all h ++ sw) ≡ 0 = ap (stale zeros) (sym (all_close h sw)) ∙ z in
      let q = stale_append zeros (all h) sw in
      ap (λ (ts : List Touch). value (words_after zeros ts a)) (all_close h sw)
      ∙ ap (λ (g : ℕ → ℕ). value (g a)) (words_after_append zeros (all h) sw)
      ∙ sweep_keeps (words_after zeros (all h)) sw (omega arith) r a
      ∙ k (omega arith) a lt

-- what one more touch reads and leaves
pub pushed : (h : Hist) (u : Touch) → stale zeros (all (push h u)) ≡ 0 →
    (stale zeros (all h) ≡ 0) × (u.got ≡ words_after zeros (all h) u.cell) × (words_after zeros (all (push h u)) ≡ update (words_after zeros (all h)) u.cell u.put)
pushed h u z =
    let s : stale zeros (all h ++ u ∷ []) ≡ 0 = ap (stale zeros) (sym (all_push h u)) ∙ z in
    let a = stale_append zeros (all h) (u ∷ []) in
    (omega arith, read_true (words_after zeros (all h)) u [] (omega arith), ap (words_after zeros) (all_push h u) ∙ words_after_append zeros (all h) (u ∷ []))

-- What a memory check does to a store: cells read and then written, in epochs.
use Rattle.std.proofs.Common.{◌≡◌, ℕ, zero, suc, ◌+◌, ◌^◌, ◌<◌, ◌≤◌, false, cond, nat_eq, ◌≢◌, List, [], ◌∷◌, ◌++◌, refl, ap, inl, inr, arith, eq-eqb, ne_eqb}
use Rattle.std.proofs.lemmas.Bool.{cases_eq}
use Rattle.memory_laws.specs.Checked.{record_of}
use Rattle.memory_laws.specs.History.{update, count, Same}
use Rattle.memory_laws.proofs.Bags.{count_append}

-- one cell read, and then written
pub record Touch : Type 0 where
  pub cell : ℕ
  pub got : ℕ
  pub put : ℕ

-- the touches of an epoch: its own, and those of the sweep that ends it
pub record Epoch : Type 0 where
  pub own : List Touch
  pub sweep : List Touch

abbrev pub reads : List Touch → List ℕ
reads [] = []
reads (t ∷ ts) = record_of t.cell t.got ∷ reads ts

abbrev pub writes : List Touch → List ℕ
writes [] = []
writes (t ∷ ts) = record_of t.cell t.put ∷ writes ts

-- how many reads did not give the word last written to their cell
abbrev pub stale : (ℕ → ℕ) → List Touch → ℕ
stale last [] = 0
stale last (t ∷ ts) = cond (nat_eq t.got (last t.cell)) 0 1 + stale (update last t.cell t.put) ts

abbrev pub words_after : (ℕ → ℕ) → List Touch → ℕ → ℕ
words_after last [] = last
words_after last (t ∷ ts) = words_after (update last t.cell t.put) ts

-- the records of the first n cells
abbrev pub present : (ℕ → ℕ) → ℕ → List ℕ
present last zero = []
present last (suc k) = record_of k (last k) ∷ present last k

-- cells below n, words below 2^48
abbrev pub Within : ℕ → List Touch → Type 0
Within n [] = Unit {0}
Within n (t ∷ ts) = (t.cell < n) × (t.got < 2 ^ 48) × (t.put < 2 ^ 48) × Within n ts

-- no stamp read is ahead of the clock, which each touch raises by one and writes
abbrev pub Timed : (ℕ → ℕ) → ℕ → List Touch → Type 0
Timed stamp c [] = Unit {0}
Timed stamp c (t ∷ ts) = (stamp t.got ≤ c) × (stamp t.put ≡ suc c) × Timed stamp (suc c) ts

-- the cells from k up to n, in order
abbrev pub Sweeps : ℕ → ℕ → List Touch → Type 0
Sweeps k n [] = k ≡ n
Sweeps k n (t ∷ ts) = (t.cell ≡ k) × Sweeps (suc k) n ts

pub record Sound (stamp : ℕ → ℕ) (n : ℕ) (e : Epoch) : Type 0 where
  pub own : Within n e.own
  pub sweep : Within n e.sweep
  pub timed : Timed stamp 0 e.own
  pub covers : Sweeps 0 n e.sweep

abbrev pub Each : (Epoch → Type 0) → List Epoch → Type 0
Each P [] = Unit {0}
Each P (e ∷ es) = P e × Each P es

abbrev pub bag_read : Epoch → List ℕ
bag_read e = reads e.own ++ reads e.sweep

-- began: the records of the writes that began the epoch
abbrev pub bag_written : List ℕ → Epoch → List ℕ
bag_written began e = began ++ writes e.own

abbrev pub touches : List Epoch → List Touch
touches [] = []
touches (e ∷ es) = e.own ++ (e.sweep ++ touches es)

-- in every epoch the bag read and the bag written are related by P
abbrev pub Agree : (List ℕ → List ℕ → Type 0) → List ℕ → List Epoch → Type 0
Agree P began [] = Unit {0}
Agree P began (e ∷ es) = P (bag_read e) (bag_written began e) × Agree P (writes e.sweep) es

-- a write above the first k cells
pub present_above : (last : ℕ → ℕ) (a w k : ℕ) → k ≤ a → present (update last a w) k ≡ present last k
present_above last a w zero h = refl
present_above last a w (suc k) h =
    let ih : present (update last a w) k ≡ present last k = present_above last a w k (omega arith) in
    let e : nat_eq k a ≡ false = ne_eqb k a (omega arith) in
    grind arith

pub update_same : (last : ℕ → ℕ) (a w : ℕ) → update last a w a ≡ w
update_same last a w = rw (eq-eqb a a refl)

pub update_other : (last : ℕ → ℕ) (a w b : ℕ) → b ≢ a → update last a w b ≡ last b
update_other last a w b ne = rw (ne_eqb b a ne)

pub present_update : (r : ℕ) (last : ℕ → ℕ) (a w n : ℕ) → a < n → count r (present (update last a w) n) + cond (nat_eq (record_of a (last a)) r) 1 0 ≡ count r (present last n) + cond (nat_eq (record_of a w) r) 1 0
present_update r last a w zero h = absurd (omega arith)
present_update r last a w (suc k) h =
    let ih : a < k → count r (present (update last a w) k) + cond (nat_eq (record_of a (last a)) r) 1 0 ≡ count r (present last k) + cond (nat_eq (record_of a w) r) 1 0 = present_update r last a w k in
    elim (cases_eq a k) [
      | inl p ↦ rw (← p, update_same last a w, present_above last a w a (omega arith)) (omega arith)
      | inr ne ↦ let lt : a < k = omega arith in let d : k ≢ a = omega arith in rw (update_other last a w k d) (omega (arith, ih lt))
    ]

-- what the reads of some touches should have given
abbrev pub due : (ℕ → ℕ) → List Touch → List ℕ
due last [] = []
due last (t ∷ ts) = record_of t.cell (last t.cell) ∷ due (update last t.cell t.put) ts

abbrev pub Cells : ℕ → List Touch → Type 0
Cells n [] = Unit {0}
Cells n (t ∷ ts) = (t.cell < n) × Cells n ts

pub balance : (r n : ℕ) (last : ℕ → ℕ) (ts : List Touch) → Cells n ts → count r (due last ts) + count r (present (words_after last ts) n) ≡ count r (present last n) + count r (writes ts)
balance r n last [] h = omega arith
balance r n last (t ∷ ts) h =
    omega (arith, balance r n (update last t.cell t.put) ts h.1, present_update r last t.cell t.put n h.0)

pub present_new : (r : ℕ) (last : ℕ → ℕ) (a k w : ℕ) → a ≡ k → count r (present (update last a w) (suc k)) ≡ cond (nat_eq (record_of a w) r) 1 0 + count r (present last k)
present_new r last a k w p = rw (← p, update_same last a w, present_above last a w a (omega arith))

pub swept : (r k n : ℕ) (last : ℕ → ℕ) (ts : List Touch) → Sweeps k n ts → count r (present (words_after last ts) n) ≡ count r (present last k) + count r (writes ts)
swept r k n last [] h = rw h (omega arith)
swept r k n last (t ∷ ts) h =
    let ih : count r (present (words_after (update last t.cell t.put) ts) n) ≡ count r (present (update last t.cell t.put) (suc k)) + count r (writes ts) = swept r (suc k) n (update last t.cell t.put) ts h.1 in
    omega (arith, ih, present_new r last t.cell k t.put h.0)

pub words_after_append : (last : ℕ → ℕ) (xs ys : List Touch) → words_after last (xs ++ ys) ≡ words_after (words_after last xs) ys
words_after_append last [] ys = refl
words_after_append last (t ∷ ts) ys = words_after_append (update last t.cell t.put) ts ys

pub writes_append : (xs ys : List Touch) → writes (xs ++ ys) ≡ writes xs ++ writes ys
writes_append [] ys = refl
writes_append (t ∷ ts) ys = ap (λ (k : List ℕ). record_of t.cell t.put ∷ k) (writes_append ts ys)

pub reads_append : (xs ys : List Touch) → reads (xs ++ ys) ≡ reads xs ++ reads ys
reads_append [] ys = refl
reads_append (t ∷ ts) ys = ap (λ (k : List ℕ). record_of t.cell t.got ∷ k) (reads_append ts ys)

pub stale_append : (last : ℕ → ℕ) (xs ys : List Touch) → stale last (xs ++ ys) ≡ stale last xs + stale (words_after last xs) ys
stale_append last [] ys = omega arith
stale_append last (t ∷ ts) ys = omega (arith, stale_append (update last t.cell t.put) ts ys)

pub cells_append : (n : ℕ) (xs ys : List Touch) → Cells n xs → Cells n ys → Cells n (xs ++ ys)
cells_append n [] ys h k = k
cells_append n (t ∷ ts) ys h k = (h.0, cells_append n ts ys h.1 k)

pub cells_within : (n : ℕ) (ts : List Touch) → Within n ts → Cells n ts
cells_within n [] h = tt
cells_within n (t ∷ ts) h = (h.0, cells_within n ts h.3)

-- the touches of one epoch
abbrev pub whole : Epoch → List Touch
whole e = e.own ++ e.sweep

-- what an epoch should have read is what was written in it, the sweep's writes apart
pub due_written : (stamp : ℕ → ℕ) (n : ℕ) (last : ℕ → ℕ) (e : Epoch) → Sound stamp n e → Same (due last (whole e)) (bag_written (present last n) e)
due_written stamp n last e s r =
    let b = balance r n last (whole e) (cells_append n e.own e.sweep (cells_within n e.own s.own) (cells_within n e.sweep s.sweep)) in
    let f : count r (present (words_after last (whole e)) n) ≡ 0 + count r (writes e.sweep) = rw (words_after_append last e.own e.sweep) (swept r 0 n (words_after last e.own) e.sweep s.covers) in
    let g : count r (writes (whole e)) ≡ count r (writes e.own) + count r (writes e.sweep) = rw (writes_append e.own e.sweep) (count_append r (writes e.own) (writes e.sweep)) in
    omega (arith, b, f, g, count_append r (present last n) (writes e.own))

-- the writes of a sweep are what the cells then hold
pub renewed : (stamp : ℕ → ℕ) (n : ℕ) (last : ℕ → ℕ) (e : Epoch) → Sound stamp n e → Same (writes e.sweep) (present (words_after last (whole e)) n)
renewed stamp n last e s r = rw (words_after_append last e.own e.sweep) (omega (arith, swept r 0 n (words_after last e.own) e.sweep s.covers))

-- no stale read: what was read is what was due
pub none_stale : (last : ℕ → ℕ) (ts : List Touch) → stale last ts ≡ 0 → reads ts ≡ due last ts
none_stale last [] h = refl
none_stale last (t ∷ ts) h =
    let e : t.got ≡ last t.cell = elim (cases_eq t.got (last t.cell)) [ inl p ↦ p | inr ne ↦ let q = ne_eqb t.got (last t.cell) ne in grind arith ] in
    let ih : reads ts ≡ due (update last t.cell t.put) ts = none_stale (update last t.cell t.put) ts (omega arith) in
    rw (e, ih)

pub low_update : (n : ℕ) (last : ℕ → ℕ) (a w : ℕ) → w < 2 ^ 48 → ((b : ℕ) → b < n → last b < 2 ^ 48) → (b : ℕ) → b < n → update last a w b < 2 ^ 48
low_update n last a w h low b lt = elim (cases_eq b a) [ inl p ↦ rw (p, update_same last a w) h | inr ne ↦ rw (update_other last a w b ne) (low b lt) ]

pub low_after : (n : ℕ) (last : ℕ → ℕ) (ts : List Touch) → Within n ts → ((b : ℕ) → b < n → last b < 2 ^ 48) → (b : ℕ) → b < n → words_after last ts b < 2 ^ 48
low_after n last [] h low = low
low_after n last (t ∷ ts) h low = low_after n (update last t.cell t.put) ts h.3 (low_update n last t.cell t.put h.2 low)

pub within_append : (n : ℕ) (xs ys : List Touch) → Within n xs → Within n ys → Within n (xs ++ ys)
within_append n [] ys h k = k
within_append n (t ∷ ts) ys h k = (h.0, h.1, h.2, within_append n ts ys h.3 k)

pub stale_epochs : (last : ℕ → ℕ) (e : Epoch) (es : List Epoch) → stale last (touches (e ∷ es)) ≡ stale last (whole e) + stale (words_after last (whole e)) (touches es)
stale_epochs last e es =
    rw (words_after_append last e.own e.sweep) (omega (arith, stale_append last e.own (e.sweep ++ touches es), stale_append (words_after last e.own) e.sweep (touches es), stale_append last e.own e.sweep))

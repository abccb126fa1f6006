-- The numbers of words and records.
use Rattle.std.proofs.Common.{◌≡◌, ℕ, ◌+◌, ◌^◌, ◌<◌, ◌≤◌, inl, inr, arith, pow_mono}
use Rattle.std.proofs.lemmas.Nat.{mul-add-lt, pow-add}
use Rattle.std.proofs.lemmas.Bool.{cases_order}
use Rattle.memory_laws.specs.Checked.{record_of, word_of}

-- a stamp and a value make a word of the width below, which has 48 bits at most
pub word_below : (w c v : ℕ) → c < 1048576 → v < 2 ^ w → word_of w c v < 2 ^ (w + 20)
word_below w c v hc hv = rw pow-add (mul-add-lt c (2 ^ w) v 1048576 hc hv)

pub word_low : (w x : ℕ) → w ≤ 28 → x < 2 ^ (w + 20) → x < 2 ^ 48
word_low w x hw h = let p : w + 20 ≤ 48 = omega arith in let q : 2 ^ (w + 20) ≤ 2 ^ 48 = pow_mono p in omega arith

pub word_fits : (w c v : ℕ) → c < 1048576 → v < 2 ^ w → w ≤ 28 → word_of w c v < 2 ^ 48
word_fits w c v hc hv hw = word_low w (word_of w c v) hw (word_below w c v hc hv)

-- a value is a word with stamp 0
pub value_below : (w v : ℕ) → v < 2 ^ w → v < 2 ^ (w + 20)
value_below w v h = let q : 2 ^ w ≤ 2 ^ (w + 20) = pow_mono (omega arith) in omega arith

-- a record tells its cell and its word
pub record_tells : (a b x y : ℕ) → x < 2 ^ 48 → y < 2 ^ 48 → record_of a x ≡ record_of b y → (a ≡ b) × (x ≡ y)
record_tells a b x y hx hy e = elim (cases_order a b) [ inl p ↦ (p, omega arith) | inr (inl lt) ↦ absurd (omega arith) | inr (inr gt) ↦ absurd (omega arith) ]

use Rattle.std.proofs.Common.{◌≡◌, ℕ, ◌+◌, ◌^◌, ◌<◌, true, false, nat_lt, nat_le, refl, arith}
use Rattle.std.proofs.lemmas.Nat.{div-mul-add, mod-mul-add}
use Rattle.std.proofs.lemmas.Bool.{lt-ltb, le-leb, lt-leb}
use Rattle.parts.specs.Meaning.{Meaning}
use Rattle.parts.specs.Tallying.{Tallying}
use Rattle.memory_laws.specs.Checked.{Mem, plain, stamp_of, value_of, word_of}
use Rattle.memory_laws.proofs.Numbers.{word_below}
use Rattle.examples.specs.Table.{Table}

module _ (m : Meaning) {T V : Type 0} (l : T → Tallying V) where
  narrow : (s : Mem (plain m) l) (c v : ℕ) → c < 1048576 → v < 2 ^ s.width → nat_lt (word_of s.width c v) (2 ^ (s.width + 20)) ≡ true
  narrow s c v hc hv = lt-ltb _ _ (word_below s.width c v hc hv)

  stamped : (w c v : ℕ) → v < 2 ^ w → stamp_of w (word_of w c v) ≡ c
  stamped w c v h = div-mul-add c (2 ^ w) v h

  valued : (w c v : ℕ) → v < 2 ^ w → value_of w (word_of w c v) ≡ v
  valued w c v h = mod-mul-add c (2 ^ w) v h

  pub shown : Table m l
  shown = record {
    record_number = refl;
    stamp_accepted = λ s a v e h.
        let early : nat_le (stamp_of s.width (word_of s.width 4 v)) s.clock ≡ true = le-leb _ _ (rw (stamped s.width 4 v h) (omega arith)) in
        rw (narrow s 4 v (omega arith) h, early, valued s.width 4 v h);
    stamp_ahead = λ s a v e h.
        let late : nat_le (stamp_of s.width (word_of s.width 5 v)) s.clock ≡ false = lt-leb _ _ (rw (stamped s.width 5 v h) (omega arith)) in
        rw (narrow s 5 v (omega arith) h, late);
    ahead_number = refl;
    mix_of_one = refl;
    mix_of_example = refl;
    mix_of_largest = refl;
    sum_of_three = refl;
    xor_of_three = refl;
  }

-- Examples, each of which follows from the definitions.
use Rattle.std.specs.Prelude.{◌≡◌, ℕ, ◌-◌, ◌^◌, ◌<◌, Ok, Err}
use Rattle.parts.specs.declared.fault.Cause.TheVariants.{StampAhead}
use Rattle.parts.specs.Causes.{number_of}
use Rattle.parts.specs.Meaning.{Meaning, fault}
use Rattle.parts.specs.Tallying.{Tallying}
use Rattle.memory_laws.specs.Mix.{mix, sum_tally, xor_tally}
use Rattle.memory_laws.specs.Checked.{Mem, plain, stamp_bits, record_of, word_of, height, examined}

pub record Table (m : Meaning) {T V : Type 0} (l : T → Tallying V) : Type 0 where
  -- cell 3, stamp 2 and value 9 at width 48 make the record 844,425,467,002,889
  pub record_number : record_of 3 (word_of (48 - stamp_bits) 2 9) ≡ 844425467002889
  -- with the clock at 4 a word with stamp 4 is accepted, and its value answered
  pub stamp_accepted : (s : Mem (plain m) l) (a v : ℕ) → s.clock ≡ 4 → v < 2 ^ s.width → (examined (plain m) l a (word_of s.width 4 v) s).0 ≡ Ok v
  -- with the clock at 4 a word with stamp 5 is the fault 22, in that cell
  pub stamp_ahead : (s : Mem (plain m) l) (a v : ℕ) → s.clock ≡ 4 → v < 2 ^ s.width → (examined (plain m) l a (word_of s.width 5 v) s).0 ≡ Err (fault StampAhead (height (plain m) l s) a)
  pub ahead_number : number_of StampAhead ≡ 22
  -- mixes and tallies that were worked out apart from this text
  pub mix_of_one : mix 0 1 ≡ 0xab169eb805b8c71c
  pub mix_of_example : mix 0x0123456789abcdef 844425467002889 ≡ 0x9a142515e4c314b2
  pub mix_of_largest : mix 0xffffffffffffffff 1152921504606846975 ≡ 0xf783354e70000000
  pub sum_of_three : (sum_tally 0x5deece66d).add ((sum_tally 0x5deece66d).add ((sum_tally 0x5deece66d).add (sum_tally 0x5deece66d).start 0) (2 ^ 48)) 844425467002889 ≡ 0x32c9907683114576
  pub xor_of_three : (xor_tally 0x5deece66d).add ((xor_tally 0x5deece66d).add ((xor_tally 0x5deece66d).add (xor_tally 0x5deece66d).start 0) (2 ^ 48)) 844425467002889 ≡ 0x53f79f6bbce92f6e

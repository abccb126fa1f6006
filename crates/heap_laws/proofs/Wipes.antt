-- How a clear ends over a loyal store, and that nothing waits by the words that it leaves.
use Rattle.std.proofs.Common.{◌≡◌, ℕ, zero, suc, ◌*◌, ◌<◌, ◌≤◌, Bool, List, length, set, Ok, refl, ◌∙◌, arith, pow_pos}
use Rattle.std.proofs.lemmas.List.{length-set}
use Rattle.std.proofs.lemmas.Bool.{eq-eqb}
use Rattle.std.proofs.lemmas.Bool.Decides.{nat_tests}
use Rattle.parts.specs.Outcomes.{up_to}
use Rattle.parts.specs.Meaning.{Meaning, Keeps}
use Rattle.parts.specs.Queues.{nothing_waits}
use Rattle.heap_laws.specs.Cells.{entry_cells, place_cell, tree_in}
use Rattle.heap_laws.specs.HeapMachine.{all_written, wiped_at, wiping}
use Rattle.heap_laws.proofs.Ends.{Ends, then_ends, write_ends}
use Rattle.heap_laws.proofs.Words.{get_d_set}
use Rattle.heap_laws.proofs.Holes.{Filled}

-- the words in which no ticket below k waits any more
abbrev pub wiped : ℕ → List ℕ → List ℕ
wiped zero xs = xs
wiped (suc k) xs = set (wiped k xs) (place_cell k) 0

wiped_length : (k : ℕ) (xs : List ℕ) → length (wiped k xs) ≡ length xs
wiped_length zero xs = refl
wiped_length (suc k) xs = length-set (wiped k xs) (place_cell k) 0 ∙ wiped_length k xs

wiped_place : (k : ℕ) (xs : List ℕ) → entry_cells * k ≤ length xs → (t : ℕ) → t < k → (tree_in (wiped k xs)).place t ≡ 0
wiped_place zero xs fits t l = absurd (omega arith)
wiped_place (suc k) xs fits t l =
    let long = wiped_length k xs in
    let p = get_d_set (wiped k xs) (place_cell k) (place_cell t) 0 (omega arith) in
    let q : t < k → (tree_in (wiped k xs)).place t ≡ 0 = wiped_place k xs (omega arith) t in grind (arith, nat_tests)

pub wiping_ends : (m : Meaning) (keeps : Keeps m) (before : ℕ → ℕ → Bool) (w h k : ℕ) (xs : List ℕ) → entry_cells * k ≤ length xs →
    Ends m w h (wiping m before k) xs (Ok tt) (wiped k xs)
unfolding up_to
wiping_ends m keeps before w h zero xs fits = λ s d. (refl, d)
wiping_ends m keeps before w h (suc k) xs fits =
    let long = wiped_length k xs in
    then_ends m w h (wiping m before k) (wiped_at m before k) (wiping_ends m keeps before w h k xs (omega arith))
    (write_ends m w h keeps (place_cell k) (omega arith) 0 (pow_pos w) (all_written m) (λ s d. (refl, d)))

pub wiped_filled : (before : ℕ → ℕ → Bool) (cap : ℕ) (xs : List ℕ) → entry_cells * cap ≤ length xs →
    Filled before cap (length xs) nothing_waits 0 (wiped cap xs)
wiped_filled before cap xs fits = record {
  long = wiped_length cap xs;
  sound = record {
    tickets = λ e l. absurd (omega arith);
    keys = λ e l. absurd (omega arith);
    back = λ e l. absurd (omega arith);
    there = λ t l z. let q = wiped_place cap xs fits t l in absurd (omega arith);
  };
  ordered = λ e z l. absurd (omega arith);
  holds = λ t l. rw (eq-eqb ((tree_in (wiped cap xs)).place t) 0 (wiped_place cap xs fits t l));
}

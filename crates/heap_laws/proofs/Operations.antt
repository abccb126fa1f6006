-- How the heap's calls of a loyal store end, one entry at a time.
use Rattle.std.proofs.Common.{ℕ, ◌+◌, ◌^◌, ◌<◌, ◌≤◌, List, length, Ok, refl, arith, pow_mono}
use Rattle.std.proofs.lemmas.List.{length-set}
use Rattle.std.proofs.lemmas.Bool.{lt-ltb}
use Rattle.parts.specs.Meaning.{Meaning, Keeps}
use Rattle.parts.specs.Queues.{key_limit}
use Rattle.heap_laws.specs.Cells.{least_bits, ticket_cell, key_cell, place_cell, tree_in}
use Rattle.heap_laws.specs.HeapMachine.{as_ticket, ticket_at, as_key, key_at, all_written, key_written, ticket_written, placing, placed_at, moving}
use Rattle.heap_laws.proofs.Ends.{Ends, then_ends, read_ends, write_ends}
use Rattle.heap_laws.proofs.Words.{Fits, seat, shifted}

module _ (m : Meaning) (keeps : Keeps m) (h : ℕ) {w cap : ℕ} (xs : List ℕ) (f : Fits w cap (length xs)) where
  module _ (e : ℕ) (a : e < cap) where
    pub key_ends : (tree_in xs).key e < key_limit → Ends m w h (key_at m e) xs (Ok ((tree_in xs).key e)) xs
    key_ends l = read_ends m w h keeps (key_cell e) (omega arith) (as_key m) (λ s d. rw (lt-ltb ((tree_in xs).key e) key_limit l) (refl, d))

    pub ticket_ends : (tree_in xs).ticket e < cap → Ends m w h (ticket_at m cap e) xs (Ok ((tree_in xs).ticket e)) xs
    ticket_ends l = read_ends m w h keeps (ticket_cell e) (omega arith) (as_ticket m cap) (λ s d. rw (lt-ltb ((tree_in xs).ticket e) cap l) (refl, d))

    pub placing_ends : (t k : ℕ) → t < cap → k < key_limit → Ends m w h (placing m e t k) xs (Ok tt) (seat xs e t k)
    placing_ends t k b c =
        let big : 2 ^ least_bits ≤ 2 ^ w = pow_mono f.wide in
        write_ends m w h keeps (ticket_cell e) (omega arith) t (omega arith) (ticket_written m e t k)
        (write_ends m w h keeps (key_cell e) (simp length-set (omega arith)) k (omega arith) (key_written m e t)
        (write_ends m w h keeps (place_cell t) (simp length-set (omega arith)) (e + 1) (omega arith) (all_written m) (λ s d. (refl, d))))

  module _ (from to : ℕ) (a : from < cap) (b : to < cap) where
    abbrev t : ℕ
    t = (tree_in xs).ticket from

    abbrev k : ℕ
    k = (tree_in xs).key from

    pub moving_ends : t < cap → k < key_limit → Ends m w h (moving m cap from to k) xs (Ok tt) (shifted xs from to)
    moving_ends c l = then_ends m w h (ticket_at m cap from) (placed_at m to k) (ticket_ends from a c) (placing_ends to b t k c l)

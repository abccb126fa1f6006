-- What cells say after an entry was placed, exchanged with another, added or taken away.
use Rattle.std.proofs.Common.{◌≡◌, ℕ, ◌+◌, ◌-◌, ◌<◌, cond, eqb, Some, None, arith}
use mathlib.Core.Path.{fun_ext}
use Rattle.std.proofs.lemmas.Bool.Decides.{nat_tests}
use Rattle.parts.specs.Queues.{key_limit, with_entry}
use Rattle.heap_laws.specs.Cells.{Tree, Sound, held}

-- cells that say the same of each entry and ticket
pub same_tree : (v u : Tree) → ((e : ℕ) → v.ticket e ≡ u.ticket e) → ((e : ℕ) → v.key e ≡ u.key e) → ((t : ℕ) → v.place t ≡ u.place t) → v ≡ u
same_tree v u p q r = λ x. record { ticket = fun_ext p x; key = fun_ext q x; place = fun_ext r x }

abbrev pub updated : (ℕ → ℕ) → ℕ → ℕ → ℕ → ℕ
updated f i x j = cond (eqb j i) x (f j)

-- with the ticket t and the key k at entry e
abbrev pub placed : Tree → ℕ → ℕ → ℕ → Tree
placed v e t k = record { ticket = updated v.ticket e t; key = updated v.key e k; place = updated v.place t (e + 1) }

-- with the ticket t not waiting
abbrev pub freed : Tree → ℕ → Tree
freed v t = record { ticket = v.ticket; key = v.key; place = updated v.place t 0 }

-- with the entries i and j exchanged
abbrev pub exchanged : Tree → ℕ → ℕ → Tree
exchanged v i j = placed (placed v i (v.ticket j) (v.key j)) j (v.ticket i) (v.key i)

module _ (m n : ℕ) (v : Tree) (s : Sound m n v) (i j : ℕ) (a : i < n) (b : j < n) (ne : i ≡ j → ⊥) where
  pub exchanged_sound : Sound m n (exchanged v i j)
  exchanged_sound = record {
    tickets = λ e l. let p = s.tickets e l in let q = s.tickets i a in let r = s.tickets j b in grind (arith, nat_tests);
    keys = λ e l. let p = s.keys e l in let q = s.keys i a in let r = s.keys j b in grind (arith, nat_tests);
    back = λ e l. let p = s.back e l in let q = s.back i a in let r = s.back j b in grind (arith, nat_tests);
    there = λ t l h. let f = s.there t l in let q = s.back i a in let r = s.back j b in (grind (arith, nat_tests), grind (arith, nat_tests));
  }

  pub exchanged_held : (t : ℕ) → t < m → held (exchanged v i j) t ≡ held v t
  exchanged_held t l = let f = s.there t l in let q = s.back i a in let r = s.back j b in grind (arith, nat_tests)

-- Where entry i moves to the free place e, and the entry of ticket t and key k is to go to the free place: it is exchanged with that at i.
module _ (m n : ℕ) (v : Tree) (e t k i : ℕ) (s : Sound m n (placed v e t k)) (a : i < n) (b : e < n) (ne : i ≡ e → ⊥) where
  pub moved_is : placed (placed v e (v.ticket i) (v.key i)) i t k ≡ exchanged (placed v e t k) i e
  moved_is =
      let p = s.back i a in let q = s.back e b in
      same_tree (placed (placed v e (v.ticket i) (v.key i)) i t k) (exchanged (placed v e t k) i e)
      (λ j. grind (arith, nat_tests)) (λ j. grind (arith, nat_tests)) (λ j. grind (arith, nat_tests))

-- one more entry
module _ (m n : ℕ) (v : Tree) (s : Sound m n v) (t k : ℕ) (a : t < m) (b : k < key_limit) (free : v.place t ≡ 0) where
  pub added_sound : Sound m (n + 1) (placed v n t k)
  added_sound = record {
    tickets = λ e l. let p = s.tickets e in grind (arith, nat_tests);
    keys = λ e l. let p = s.keys e in grind (arith, nat_tests);
    back = λ e l. let p = s.back e in grind (arith, nat_tests);
    there = λ u l h. let f = s.there u l in (grind (arith, nat_tests), grind (arith, nat_tests));
  }

  pub added_held : (u : ℕ) → u < m → held (placed v n t k) u ≡ with_entry (held v) t (Some k) u
  added_held u l = let f = s.there u l in grind (arith, nat_tests)

-- one entry fewer: where the ticket t waits
module _ (m n : ℕ) (v : Tree) (s : Sound m n v) (t : ℕ) (a : t < m) (z : 0 < v.place t) where
  -- at the last entry
  pub shorter_sound : v.place t - 1 ≡ n - 1 → Sound m (n - 1) (freed v t)
  shorter_sound is =
      let x = s.there t a z in
      record {
        tickets = λ i l. s.tickets i (omega arith);
        keys = λ i l. s.keys i (omega arith);
        back = λ i l. let p = s.back i (omega arith) in grind (arith, nat_tests);
        there = λ u l h. let f = s.there u l in (grind (arith, nat_tests), grind (arith, nat_tests));
      }

  -- at another, of which the last takes the place
  module _ (lt : v.place t - 1 < n - 1) where
    abbrev refilled : Tree
    refilled = placed (freed v t) (v.place t - 1) (v.ticket (n - 1)) (v.key (n - 1))

    pub filled_sound : Sound m (n - 1) refilled
    filled_sound =
        let x = s.there t a z in
        let y = s.back (n - 1) (omega arith) in
        record {
          tickets = λ i l. let p = s.tickets i (omega arith) in let q = s.tickets (n - 1) (omega arith) in grind (arith, nat_tests);
          keys = λ i l. let p = s.keys i (omega arith) in let q = s.keys (n - 1) (omega arith) in grind (arith, nat_tests);
          back = λ i l. let p = s.back i (omega arith) in grind (arith, nat_tests);
          there = λ u l h. let f = s.there u l in (grind (arith, nat_tests), grind (arith, nat_tests));
        }

    pub filled_held : (u : ℕ) → u < m → held refilled u ≡ with_entry (held v) t None u
    filled_held u l = let x = s.there t a z in let y = s.back (n - 1) (omega arith) in let f = s.there u l in grind (arith, nat_tests)

pub freed_held : (v : Tree) (t u : ℕ) → held (freed v t) u ≡ with_entry (held v) t None u
freed_held v t u = grind (arith, nat_tests)

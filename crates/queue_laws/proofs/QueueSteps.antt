-- The outcome of each call on an unbroken check, where all goes well below, as one equation.
use Rattle.std.proofs.Common.{◌≡◌, ℕ, Bool, false, eqb, Some, None, Ok, Err}
use Rattle.parts.specs.declared.fault.Cause.{Cause}
use Rattle.parts.specs.Queues.{QueueMeaning, found, put_declined, remove_declined}
use Rattle.queue_laws.specs.Tables.{Row, empty_table, with_row, fresh_row, waiting, first_waiting, raised, offends, first_offender}
use Rattle.queue_laws.specs.CheckedQueue.{Chk, height, at_below, at_table, puts, removes, leasts, audits, clears}

module _ (q : QueueMeaning) (before : ℕ → ℕ → Bool) (s : Chk q before) (ok : s.broken ≡ None) where
  pub put_refused : (t k : ℕ) (c : Cause) → put_declined s.capacity (waiting s.table) t k ≡ Some c → puts q before t k s ≡ (Err (found c (height q before s) t), s)
  put_refused t k c d = rw (ok, d)

  pub put_done : (t k : ℕ) → put_declined s.capacity (waiting s.table) t k ≡ None → (q.put s.below t k).0 ≡ Ok tt →
      puts q before t k s ≡ (Ok tt, at_table (at_below s (q.put s.below t k).1) (with_row s.table t (Some (fresh_row k))))
  put_done t k d e = rw (ok, d, e)

  pub remove_refused : (t : ℕ) (c : Cause) → remove_declined s.capacity (waiting s.table) t ≡ Some c → removes q before t s ≡ (Err (found c (height q before s) t), s)
  remove_refused t c d = rw (ok, d)

  pub remove_done : (t : ℕ) → remove_declined s.capacity (waiting s.table) t ≡ None → offends before (s.table t) ≡ false → (q.remove s.below t).0 ≡ Ok tt →
      removes q before t s ≡ (Ok tt, at_table (at_below s (q.remove s.below t).1) (with_row s.table t None))
  remove_done t d o e = rw (ok, d, o, e)

  pub least_none : first_waiting s.table s.capacity ≡ None → leasts q before s ≡ (Ok None, s)
  least_none w = rw (ok, w)

  pub least_done : (v t : ℕ) (r : Row) → first_waiting s.table s.capacity ≡ Some v → (q.least s.below).0 ≡ Ok (Some t) → s.table t ≡ Some r →
      leasts q before s ≡ (Ok (Some t), at_table (at_below s (q.least s.below).1) (raised before s.table r.key))
  least_done v t r w e h = rw (ok, w, e, h)

  pub audit_passes : first_offender before s.table s.capacity ≡ None → audits q before s ≡ (Ok tt, s)
  audit_passes n = rw (ok, n)

  pub clear_done : eqb s.capacity 0 ≡ false → (q.clear s.below).0 ≡ Ok tt → clears q before s ≡ (Ok tt, at_table (at_below s (q.clear s.below).1) empty_table)
  clear_done z e = rw (ok, z, e)

-- Tables, row by row.
use Rattle.std.proofs.Common.{◌≡◌, ℕ, ◌<◌, Bool, true, false, cond, eqb, ltb, ◌≢◌, is_some as option_is_some, Some, None, Option, refl, arith}
use mathlib.Core.Path.{fun_ext}
use Rattle.std.proofs.lemmas.Bool.{eq-eqb, ne_eqb, ltb-true}
use Rattle.parts.specs.declared.fault.Cause.TheVariants.{NoSuchTicket, KeyTooLarge, TicketInUse, NotWaiting}
use Rattle.parts.specs.Queues.{Entries, key_limit, with_entry, put_declined, remove_declined}
use Rattle.queue_laws.specs.Tables.{Row, Table, with_row, key_in, waiting, raised_row, raised}
use Rattle.queue_laws.proofs.Firsts.{apart}

module _ (T : Table) (t : ℕ) (r : Option Row) where
  pub row_same : with_row T t r t ≡ r
  row_same = rw (eq-eqb t t refl)

  pub row_other : (u : ℕ) → u ≢ t → with_row T t r u ≡ T u
  row_other u h = rw (ne_eqb u t h)

  pub waiting_with : waiting (with_row T t r) ≡ with_entry (waiting T) t (key_in r)
  waiting_with = fun_ext (λ u. by (eqb u t) (T u))
    where
      by : (b : Bool) (o : Option Row) → key_in (cond b r o) ≡ cond b (key_in r) (key_in o)
      by true o = refl
      by false o = refl

-- a ticket that waits has a row
pub row_of : (o : Option Row) (k : ℕ) → key_in o ≡ Some k → (r : Row) × (o ≡ Some r) × (r.key ≡ k)
row_of (Some r) k e = (r, refl, cc)
row_of None k e = apart None k e refl

pub no_row : (o : Option Row) → key_in o ≡ None → o ≡ None
no_row (Some r) e = apart (Some r.key) r.key refl e
no_row None e = refl

-- raised bounds leave what waits
pub waiting_raised : (before : ℕ → ℕ → Bool) (T : Table) (k : ℕ) → waiting (raised before T k) ≡ waiting T
waiting_raised before T k = fun_ext (λ u. by (T u))
  where
    by : (o : Option Row) → key_in (raised_row before k o) ≡ key_in o
    by (Some r) = refl
    by None = refl

-- what an accepted put and an accepted remove were told of
is_none : {X : Type 0} (o : Option X) → option_is_some o ≡ false → o ≡ None
is_none None e = refl
is_none (Some x) e = let z : ◌≡◌ {A = ℕ} 0 1 = cc in absurd (omega arith)

is_some : {X : Type 0} (o : Option X) → option_is_some o ≡ true → (x : X) × (o ≡ Some x)
is_some None e = let z : ◌≡◌ {A = ℕ} 0 1 = cc in absurd (omega arith)
is_some (Some x) e = (x, refl)

three : (a b c : Bool) → cond a (cond b (cond c (Some TicketInUse) None) (Some KeyTooLarge)) (Some NoSuchTicket) ≡ None → (a ≡ true) × (b ≡ true) × (c ≡ false)
three true true true e = apart (Some TicketInUse) TicketInUse refl e
three true true false e = (refl, refl, refl)
three true false c e = apart (Some KeyTooLarge) KeyTooLarge refl e
three false b c e = apart (Some NoSuchTicket) NoSuchTicket refl e

pub put_accepted : (m : ℕ) (e : Entries) (t k : ℕ) → put_declined m e t k ≡ None → (t < m) × (k < key_limit) × (e t ≡ None)
put_accepted m e t k h =
    let p = three (ltb t m) (ltb k key_limit) (option_is_some (e t)) h in
    (ltb-true t m p.0, ltb-true k key_limit p.1, is_none (e t) p.2)

two : (a b : Bool) → cond a (cond b None (Some NotWaiting)) (Some NoSuchTicket) ≡ None → (a ≡ true) × (b ≡ true)
two true true e = (refl, refl)
two true false e = apart (Some NotWaiting) NotWaiting refl e
two false b e = apart (Some NoSuchTicket) NoSuchTicket refl e

pub remove_accepted : (m : ℕ) (e : Entries) (t : ℕ) → remove_declined m e t ≡ None → (t < m) × ((k : ℕ) × (e t ≡ Some k))
remove_accepted m e t h =
    let p = two (ltb t m) (option_is_some (e t)) h in
    (ltb-true t m p.0, is_some (e t) p.1)

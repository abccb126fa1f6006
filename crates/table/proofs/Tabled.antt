-- The rows of a table's arrays, and the table on the way of a loop that raises its bounds.
use Rattle.std.proofs.Common.{◌≡◌, ℕ, ◌+◌, ◌<◌, ◌≤◌, Bool, true, false, cond, ltb, List, get_or, replicate, is_some, Some, None, Option, sym, ◌∙◌, arith}
use denote.Ref.{Bor}
use denote.Param.Members.{Mut}
use Rattle.std.proofs.iter.Yields.{nat_range_steps}
use Rattle.std.specs.declared.ops.Range.{Range}
use Rattle.std.specs.Iterator.{FindsItem}
use Rattle.std.specs.Fn.{CalledAt}
use Rattle.std.specs.Option.{MatchOption}
use Rattle.std.proofs.lemmas.Iterator.{first_from_Range}
use mathlib.Core.Path.{fun_ext}
use Rattle.std.proofs.lemmas.List.{get_or_past, get_or-replicate, length-replicate}
use Rattle.std.proofs.lemmas.Bool.Decides.{nat_tests}
use Rattle.std.proofs.lemmas.Bool.{cases_lt}
use Rattle.parts.specs.Queues.{most_tickets}
use Rattle.queue_laws.specs.Tables.{Row, empty_table, with_row, first_below, raised_row, raised}
use Rattle.queue_laws.proofs.Firsts.{first_here, first_absent}
use Rattle.table.specs.declared.table.Table.{Table}
use Rattle.table.specs.Rows.{row, rows}

none_waits : (n t : ℕ) → get_or (replicate n false) t false ≡ false
none_waits n t = grind (arith, cases_lt t n, get_or-replicate n t false false, get_or_past (replicate n false) t false, length-replicate {A = Bool})

pub rows_empty : (n : ℕ) (keys : List ℕ) (bounded : List Bool) (bounds : List ℕ) →
    (λ t. cond (ltb t n) (row (get_or (replicate most_tickets false) t false) (get_or keys t 0) (get_or bounded t false) (get_or bounds t 0)) None) ≡ empty_table
rows_empty n keys bounded bounds = fun_ext (λ t. rw (none_waits most_tickets t) (grind (arith, nat_tests)))

-- a ticket of the table has a row where its flag says that it waits
pub has_row : (T : Table) (t : ℕ) → t < T.tickets → is_some (rows T t) ≡ get_or T.waits t false
has_row T t lt = grind (arith, nat_tests)

-- Below n a search from 0 finds the first number that passes p, where what it tests, q, is p there.
pub first_found : {F : Type 0} {g : Mut F (Bor ℕ × Unit {0}) Bool} {f : F} (p q : ℕ → Bool) (n : ℕ) (u : Range ℕ) (r : Option ℕ) →
    FindsItem nat_range_steps g (record { start = 0; end = n }) f r u → ((t : ℕ) (b : Bool) (h : F) → CalledAt g f t b h → (h ≡ f) × (q t ≡ b)) →
    ((t : ℕ) → t < n → p t ≡ q t) → r ≡ first_below p n
first_found {f = f} p q n u r ran calls same =
    by r (first_from_Range _ u f r (λ t. q t ≡ true) (λ t. q t ≡ false) ran (λ t h k. (calls t true h k).1) (λ t h k. calls t false h k))
  where
    by : (r : Option ℕ) → MatchOption r ((t : ℕ) → 0 ≤ t → t < n → q t ≡ false) (λ i. (0 ≤ i) × (i < n) × (q i ≡ true) × ((t : ℕ) → 0 ≤ t → t < i → q t ≡ false)) → r ≡ first_below p n
    by None h = sym (first_absent p n (λ t lt. same t lt ∙ h t (omega arith) lt))
    by (Some i) h =
        let lt : i < n = h.1 in
        sym (first_here p i n lt (first_absent p i (λ t l. same t (omega arith) ∙ h.3 t (omega arith) l)) (same i lt ∙ h.2))

module _ (before : ℕ → ℕ → Bool) (key : ℕ) (R : ℕ → Option Row) where
  -- the bounds are raised of the tickets below n
  abbrev pub raised_below : ℕ → ℕ → Option Row
  raised_below n t = cond (ltb t n) (raised_row before key (R t)) (R t)

  -- the bound of one ticket more is raised
  pub raised_more : (n : ℕ) (S U : ℕ → Option Row) → S ≡ raised_below n → U ≡ with_row S n (raised_row before key (S n)) → U ≡ raised_below (n + 1)
  raised_more n S U e f = f ∙ rw e (fun_ext (λ t. grind (arith, nat_tests)))

-- a table has no rows past its tickets
pub raised_all : (before : ℕ → ℕ → Bool) (key : ℕ) (T : Table) (n : ℕ) (S : ℕ → Option Row) → n ≡ T.tickets → S ≡ raised_below before key (rows T) n → S ≡ raised before (rows T) key
raised_all before key T n S e f = f ∙ rw e (fun_ext (λ t. grind (arith, nat_tests)))

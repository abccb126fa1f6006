-- Words of a heap with one place free for an entry, and what they are after another entry has moved there.
use Rattle.std.proofs.Common.{◌≡◌, ℕ, ◌*◌, ◌<◌, ◌≤◌, Bool, true, false, List, length, sym, ap, ◌∙◌, subst, ap₂, arith}
use Rattle.std.proofs.lemmas.Bool.Decides.{nat_tests}
use Rattle.parts.specs.Orders.{OrderLaws}
use Rattle.parts.specs.Queues.{key_limit, Entries}
use Rattle.heap_laws.specs.Cells.{entry_cells, parent, Tree, tree_in, Sound, Ordered, held}
use Rattle.heap_laws.proofs.Trees.{updated, placed, exchanged, exchanged_sound, exchanged_held, moved_is}
use Rattle.heap_laws.proofs.Heaps.{Near, Under, Over, First, in_order, climbs, climbs_under, sinks, sinks_over, rests}
use Rattle.heap_laws.proofs.Words.{seat, shifted, seat_length, tree_seat}

-- words of a heap of n entries in order, in which the tickets below cap wait as told
pub record Filled (before : ℕ → ℕ → Bool) (cap size : ℕ) (told : Entries) (n : ℕ) (xs : List ℕ) : Type 0 where
  pub long : length xs ≡ size
  pub sound : Sound cap n (tree_in xs)
  pub ordered : Ordered before n (tree_in xs).key
  pub holds : (t : ℕ) → t < cap → held (tree_in xs) t ≡ told t

-- the keys in the words, with k at entry e
abbrev pub keyed : List ℕ → ℕ → ℕ → ℕ → ℕ
keyed xs e k = updated (tree_in xs).key e k

-- Words of n entries with the place e free. With the entry of ticket t and key k there, the tickets wait as told, and the order
-- holds but around e.
pub record Hole (before : ℕ → ℕ → Bool) (cap size : ℕ) (told : Entries) (n t k : ℕ) (xs : List ℕ) (e : ℕ) : Type 0 where
  pub long : length xs ≡ size
  pub inside : e < n
  pub sound : Sound cap n (placed (tree_in xs) e t k)
  pub holds : (u : ℕ) → u < cap → held (placed (tree_in xs) e t k) u ≡ told u
  pub near : Near before n e (keyed xs e k)

module _ {before : ℕ → ℕ → Bool} (o : OrderLaws before) {cap size n t k : ℕ} {told : Entries} (fits : entry_cells * cap ≤ size) (room : n ≤ cap)
    {xs : List ℕ} {e : ℕ} (b : Hole before cap size told n t k xs e) where
  abbrev filled : Tree
  filled = placed (tree_in xs) e t k

  long_enough : entry_cells * cap ≤ length xs
  long_enough = let p = b.long in omega arith

  own_key : keyed xs e k e ≡ k
  own_key = grind (arith, nat_tests)

  pub key_fits : k < key_limit
  key_fits = let p = b.sound.keys e b.inside in grind (arith, nat_tests)

  pub ticket_fits : t < cap
  ticket_fits = let p = b.sound.tickets e b.inside in grind (arith, nat_tests)

  -- the entry takes the place
  pub seated_filled : Over before e (keyed xs e k) → Under before n e (keyed xs e k) → Filled before cap size told n (seat xs e t k)
  seated_filled over under =
      let p = b.inside in
      let is = tree_seat xs cap long_enough t ticket_fits e k (omega arith) in
      record {
        long = seat_length xs e t k ∙ b.long;
        sound = rw is b.sound;
        ordered = subst (λ (v : Tree). Ordered before n v.key) (sym is) (in_order before n e (keyed xs e k) b.near under over);
        holds = λ u l. ap (λ (v : Tree). held v u) is ∙ b.holds u l;
      }

  -- another entry
  module _ (i : ℕ) (l : i < n) (ne : i ≡ e → ⊥) where
    pub other_key : keyed xs e k i ≡ (tree_in xs).key i
    other_key = grind (arith, nat_tests)

    pub other_key_fits : (tree_in xs).key i < key_limit
    other_key_fits = let p = b.sound.keys i l in grind (arith, nat_tests)

    pub other_ticket_fits : (tree_in xs).ticket i < cap
    other_ticket_fits = let p = b.sound.tickets i l in grind (arith, nat_tests)

    -- it moves to e, which is as if it were exchanged with the one that is to go there
    shifted_is : placed (tree_in (shifted xs i e)) i t k ≡ exchanged filled i e
    shifted_is =
        let p = b.inside in
        ap (λ (v : Tree). placed v i t k) (tree_seat xs cap long_enough ((tree_in xs).ticket i) other_ticket_fits e ((tree_in xs).key i) (omega arith))
        ∙ moved_is cap n (tree_in xs) e t k i b.sound l b.inside ne

    shifted_hole : Near before n i (exchanged filled i e).key → Hole before cap size told n t k (shifted xs i e) i
    shifted_hole near = record {
      long = seat_length xs e ((tree_in xs).ticket i) ((tree_in xs).key i) ∙ b.long;
      inside = l;
      sound = rw shifted_is (exchanged_sound cap n filled b.sound i e l b.inside ne);
      holds = λ u x. ap (λ (v : Tree). held v u) shifted_is ∙ exchanged_held cap n filled b.sound i e l b.inside ne u x ∙ b.holds u x;
      near = subst (λ (v : Tree). Near before n i v.key) (sym shifted_is) near;
    }

  -- the entry above
  module _ (nz : e ≡ 0 → ⊥) where
    pub above : parent e < n
    above = let p = b.inside in omega arith

    pub above_other : parent e ≡ e → ⊥
    above_other p = omega arith

    against_above : before (keyed xs e k e) (keyed xs e k (parent e)) ≡ before k ((tree_in xs).key (parent e))
    against_above = ap₂ before own_key (other_key (parent e) above above_other)

    pub stays_over : before k ((tree_in xs).key (parent e)) ≡ false → Over before e (keyed xs e k)
    stays_over f _ = against_above ∙ f

    module _ (y : before k ((tree_in xs).key (parent e)) ≡ true) where
      pub rises_hole : Hole before cap size told n t k (shifted xs (parent e) e) (parent e)
      rises_hole = shifted_hole (parent e) above above_other (climbs before o n e (keyed xs e k) b.near (omega arith) b.inside (against_above ∙ y))

      pub rises_under : Under before n (parent e) (keyed (shifted xs (parent e) e) (parent e) k)
      rises_under =
          subst (λ (v : Tree). Under before n (parent e) v.key) (sym (shifted_is (parent e) above above_other))
          (climbs_under before o n e (keyed xs e k) b.near (omega arith) b.inside (against_above ∙ y))

  -- the first of its children
  module _ (c : ℕ) (first : First before n e (keyed xs e k) c) where
    pub child_other : c ≡ e → ⊥
    child_other p = let q = first.behind in omega arith

    against_child : before (keyed xs e k c) (keyed xs e k e) ≡ before ((tree_in xs).key c) k
    against_child = ap₂ before (other_key c first.inside child_other) own_key

    pub stays_under : before ((tree_in xs).key c) k ≡ false → Under before n e (keyed xs e k)
    stays_under f = rests before o n e c (keyed xs e k) b.near first (against_child ∙ f)

    pub sinks_hole : Hole before cap size told n t k (shifted xs c e) c
    sinks_hole = shifted_hole c first.inside child_other (sinks before o n e c (keyed xs e k) b.near first)

    pub sunk_over : before ((tree_in xs).key c) k ≡ true → Over before c (keyed (shifted xs c e) c k)
    sunk_over y =
        subst (λ (v : Tree). Over before c v.key) (sym (shifted_is c first.inside child_other))
        (sinks_over before o n e c (keyed xs e k) b.near first (against_child ∙ y))

-- The order of a heap around one entry, and how an exchange with the entry above or below mends it.
use Rattle.std.proofs.Common.{◌≡◌, ℕ, zero, suc, ◌+◌, ◌-◌, ◌<◌, ◌≤◌, Bool, true, false, ⊎_elim, arith}
use Rattle.std.proofs.lemmas.Bool.{cases_eq}
use Rattle.std.proofs.lemmas.Bool.Decides.{nat_tests}
use Rattle.parts.specs.Orders.{OrderLaws}
use Rattle.heap_laws.specs.Cells.{parent, left_child, right_child, Ordered}
use Rattle.heap_laws.proofs.Trees.{updated}

abbrev pub swapped : (ℕ → ℕ) → ℕ → ℕ → ℕ → ℕ
swapped f i j = updated (updated f i (f j)) j (f i)

module _ (before : ℕ → ℕ → Bool) where
  -- the order among n keys, but at entry e and its children, and those are not before its parent
  pub record Near (n e : ℕ) (f : ℕ → ℕ) : Type 0 where
    pub others : (i : ℕ) → 0 < i → i < n → (i ≡ e → ⊥) → (parent i ≡ e → ⊥) → before (f i) (f (parent i)) ≡ false
    pub across : (i : ℕ) → 0 < i → i < n → parent i ≡ e → 0 < e → before (f i) (f (parent e)) ≡ false

  -- the order at the children of entry e
  abbrev pub Under : ℕ → ℕ → (ℕ → ℕ) → Type 0
  Under n e f = (i : ℕ) → 0 < i → i < n → parent i ≡ e → before (f i) (f e) ≡ false

  -- the order at entry e
  abbrev pub Over : ℕ → (ℕ → ℕ) → Type 0
  Over e f = 0 < e → before (f e) (f (parent e)) ≡ false

  -- d is a child of entry e, and no child of e is before it
  pub record First (n e : ℕ) (f : ℕ → ℕ) (d : ℕ) : Type 0 where
    pub inside : d < n
    pub behind : e < d
    pub child : parent d ≡ e
    pub first : (i : ℕ) → 0 < i → i < n → parent i ≡ e → before (f i) (f d) ≡ false

  pub in_order : (n e : ℕ) (f : ℕ → ℕ) → Near n e f → Under n e f → Over e f → Ordered before n f
  in_order n e f c u v i x y = let p = c.others i x y in let q = u i x y in grind (arith, nat_tests)

  module _ (o : OrderLaws before) where
    never_before : (a : ℕ) → before a a ≡ false
    never_before a = let h = o.asymmetric a a in grind (arith, nat_tests)

    -- the way up
    module _ (n e : ℕ) (f : ℕ → ℕ) (c : Near n e f) (z : 0 < e) (l : e < n) (t : before (f e) (f (parent e)) ≡ true) where
      pub climbs : Near n (parent e) (swapped f (parent e) e)
      climbs =
          let p = parent e in
          let a = o.asymmetric (f e) (f p) t in
          record {
            others = λ i x y ne nc. let q = c.others i x y in let r = c.across i x y in grind (arith, nat_tests);
            across = λ i x y h w.
                let q = c.others i x y in let r = c.others p w (omega arith) (omega arith) (omega arith) in
                let g = o.chains (f i) (f p) (f (parent p)) in grind (arith, nat_tests);
          }

      pub climbs_under : Under n (parent e) (swapped f (parent e) e)
      climbs_under i x y h =
          let p = parent e in
          let a = o.asymmetric (f e) (f p) t in
          let q = c.others i x y in let g = o.chains (f i) (f p) (f e) in grind (arith, nat_tests)

    -- the way down
    module _ (n e d : ℕ) (f : ℕ → ℕ) (c : Near n e f) (s : First n e f d) where
      pub sinks : Near n d (swapped f d e)
      sinks =
          let z = s.behind in let l = s.inside in let h = s.child in
          record {
            others = λ i x y ne nc. let p = c.others i x y in let q = c.across d (omega arith) l in let r = s.first i x y in grind (arith, nat_tests);
            across = λ i x y h w. let p = c.others i x y in grind (arith, nat_tests);
          }

      pub sinks_over : before (f d) (f e) ≡ true → Over d (swapped f d e)
      sinks_over t w = let z = s.behind in let h = s.child in let a = o.asymmetric (f d) (f e) t in grind (arith, nat_tests)

      pub rests : before (f d) (f e) ≡ false → Under n e f
      rests t i x y h = o.chains (f i) (f d) (f e) (s.first i x y h) t

    -- the first child, by whether the right one is before the left one
    module _ (n e : ℕ) (f : ℕ → ℕ) where
      pub left_only : left_child e < n → n ≤ right_child e → First n e f (left_child e)
      left_only l r = record {
        inside = l;
        behind = omega arith;
        child = omega arith;
        first = λ i x y h. let z : i ≡ left_child e = omega arith in rw z (never_before (f (left_child e)));
      }

      either_first : (d : ℕ) → e < d → d < n → parent d ≡ e → before (f (left_child e)) (f d) ≡ false → before (f (right_child e)) (f d) ≡ false → First n e f d
      either_first d z l h p q = record {
        inside = l;
        behind = z;
        child = h;
        first = λ i x y h.
            ⊎_elim (λ (z : i ≡ left_child e). rw z p)
            (λ (ne : i ≡ left_child e → ⊥). let z : i ≡ right_child e = omega arith in rw z q) (cases_eq i (left_child e));
      }

      module _ (r : right_child e < n) where
        pub left_first : before (f (right_child e)) (f (left_child e)) ≡ false → First n e f (left_child e)
        left_first t = either_first (left_child e) (omega arith) (omega arith) (omega arith) (never_before (f (left_child e))) t

        pub right_first : before (f (right_child e)) (f (left_child e)) ≡ true → First n e f (right_child e)
        right_first t =
            let a = o.asymmetric (f (right_child e)) (f (left_child e)) t in
            either_first (right_child e) (omega arith) r (omega arith) a (never_before (f (right_child e)))

    -- the place behind the last entry, where a new one is put
    pub added_near : (n k : ℕ) (f : ℕ → ℕ) → Ordered before n f → Near (n + 1) n (updated f n k)
    added_near n k f p = record {
      others = λ i x y ne nc. let q = p i x (omega arith) in grind (arith, nat_tests);
      across = λ i x y h w. absurd (omega arith);
    }

    -- the place that the last entry takes
    pub filled_near : (n e k : ℕ) (f : ℕ → ℕ) → Ordered before n f → e < n - 1 → Near (n - 1) e (updated f e k)
    filled_near n e k f p l = record {
      others = λ i x y ne nc. let q = p i x (omega arith) in grind (arith, nat_tests);
      across = λ i x y h w. let q = p i x (omega arith) in let r = p e w (omega arith) in let g = o.chains (f i) (f e) (f (parent e)) in grind (arith, nat_tests);
    }

    -- no key is before that of entry 0
    pub root_first : (n : ℕ) (f : ℕ → ℕ) → Ordered before n f → (steps e : ℕ) → e ≤ steps → e < n → before (f e) (f 0) ≡ false
    root_first n f p zero e le l = let z : e ≡ 0 = omega arith in rw z (never_before (f 0))
    root_first n f p (suc steps) e le l =
        ⊎_elim (λ (z : e ≡ 0). rw z (never_before (f 0)))
        (λ (ne : e ≡ 0 → ⊥).
        o.chains (f e) (f (parent e)) (f 0) (p e (omega arith) l) (root_first n f p steps (parent e) (omega arith) (omega arith))) (cases_eq e 0)

-- A store whose cells somebody else alters: after so many accesses, a cell holds another word.
use Rattle.std.specs.Prelude.{◌≡◌, ℕ, ◌+◌, ◌-◌, ◌^◌, min, cond, List, [], ◌∷◌, nat_le}
use Rattle.parts.specs.declared.fault.Fault.{Fault}
use Rattle.parts.specs.Outcomes.{Outcome}
use Rattle.parts.specs.Meaning.{Meaning}
use Rattle.store_laws.specs.declared.Alteration.{Alteration}

-- the store below, the alterations that are left to come, and how many accesses there were
pub record Altered (S : Type 0) : Type 0 where
  pub store : S
  pub coming : List Alteration
  pub count : ℕ

module _ (m : Meaning) where
  -- The alterations that are due after n accesses are made, up to the first that is not. Each is a write below,
  -- so one that the store below declines alters nothing.
  unfoldable pub due : List Alteration → ℕ → m.State → Altered m.State
  due [] n s = record { store = s; coming = []; count = n }
  due (x ∷ xs) n s = cond (nat_le x.after n) (due xs n (m.write s x.cell x.word).1) (record { store = s; coming = x ∷ xs; count = n })

  abbrev pub after_due : Altered m.State → Altered m.State
  after_due s = due s.coming s.count s.store

  -- One access more. The count stops at 2 ^ 64 - 1.
  abbrev pub accessed : {A : Type 0} → Altered m.State → Outcome Fault A m.State → Outcome Fault A (Altered m.State)
  accessed s o = (o.0, record { store = o.1; coming = s.coming; count = min (2 ^ 64 - 1) (s.count + 1) })

  abbrev pub altering_read : Altered m.State → ℕ → Outcome Fault ℕ (Altered m.State)
  altering_read s a = let t = after_due s in accessed t (m.read t.store a)

  abbrev pub altering_write : Altered m.State → ℕ → ℕ → Outcome Fault (Unit {0}) (Altered m.State)
  altering_write s a v = let t = after_due s in accessed t (m.write t.store a v)

  -- It hands everything through, heights too, and is loyal while the store below is and no alteration is left to come.
  abbrev pub altering : Meaning
  altering = record {
    State = Altered m.State;
    loyal = λ s. m.loyal s.store × (s.coming ≡ []);
    cells = λ s. m.cells s.store;
    size = λ s. m.size s.store;
    width = λ s. m.width s.store;
    height = λ s. m.height s.store;
    read = altering_read;
    write = altering_write;
  }

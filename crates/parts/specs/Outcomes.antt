-- The outcome of a call, and calls one after another.
use Rattle.std.specs.Prelude.{ℕ, zero, suc, Some, None, Ok, Err, Option, Result}

-- an answer or a fault, and the state that the call leaves
abbrev pub Outcome : Type 0 → Type 0 → Type 0 → Type 0
Outcome F A S = Result A F × S

-- one call after another, unless the first ends in a fault
abbrev pub and_then : {F A B S : Type 0} → Outcome F A S → (A → S → Outcome F B S) → Outcome F B S
and_then o k = elim o.0 [ Ok a ↦ k a o.1 | Err f ↦ (Err f, o.1) ]

-- the steps at 0, 1, .. below k in order, up to the first fault
unfoldable pub up_to : {F A S : Type 0} → (ℕ → A → S → Outcome F A S) → ℕ → A → S → Outcome F A S
up_to step zero a s = (Ok a, s)
up_to step (suc k) a s = and_then (up_to step k a s) (step k)

-- a fault breaks the part that the call was made on
abbrev pub settled : {F A S : Type 0} → (F → S → S) → Outcome F A S → Outcome F A S
settled break o = elim o.0 [ Ok a ↦ (Ok a, o.1) | Err f ↦ (Err f, break f o.1) ]

-- a broken part answers its first fault to every call
abbrev pub unless_broken : {F A S : Type 0} → Option F → S → Outcome F A S → Outcome F A S
unless_broken (Some f) s o = (Err f, s)
unless_broken None s o = o

-- the first fault, if there is any, as what a call is answered
abbrev pub unless_any : {F : Type 0} → Option F → Result (Unit {0}) F
unless_any (Some f) = Err f
unless_any None = Ok tt

-- the fault of a part after a call that settled so: that of the call, or else the one it had
abbrev pub first_kept : {F A : Type 0} → Option F → Result A F → Option F
first_kept first (Ok a) = first
first_kept first (Err f) = Some f

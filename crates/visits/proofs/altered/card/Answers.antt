use Rattle.std.proofs.Common.{◌≡◌, ℕ, min, Bool, true, false, cond, List, length, replicate, ap, ◌∙◌}
use lib.ListN.{length-replicate}
use Rattle.parts.specs.Meaning.{fit}
use Rattle.store.specs.declared.array.Array.{Array}
use Rattle.store_laws.specs.AlteringMachine.{Altered}
use Rattle.store_laws.specs.ArrayMachine.{Words}
use Rattle.store_laws.specs.declared.Alteration.{Alteration}
use Rattle.visits.specs.Stores.{words_of, altered_card}
use Rattle.script.specs.declared.cells.Cells.{Cells}
use Rattle.visits.proofs.altered.card.Goals as goal

-- an array writes zeros over zeros, or leaves them
zeros : (n : ℕ) (b : Bool) (before after : List ℕ) → before ≡ replicate n 0 → after ≡ cond b (replicate (length before) 0) before → after ≡ replicate n 0
zeros n true before after e h =
    let l : length before ≡ n = ap length e ∙ length-replicate n 0 in
    h ∙ ap (λ k. replicate k 0) l
zeros n false before after e h = h ∙ e

state_is : (cells : Cells) (alterations : List Alteration) (words : List ℕ) (wide : ℕ) (coming : List Alteration) (count : ℕ) → words ≡ words_of cells → wide ≡ min cells.width 4294967295 → coming ≡ alterations → count ≡ 0 → ◌≡◌ {A = Altered Words} (record { store = record { words = words; wide = wide }; coming = coming; count = count }) (altered_card cells alterations)
state_is cells alterations words wide coming count p q r s = λ k. record { store = record { words = p k; wide = q k }; coming = r k; count = s k }

pub returns : goal.returns
returns c =
    let cells = c.args.cells in
    let words = zeros (min cells.size 4097) (fit (length c.args.words.now) c.handed_width.result) c.args.words.now c.new-array.result.words.now c.requires c.new-array.ensures.holds in
    let same = c.new.ensures.0 in
    state_is cells c.args.coming.now c.new.result.store.words.now c.new.result.store.width c.new.result.coming.now c.new.result.count (ap (λ (a : Array). a.words.now) same ∙ words) (ap (λ (a : Array). a.width) same ∙ (c.new-array.ensures.wide ∙ c.handed_width.ensures)) c.new.ensures.1.0 c.new.ensures.1.1

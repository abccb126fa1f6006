use Rattle.std.proofs.Common.{◌≡◌, ℕ, List, Ok, Err, Result, sym, refl, subst₂, arith, Bor}
use Rattle.memory_laws.specs.declared.call.Call.{Call}
use Rattle.words.specs.declared.reason.BadLine.{BadLine}
use Rattle.words.specs.declared.reason.Reason.{Reason}
use Rattle.words.specs.Taken.{left}
use Rattle.plan.specs.Plans.{read_line, Takes}
use Rattle.plan.specs.declared.kind.Line as plans
use Rattle.plan.specs.declared.plan.Plan.{Plan}
use Rattle.script.specs.Cards.{card_reading}
use Rattle.script.specs.Sections.{bad_line, CardTook, Took}
use Rattle.script.specs.declared.card.Card as cards
use Rattle.script.specs.declared.card.Tally.{Tally}
use Rattle.script.specs.declared.section.Section.{Section}
use Rattle.script.specs.declared.section.Section.TheVariants.{Card}
use Rattle.script.proofs.section.Section.take.Goals as goal

spoilt : (line : ℕ) (said : Result (plans.Line Tally Call) Reason) (text : Bor (List ℕ)) (before after : Plan cards.Card Tally Call) (t : Result (Unit {0}) Reason) (why : Reason) → Takes card_reading said before text after t → t ≡ Err why → CardTook line said before text (Err (bad_line line why))
spoilt line (Ok l) text before after (Ok v) why h e = absurd (let z : ◌≡◌ {A = ℕ} 0 1 = cc in omega arith)
spoilt line (Ok l) text before after (Err other) why h e = absurd h
spoilt line (Err other) text before after t why h e = cc

section_spoilt : (line : ℕ) (name : List ℕ) (ws : List (List ℕ)) (text : Bor (List ℕ)) (section : Section) (plan after : Plan cards.Card Tally Call) (t : Result (Unit {0}) Reason) (why : Reason) (bad : BadLine) → section ≡ Card plan → Takes card_reading (read_line card_reading plan name ws) plan text after t → t ≡ Err why → bad ≡ bad_line line why → Took line name ws text (Ok section) (Err bad)
section_spoilt line name ws text section plan after t why bad s h e b =
    subst₂ (λ x y. Took line name ws text (Ok x) (Err y)) (sym s) (sym b) (spoilt line (read_line card_reading plan name ws) text plan after t why h e)

is_card : (s : Section) → (plan : Plan cards.Card Tally Call) × (s ≡ Card plan)
is_card (Card plan) = (plan, refl)

pub returns-in-Err : goal.returns-in-Err
returns-in-Err c =
    let line = c.args.line.now in let card = is_card c.args.self.now in
    section_spoilt line.number line.said.name.now (left line.said.words) line.text c.args.self.now card.0 c.take.new.self c.in_ok-take.field-0 c.in-Err.reason c.bad.result
    card.1 (rw card.1 at c.in_ok-take.ensures.takes) c.in-Err.is c.bad.ensures

-- Sections of all kinds, line by line.
use Rattle.std.specs.Prelude.{◌≡◌, ℕ, ◌+◌, Bool, false, List, [], ◌∷◌, ◌++◌, Ok, Err, codes, MatchBool, Result, ◌==◌}
use Rattle.std.specs.Borrow.{Bor}
use Rattle.std.specs.Str.{bytes_eq}
use Rattle.memory_laws.specs.declared.call.Call as memory
use Rattle.words.specs.declared.reason.BadLine.{BadLine}
use Rattle.words.specs.Words.{words, trimmed}
use Rattle.words.specs.declared.reason.Reason.{Reason}
use Rattle.words.specs.declared.reason.Reason.TheVariants.{NoSection}
use Rattle.plan.specs.Plans.{Fresh, read_line, Added}
use Rattle.plan.specs.declared.kind.Line as plans
use Rattle.plan.specs.declared.plan.Plan.{Plan}
use Rattle.script.specs.Cards.{card_said, card_reading}
use Rattle.script.specs.declared.card.Card as cards
use Rattle.script.specs.declared.card.Tally.{Tally}
use Rattle.script.specs.declared.section.Section.{Section}
use Rattle.script.specs.declared.section.Section.TheVariants.{Card}

-- the first word begins a section
abbrev pub begins : List ℕ → Bool
begins name = bytes_eq name (codes "card")

abbrev pub bad_line : ℕ → Reason → BadLine
bad_line line why = record { line = line; reason = why }

-- a section, or its first line that makes no sense
abbrev pub Outcome : Type 0
Outcome = Result Section BadLine

-- the section that the line begins, by what it says
abbrev pub Begun : ℕ → Result cards.Card Reason → Outcome → Type 0
Begun line (Ok kind) (Ok (Card plan)) = Fresh kind plan
Begun line (Ok kind) (Err bad) = ⊥
Begun line (Err why) (Ok section) = ⊥
Begun line (Err why) (Err bad) = bad ≡ bad_line line why

-- what a line makes of a card section, by what it says there
abbrev pub CardTook : ℕ → Result (plans.Line Tally memory.Call) Reason → Plan cards.Card Tally memory.Call → Bor (List ℕ) → Outcome → Type 0
CardTook line (Ok said) plan text (Ok (Card after)) = Added card_reading plan said text after
CardTook line (Ok said) plan text (Err bad) = ⊥
CardTook line (Err why) plan text (Ok section) = ⊥
CardTook line (Err why) plan text (Err bad) = bad ≡ bad_line line why

-- what a line after the first makes of a section
abbrev pub Took : ℕ → List ℕ → List (List ℕ) → Bor (List ℕ) → Outcome → Outcome → Type 0
Took line name ws text (Ok (Card plan)) after = CardTook line (read_line card_reading plan name ws) plan text after
Took line name ws text (Err bad) after = after ≡ Err bad

-- the section that took in a line, or the line that spoilt it
abbrev pub taken_in : Result (Unit {0}) BadLine → Section → Outcome
taken_in (Ok v) section = Ok section
taken_in (Err bad) section = Err bad

abbrev pub comment : List ℕ → Bool
comment [] = false
comment (b ∷ bs) = b == 35

-- the line begins a section behind the others
abbrev pub Opens : ℕ → List (List ℕ) → List Outcome → List Outcome → Type 0
Opens line ws before after = (s : Outcome) × Begun line (card_said ws) s × (after ≡ before ++ s ∷ [])

-- the line goes to the last section; where there is none, it makes no sense
abbrev pub Goes : ℕ → List ℕ → List (List ℕ) → Bor (List ℕ) → List Outcome → List Outcome → Type 0
Goes line name ws text [] after = after ≡ Err (bad_line line NoSection) ∷ []
Goes line name ws text (x ∷ xs) after = (others : List Outcome) × (old : Outcome) × (new : Outcome) × (x ∷ xs ≡ others ++ old ∷ []) × Took line name ws text old new × (after ≡ others ++ new ∷ [])

-- what a line makes of the sections so far, by its words
abbrev pub LineTook : ℕ → List (List ℕ) → Bor (List ℕ) → List Outcome → List Outcome → Type 0
LineTook line [] text before after = after ≡ before
LineTook line (name ∷ ws) text before after = MatchBool (comment name) (after ≡ before) (MatchBool (begins name) (Opens line ws before after) (Goes line name ws text before after))

-- what the lines make of them in turn, after n lines
abbrev pub ScriptTook : ℕ → List (List ℕ) → List Outcome → List Outcome → Type 0
ScriptTook n [] before after = after ≡ before
ScriptTook n (l ∷ ls) before after = (text : Bor (List ℕ)) × (between : List Outcome) × (text.now ≡ trimmed l) × LineTook (n + 1) (words text.now) text before between × ScriptTook (n + 1) ls between after

-- What the lines of a card section say.
use Rattle.std.specs.Prelude.{ℕ, cond, List, [], ◌∷◌, is_some, Some, None, Ok, Err, codes, Result}
use Rattle.std.specs.Str.{bytes_eq}
use Rattle.memory_laws.specs.declared.call.Call.{Call}
use Rattle.memory_laws.specs.declared.call.Call.TheVariants.{Write, Read, Sweep}
use Rattle.words.specs.declared.reason.Reason.{Reason}
use Rattle.words.specs.declared.reason.Reason.TheVariants.{UnknownWord, MissingWord}
use Rattle.words.specs.Taken.{rest_of, number_first, key_first, ended, and_then}
use Rattle.plan.specs.Kinds.{Reading, plain_said}
use Rattle.plan.specs.declared.kind.Line.{Line}
use Rattle.plan.specs.declared.kind.Line.TheVariants.{Sets, Does}
use Rattle.script.specs.Stores.{cells_said}
use Rattle.script.specs.declared.card.Card.{Card}
use Rattle.script.specs.declared.card.Rule.{Rule}
use Rattle.script.specs.declared.card.Rule.TheVariants.{Sum, Xor}
use Rattle.script.specs.declared.card.Tally.{Tally}

abbrev pub rule_of : List ℕ → Result Rule Reason
rule_of w = cond (bytes_eq w (codes "sum")) (Ok Sum) (cond (bytes_eq w (codes "xor")) (Ok Xor) (Err UnknownWord))

abbrev pub rule_first : List (List ℕ) → Result Rule Reason
rule_first [] = Err MissingWord
rule_first (w ∷ ws) = rule_of w

-- the tally where none is given
abbrev pub usual_tally : Tally
usual_tally = record { rule = Sum; key = 0 }

-- tally RULE KEY
abbrev pub tally_said : List (List ℕ) → Result (Line Tally Call) Reason
tally_said ws =
    and_then (rule_first ws) (λ rule.
    and_then (key_first (rest_of ws)) (λ key.
    and_then (ended (rest_of (rest_of ws))) (λ _. Ok (Sets (record { rule = rule; key = key })))))

-- write CELL VALUE
abbrev pub write_said : List (List ℕ) → Result (Line Tally Call) Reason
write_said ws =
    and_then (number_first ws) (λ cell.
    and_then (number_first (rest_of ws)) (λ value.
    and_then (ended (rest_of (rest_of ws))) (λ _. Ok (Does (Write cell value)))))

-- read CELL
abbrev pub read_said : List (List ℕ) → Result (Line Tally Call) Reason
read_said ws =
    and_then (number_first ws) (λ cell.
    and_then (ended (rest_of ws)) (λ _. Ok (Does (Read cell))))

-- card SIZE WIDTH
abbrev pub card_said : List (List ℕ) → Result Card Reason
card_said ws = and_then (cells_said ws) (λ cells. Ok (record { cells = cells; tally = None }))

-- a line by its first word and the words after it
abbrev pub card_line : List ℕ → List (List ℕ) → Result (Line Tally Call) Reason
card_line name ws =
    cond (bytes_eq name (codes "tally")) (tally_said ws)
    (cond (bytes_eq name (codes "write")) (write_said ws)
    (cond (bytes_eq name (codes "read")) (read_said ws)
    (cond (bytes_eq name (codes "sweep")) (plain_said Sweep ws) (Err UnknownWord))))

abbrev pub card_reading : Reading Card Tally Call
card_reading = record {
  begun = card_said;
  said = card_line;
  given = λ card tally. is_some card.tally;
  with_setting = λ card tally. record { cells = card.cells; tally = Some tally };
}

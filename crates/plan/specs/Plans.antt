-- A section of any kind, line by line.
use Rattle.std.specs.Prelude.{◌≡◌, ℕ, ◌-◌, cond, List, [], ◌∷◌, ◌++◌, length, Ok, Err, vec_items, vec_len, codes, Result, nat_le, slice_index_or}
use Rattle.std.specs.Borrow.{Bor}
use Rattle.std.specs.Str.{bytes_eq}
use Rattle.store_laws.specs.declared.Alteration.{Alteration}
use Rattle.words.specs.declared.reason.Reason.{Reason}
use Rattle.words.specs.declared.reason.Reason.TheVariants.{SettingTwice, NotRising}
use Rattle.words.specs.Lines.{setting_at}
use Rattle.words.specs.Taken.{rest_of, number_first, ended, and_then}
use Rattle.plan.specs.declared.kind.Line.{Line}
use Rattle.plan.specs.declared.kind.Line.TheVariants.{Sets, Alters, Does}
use Rattle.plan.specs.declared.plan.Plan.{Plan}
use Rattle.plan.specs.Kinds.{Reading}

-- alter AFTER CELL WORD
abbrev pub alteration_said : List (List ℕ) → Result Alteration Reason
alteration_said ws =
    and_then (number_first ws) (λ after.
    and_then (number_first (rest_of ws)) (λ cell.
    and_then (number_first (rest_of (rest_of ws))) (λ word.
    and_then (ended (rest_of (rest_of (rest_of ws)))) (λ _. Ok (record { after = after; cell = cell; word = word })))))

-- when the last alteration comes, and 0 where there is none
abbrev pub last_after : List Alteration → ℕ
last_after xs = (slice_index_or xs (length xs - 1) (record { after = 0; cell = 0; word = 0 })).after

module _ {K S C : Type 0} where
  abbrev pub calls_of : Plan K S C → List C
  calls_of plan = vec_items plan.calls.list

  abbrev pub texts_of : Plan K S C → List (Bor (List ℕ))
  texts_of plan = vec_items plan.calls.texts

  abbrev pub alterations_of : Plan K S C → List Alteration
  alterations_of plan = vec_items plan.alterations

  -- a section with nothing in it but what its first line gives
  pub record Fresh (kind : K) (plan : Plan K S C) : Type 0 where
    pub kind_is : plan.kind ≡ kind
    pub no_alteration : alterations_of plan ≡ []
    pub no_call : calls_of plan ≡ []
    pub no_text : texts_of plan ≡ []

  -- the section that a first line begins, by what it says
  abbrev pub Begins : Result K Reason → Result (Plan K S C) Reason → Type 0
  Begins (Ok kind) (Ok plan) = Fresh kind plan
  Begins (Ok kind) (Err why) = ⊥
  Begins (Err why) r = r ≡ Err why

module _ {K S C : Type 0} (reading : Reading K S C) where
  -- what a line says by its first word and those after it
  abbrev pub line_said : List ℕ → List (List ℕ) → Result (Line S C) Reason
  line_said name ws = cond (bytes_eq name (codes "alter")) (and_then (alteration_said ws) (λ alteration. Ok (Alters alteration))) (reading.said name ws)

  -- whether what a line says may stand here: settings before calls and each once, alterations in their order
  abbrev pub admitted : Plan K S C → Line S C → Result (Unit {0}) Reason
  admitted plan (Sets setting) = and_then (setting_at (vec_len plan.calls.list)) (λ _. cond (reading.given plan.kind setting) (Err SettingTwice) (Ok tt))
  admitted plan (Alters alteration) = and_then (setting_at (vec_len plan.calls.list)) (λ _. cond (nat_le (last_after (alterations_of plan)) alteration.after) (Ok tt) (Err NotRising))
  admitted plan (Does call) = Ok tt

  -- what a line says here
  abbrev pub read_line : Plan K S C → List ℕ → List (List ℕ) → Result (Line S C) Reason
  read_line plan name ws = and_then (line_said name ws) (λ line. and_then (admitted plan line) (λ _. Ok line))

  abbrev pub kind_after : K → Line S C → K
  kind_after old (Sets setting) = reading.with_setting old setting
  kind_after old (Alters alteration) = old
  kind_after old (Does call) = old

  abbrev pub alterations_after : List Alteration → Line S C → List Alteration
  alterations_after old (Sets setting) = old
  alterations_after old (Alters alteration) = old ++ alteration ∷ []
  alterations_after old (Does call) = old

  abbrev pub calls_after : List C → Line S C → List C
  calls_after old (Sets setting) = old
  calls_after old (Alters alteration) = old
  calls_after old (Does call) = old ++ call ∷ []

  abbrev pub texts_after : List (Bor (List ℕ)) → Line S C → Bor (List ℕ) → List (Bor (List ℕ))
  texts_after old (Sets setting) text = old
  texts_after old (Alters alteration) text = old
  texts_after old (Does call) text = old ++ text ∷ []

  -- the section after a line
  pub record Added (before : Plan K S C) (line : Line S C) (text : Bor (List ℕ)) (after : Plan K S C) : Type 0 where
    pub kind_is : after.kind ≡ kind_after before.kind line
    pub alterations_are : alterations_of after ≡ alterations_after (alterations_of before) line
    pub calls_are : calls_of after ≡ calls_after (calls_of before) line
    pub texts_are : texts_of after ≡ texts_after (texts_of before) line text

  -- what a line makes of a section, by what it says there: it is taken in, or makes no sense
  abbrev pub Takes : Result (Line S C) Reason → Plan K S C → Bor (List ℕ) → Plan K S C → Result (Unit {0}) Reason → Type 0
  Takes (Ok line) before text after (Ok _) = Added before line text after
  Takes (Ok line) before text after (Err why) = ⊥
  Takes (Err why) before text after r = r ≡ Err why

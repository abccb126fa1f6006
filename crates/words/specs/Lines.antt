-- Why a line makes no sense.
use Rattle.std.specs.Prelude.{ℕ, cond, List, ◌++◌, Ok, Err, codes, Result, ◌==◌}
use Rattle.std.specs.Fmt.{decimal}
use Rattle.words.specs.declared.reason.BadLine.{BadLine}
use Rattle.words.specs.declared.reason.Reason.{Reason}
use Rattle.words.specs.declared.reason.Reason.TheVariants.{UnknownWord, MissingWord, ExtraWord, NotANumber, NotAKey, NoSection, SettingAfterCall, SettingTwice, NotRising}

abbrev pub text_of : Reason → List ℕ
text_of UnknownWord = codes "unknown word"
text_of MissingWord = codes "a word is missing"
text_of ExtraWord = codes "a word too many"
text_of NotANumber = codes "not a number of 64 bits"
text_of NotAKey = codes "not a key of 1 to 16 hexadecimal digits"
text_of NoSection = codes "no section has begun"
text_of SettingAfterCall = codes "a setting after the first call"
text_of SettingTwice = codes "a setting given twice"
text_of NotRising = codes "alterations not by rising AFTER"

-- line N: and the reason
abbrev pub bad_text : BadLine → List ℕ
bad_text bad = codes "line " ++ (decimal bad.line ++ (codes ": " ++ text_of bad.reason))

-- a setting, after so many calls
abbrev pub setting_at : ℕ → Result (Unit {0}) Reason
setting_at calls = cond (calls == 0) (Ok tt) (Err SettingAfterCall)

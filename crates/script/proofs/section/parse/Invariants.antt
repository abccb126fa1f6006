use Rattle.std.proofs.Common.{◌+◌, ◌≤◌, List, [], length, vec_items}
use Rattle.words.specs.Taken.{lines_left}
use Rattle.words.specs.Words.{lines}
use Rattle.script.specs.Sections.{Outcome, ScriptTook}
use Rattle.script.proofs.section.parse.Given as goal

-- what the lines that are left make of the sections so far, all make of none
abbrev pub invariant-loop-index : goal.invariant-loop-index
invariant-loop-index l = record {
  left : (final : List Outcome) → ScriptTook l.index-iterator.count (lines_left l.index-iterator.iter) (vec_items l.sections) final → ScriptTook 0 (lines l.script) [] final;
  few : l.index-iterator.count + length (lines_left l.index-iterator.iter) ≤ length l.script;
}

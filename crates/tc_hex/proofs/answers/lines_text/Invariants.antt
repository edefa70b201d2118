-- The text has the lines before the index.
use Rattle.std.proofs.Common.{◌≡◌, take, string_bytes}
use Rattle.tc_hex.specs.Answers.{lines_text}
use Rattle.tc_hex.proofs.answers.lines_text.Given as goal

abbrev pub invariant-loop-line : goal.invariant-loop-line
invariant-loop-line l = string_bytes l.text ≡ lines_text (take l.line-index l.lines)

use Rattle.std.proofs.Common.{◌≡◌, ◌+◌, ◌++◌, length, map}
use Rattle.tc_posts.specs.Numbered.{numbered, shown}
use Rattle.tc_check.specs.Scripts.{script_lines}
use Rattle.tc_posts.proofs.numbered.numbered_lines.Given as goal

abbrev pub invariant-loop-line : goal.invariant-loop-line
invariant-loop-line l = record {
  sent : map shown l.lines.items ++ numbered (l.fn.first + length l.lines.items) l.place l.line-iterator ≡ numbered l.fn.first 1 (script_lines l.fn.text);
  count : l.place + length l.line-iterator ≡ 1 + length (script_lines l.fn.text);
}

use Rattle.std.proofs.Common.{◌≡◌, take}
use Rattle.std.specs.String.{string_bytes}
use Rattle.tc_types.specs.Grammar.{listed, time_word}
use Rattle.tc_lines.proofs.print.request_texts.times_text.Given as goal

abbrev pub invariant-loop-at : goal.invariant-loop-at
invariant-loop-at g l = string_bytes l.text ≡ listed time_word (take l.at l.rides)

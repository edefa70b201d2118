use Rattle.std.proofs.Common.{◌≡◌, All, length, map}
use Rattle.httparse.specs.Spans.{IsHeaderWithin, header_bytes}
use Rattle.tc_front.specs.Fields.{values}
use Rattle.tc_front.proofs.FieldLemmas.{with_found, IsFew}
use Rattle.tc_front.proofs.fields.find.Given as goal

-- What was found, and what is found in the headers left, is what is found in all.
abbrev pub invariant-loop-header : goal.invariant-loop-header
invariant-loop-header l = record {
  all : values l.name (map (header_bytes l.head) l.headers) ≡ with_found l.found (values l.name (map (header_bytes l.head) l.left));
  few : IsFew l.found;
  within : All (IsHeaderWithin (length l.head)) l.left;
}

abbrev pub decreases-loop-header : goal.decreases-loop-header
decreases-loop-header l = length l.left

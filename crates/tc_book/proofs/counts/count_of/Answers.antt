-- A count that was not taken yet is 0.
use Rattle.std.proofs.Common.{◌∙◌, sym}
use Rattle.std.proofs.lemmas.List.{get_or_past}
use Rattle.tc_book.proofs.counts.count_of.Goals as goal

pub returns-else-place-counts-clause-value : goal.returns-else-place-counts-clause-value
returns-else-place-counts-clause-value c = λ requests counted.
    let past = rw (c.from-place.ensures, c.get.ensures.value) at c.if-place-counts.false in
    sym (get_or_past c.args.counts.now c.args.apid 0 past) ∙ counted.each c.args.apid c.get.ensures.range

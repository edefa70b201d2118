-- One that has a line, and one that has none.
use Rattle.std.proofs.Common.{sym, ◌∙◌, ap, arith}
use Rattle.tc_types.specs.Lawful.{is_among}
use Rattle.tc_urgent.specs.declared.moves.LastMove.{LastMove}
use Rattle.tc_urgent.specs.Judging.{silent_places}
use Rattle.tc_urgent.proofs.SilentLemmas.{has_line, last_is, no_line}
use Rattle.tc_urgent.proofs.urgents.request_line.Goals as goal

pub returns-then-is_silent : goal.returns-then-is_silent
returns-then-is_silent g c =
    no_line c.args.book.now.book c.args.given.now.opened c.args.given.now.scheduled.now c.args.n c.requires.good
    (ap (is_among silent_places) (sym c.place_of.ensures) ∙ sym c.is_silent.ensures ∙ c.if-is_silent.true)

pub bounds-given-get : goal.bounds-given-get
bounds-given-get g c =
    let last = last_is c.args.book.now.book c.args.given.now.last.now c.args.n c.in_ok-request.request c.requires.good c.requires.last c.in_ok-request.ensures.value in
    let number = c.get.ensures.value in
    let within = last.0 in
    omega (arith, number, within)

pub kind_of-requires-clause-moved : goal.kind_of-requires-clause-moved
kind_of-requires-clause-moved g c =
    let last = last_is c.args.book.now.book c.args.given.now.last.now c.args.n c.in_ok-request.request c.requires.good c.requires.last c.in_ok-request.ensures.value in
    rw c.get.ensures.value (ap (λ (at : LastMove). at.seq) last.1)

pub returns : goal.returns
returns g c =
    let last = last_is c.args.book.now.book c.args.given.now.last.now c.args.n c.in_ok-request.request c.requires.good c.requires.last c.in_ok-request.ensures.value in
    let line = c.line_as.ensures c.args.book.now.book (rw c.get.ensures.value last.1) c.requires.latest in
    has_line c.args.book.now.book c.args.given.now.opened c.args.given.now.scheduled.now c.args.n c.in_ok-request.request c.in_ok-kind.kind c.line_as.result line c.in_ok-kind.ensures c.in_ok-request.ensures.value

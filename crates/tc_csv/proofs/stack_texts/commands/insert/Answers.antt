use Rattle.std.proofs.Common.{◌≡◌, rules, arith, Some, None, Err}
use Rattle.tc_csv.specs.declared.faults.Rule.TheVariants.{Time}
use Rattle.tc_csv.proofs.InsertLemmas.{insert_only, insert_no_time}
use Rattle.tc_csv.proofs.stack_texts.commands.insert.Goals as goal

pub returns-in_err-rides-clause-broken : goal.returns-in_err-rides-clause-broken
returns-in_err-rides-clause-broken c =
    let gone : c.from_residual-in_err-rides.result ≡ Err Time = grind arith in
    let lines : c.earlier_lines.result ≡ Some c.in_ok-lines.lines = grind arith in
    let none : c.instants.result ≡ None = grind arith in
    rw gone
    (insert_no_time c.args.line (search rules) c.args.target.now c.args.time.now c.in_ok-lines.lines (rw lines at c.earlier_lines.ensures) (rw (none, c.as_slice.ensures.targets) at c.instants.ensures.only))

pub returns-clause-found : goal.returns-clause-found
returns-clause-found c =
    let lines : c.earlier_lines.result ≡ Some c.in_ok-lines.lines = grind arith in
    let rides : c.instants.result ≡ Some c.in_ok-rides.rides = grind arith in
    insert_only c.args.line c.args.target.now c.args.time.now c.in_ok-lines.lines c.in_ok-rides.rides (rw lines at c.earlier_lines.ensures) (rw (rides, c.as_slice.ensures.targets) at c.instants.ensures.found)
    (rw (rides, c.as_slice.ensures.targets) at c.instants.ensures.only) c.keep_ranges.ensures

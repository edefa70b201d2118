use Rattle.tc_store.proofs.StepLemmas.{does_then}
use Rattle.std.proofs.Common.{◌≡◌, refl, pos, cond}
use Rattle.sqlite_value.specs.Value.{owned}
use Rattle.sqlite_value.specs.declared.value.Value.TheVariants.{Int, Text}
use Rattle.tc_types.specs.Grammar.{outcome_word}
use Rattle.tc_types.specs.Lawful.{place_number}
use Rattle.tc_store.specs.Requests.{ack_number, service_of, subtype_of, target_of, time_of, stack_of, line_of, prior_of}
use Rattle.tc_store.proofs.requests.put_columns.Goals as goal

pub returns : goal.returns
returns g c =
    let r = c.args.row.request in
    let e1 : owned c.params-to_sql.result ≡ Int (pos r.number) = rw (c.params-to_sql.ensures, c.get-number.ensures.value) refl in
    let e2 : owned c.params-to_sql-2.result ≡ Int (pos r.body.identity.apid) = rw (c.params-to_sql-2.ensures, c.from-apid.ensures, c.get.ensures.value) refl in
    let e3 : owned c.params-to_sql-3.result ≡ Int (pos r.body.identity.count) = rw (c.params-to_sql-3.ensures, c.from-count.ensures, c.get-2.ensures.value) refl in
    let e4 : owned c.params-to_sql-4.result ≡ Int (pos (ack_number r.body.ack)) = rw (c.params-to_sql-4.ensures, c.ack_code-ack.ensures) refl in
    let e5 : owned c.params-to_sql-5.result ≡ Int (cond r.critical (pos 1) (pos 0)) = rw (c.params-to_sql-5.ensures) refl in
    let e6 : owned c.params-to_sql-6.result ≡ Int (pos (service_of r.body.command)) = rw (c.params-to_sql-6.ensures, c.columns_of-columns.ensures.service) refl in
    let e7 : owned c.params-to_sql-7.result ≡ Int (pos (subtype_of r.body.command)) = rw (c.params-to_sql-7.ensures, c.columns_of-columns.ensures.subtype) refl in
    let e8 : owned c.params-to_sql-8.result ≡ Int (pos (target_of r.body.command)) = rw (c.params-to_sql-8.ensures, c.columns_of-columns.ensures.target) refl in
    let e9 : owned c.params-to_sql-9.result ≡ Int (time_of r.body.command) = rw (c.params-to_sql-9.ensures, c.columns_of-columns.ensures.time) refl in
    let e10 : owned c.params-to_sql-10.result ≡ Text (outcome_word r.body.outcome) = rw (c.params-to_sql-10.ensures, c.as_str.ensures.value, c.in_ok-outcome.ensures) refl in
    let e11 : owned c.params-to_sql-11.result ≡ Text r.author = rw (c.params-to_sql-11.ensures, c.as_str-2.ensures.text) refl in
    let e12 : owned c.params-to_sql-12.result ≡ Text (stack_of r.origin) = rw (c.params-to_sql-12.ensures, c.stack_of.ensures) refl in
    let e13 : owned c.params-to_sql-13.result ≡ Int (pos (line_of r.origin)) = rw (c.params-to_sql-13.ensures, c.line_of-line.ensures) refl in
    let e14 : owned c.params-to_sql-14.result ≡ Int (pos (prior_of r.origin)) = rw (c.params-to_sql-14.ensures, c.prior_of-prior.ensures) refl in
    let e15 : owned c.params-to_sql-15.result ≡ Int (pos (place_number c.args.row.place)) = rw (c.params-to_sql-15.ensures, c.from-place.ensures, c.number.ensures.value) refl in
    does_then g.S.Store c.args.tx.now.conn c.run.new.tx.conn c.run.result c.run.ensures (λ ran. rw (e1, e2, e3, e4, e5) at (rw (e6, e7, e8, e9, e10) at (rw (e11, e12, e13, e14, e15) at ran)))

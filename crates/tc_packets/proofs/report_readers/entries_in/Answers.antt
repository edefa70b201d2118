-- One entry more, and what stands where there is none.
use Rattle.std.proofs.Common.{◌≡◌, ℕ, ◌+◌, List, take, drop, None, sym, ap, ◌∙◌, subst, arith}
use Rattle.tc_packets.specs.ReportReaders.{Entry, IsEntry, Lists, entry_length}
use Rattle.tc_packets.proofs.EntryLemmas.{lists_more, no_entry, too_few}
use Rattle.tc_packets.proofs.report_readers.entries_in.Goals as goal

pub returns-then-left-each : goal.returns-then-left-each
returns-then-left-each c =
    let each : c.time_octets-each.result + 6 ≡ entry_length c.args.profile.now = ap (λ n. n + 6) c.time_octets-each.ensures in
    too_few c.args.profile.now c.loop.counter c.args.number c.args.octets.now c.loop.left.now c.loop.listing.activities c.loop.listing.passed
    c.loop.invariant c.loop-test.true (omega arith)

pub returns-in_err-entry : goal.returns-in_err-entry
returns-in_err-entry c =
    let each : c.time_octets-each.result + 6 ≡ entry_length c.args.profile.now = ap (λ n. n + 6) c.time_octets-each.ensures in
    let chunk : c.split_at.result.0.now ≡ take (entry_length c.args.profile.now) c.loop.left.now =
    c.split_at.ensures.front ∙ ap (λ n. take n c.loop.left.now) each in
    let gone : c.from_residual.result ≡ None = grind arith in
    rw gone
    (no_entry c.args.profile.now c.loop.counter c.args.number c.args.octets.now c.loop.left.now c.loop.listing.activities c.loop.listing.passed
    c.loop.invariant c.loop-test.true
    (λ entry is. c.in_err-entry.ensures entry (subst (λ (l : List ℕ). IsEntry c.args.profile.now l entry) (sym chunk) is)))

pub loop-preserved : goal.loop-preserved
loop-preserved c =
    let each : c.time_octets-each.result + 6 ≡ entry_length c.args.profile.now = ap (λ n. n + 6) c.time_octets-each.ensures in
    let chunk : c.split_at.result.0.now ≡ take (entry_length c.args.profile.now) c.loop.left.now =
    c.split_at.ensures.front ∙ ap (λ n. take n c.loop.left.now) each in
    let rest : c.split_at.result.1.now ≡ drop (entry_length c.args.profile.now) c.loop.left.now =
    c.split_at.ensures.back ∙ ap (λ n. drop n c.loop.left.now) each in
    let entry : Entry = record { time = c.in_ok-entry.entry.time; name = c.in_ok-entry.entry.name } in
    let is : IsEntry c.args.profile.now (take (entry_length c.args.profile.now) c.loop.left.now) entry =
    subst (λ (l : List ℕ). IsEntry c.args.profile.now l entry) chunk c.in_ok-entry.ensures in
    subst
    (λ (l : List ℕ). Lists c.args.profile.now (c.loop.counter + 1) c.args.octets.now l c.add_entry.new.listing.activities
    c.add_entry.new.listing.passed)
    (sym rest)
    (lists_more c.args.profile.now c.loop.counter c.args.octets.now c.loop.left.now c.loop.listing.activities c.add_entry.new.listing.activities
    c.loop.listing.passed c.add_entry.new.listing.passed entry c.loop.invariant is c.add_entry.ensures.ours c.add_entry.ensures.all)

use Rattle.std.proofs.Common.{arith, refl, take}
use Rattle.std.proofs.KnownBytes.{Consumes-nil}
use Rattle.tc_types.specs.Counts.{counts_of, inner_of}
use Rattle.tc_front.specs.Read.{NoFront}
use Rattle.tc_front.proofs.ReadLemmas.{consumes_more, decides_input, fronts_kept, goes_on, on_err, read_counts, watches_read}
use Rattle.tc_front.proofs.WantedLemmas.{waits_empty}
use Rattle.tc_front.proofs.read.read_front.Goals as goal

pub reads-init : goal.reads-init
reads-init g c = record {
  taken = rw c.requires.empty (Consumes-nil _);
  waiting = waits_empty _ c.requires.empty;
  watched = c.new-watch.ensures _;
  short = rw c.requires.empty (omega arith);
  longer = rw c.requires.fresh (omega arith);
  going = rw c.requires.fresh (record { faults = refl; ends = refl; reads = omega arith });
}

pub returns-in_err-reserve-clause-fronts : goal.returns-in_err-reserve-clause-fronts
returns-in_err-reserve-clause-fronts g c = on_err c.from_residual.result (NoFront c.reserve.new.self.items) (fronts_kept c.reads.text.items _ c.reserve.ensures.items c.reads.invariant.waiting)

pub returns-in_err-count-clause-fronts : goal.returns-in_err-count-clause-fronts
returns-in_err-count-clause-fronts g c = on_err c.from_residual-in_err-count.result (NoFront c.reserve.new.self.items) (fronts_kept c.reads.text.items _ c.reserve.ensures.items c.reads.invariant.waiting)

pub returns-then-count-eq0-clause-fronts : goal.returns-then-count-eq0-clause-fronts
returns-then-count-eq0-clause-fronts g c = fronts_kept c.reads.text.items c.reserve.new.self.items c.reserve.ensures.items c.reads.invariant.waiting

pub decides-requires : goal.decides-requires
decides-requires g c =
    watches_read c.reads.watch c.reads.text.items c.reserve.new.self.items (take c.in_ok-count.count c.read.new.buf) c.extend_from_slice.new.self.items c.deref.result.now
    c.reserve.ensures.items c.in_ok-extend_from_slice.ensures.items c.deref.ensures.value c.reads.invariant.watched

pub returns-then-decides-clause-taken : goal.returns-then-decides-clause-taken
returns-then-decides-clause-taken g c =
    consumes_more _ _ _ c.reads.text.items c.reserve.new.self.items (take c.in_ok-count.count c.read.new.buf) c.extend_from_slice.new.self.items
    c.reserve.ensures.items c.in_ok-extend_from_slice.ensures.items c.reads.invariant.taken c.in_ok-count.ensures.bytes.0

pub returns-then-decides-clause-whole : goal.returns-then-decides-clause-whole
returns-then-decides-clause-whole g c =
    decides_input (g.R.Read.remaining (inner_of c.args.reader.now)) (g.R.Read.remaining (inner_of c.read.new.self)) c.extend_from_slice.new.self.items
    (consumes_more _ _ _ c.reads.text.items c.reserve.new.self.items (take c.in_ok-count.count c.read.new.buf) c.extend_from_slice.new.self.items
    c.reserve.ensures.items c.in_ok-extend_from_slice.ensures.items c.reads.invariant.taken c.in_ok-count.ensures.bytes.0)

pub reads-preserved : goal.reads-preserved
reads-preserved g c =
    let short = rw c.deref.ensures.value at (c.decides.ensures.short c.if-decides.false) in
    let counts = read_counts (counts_of c.reads.reader) (counts_of c.read.new.self) _ c.in_ok-count.count c.reads.invariant.going c.if-count-eq0.false c.in_ok-count.ensures.counted in
    let on = goes_on (counts_of c.reads.reader) (counts_of c.read.new.self) c.reads.text.items c.reserve.new.self.items c.read.new.buf c.in_ok-count.count c.extend_from_slice.new.self.items
    counts c.reads.invariant.longer c.reserve.ensures.items c.in_ok-extend_from_slice.ensures.items c.in_ok-count.ensures.bound.0 c.if-count-eq0.false short in record {
      taken = consumes_more _ _ _ c.reads.text.items c.reserve.new.self.items (take c.in_ok-count.count c.read.new.buf) c.extend_from_slice.new.self.items
          c.reserve.ensures.items c.in_ok-extend_from_slice.ensures.items c.reads.invariant.taken c.in_ok-count.ensures.bytes.0;
      waiting = rw c.deref.ensures.value at (c.decides.ensures.no c.if-decides.false);
      watched = rw c.deref.ensures.value at c.decides.ensures.watches;
      short = short;
      longer = on.0;
      going = on.1;
    }

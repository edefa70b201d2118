-- Octet by octet.
use Rattle.std.proofs.Common.{◌+◌, ◌∙◌, ap, subst, refl}
use Rattle.std.specs.Prelude.{slice_index}
use Rattle.tc_octets.specs.Cltus.{Receiver, received}
use Rattle.tc_octets.specs.declared.codeblocks.Mode.{Mode}
use Rattle.tc_decoded.specs.Added.{Added}
use Rattle.tc_decoded.specs.CltuLines.{EndedTold}
use Rattle.tc_decoded.proofs.CltuAddedLemmas.{stream_ends, stream_goes_on}
use Rattle.tc_decoded.proofs.cltus.tell_stream.Goals as goal

pub loop-at-preserved : goal.loop-at-preserved
loop-at-preserved g c =
    let octet = slice_index c.args.octets.now c.loop-at.at in (
      ap (λ (r : Receiver). r.mode) c.take.ensures.taken ∙ c.loop-at.invariant.0,
      stream_goes_on c.args.profile.now c.args.octets.now c.loop-at.reader.last.place c.take.new.reader.last.place c.loop-at.at octet c.args.out.now.items
          c.loop-at.out.items c.take.new.out.items c.loop-at-test.true refl
          (ap (λ (r : Receiver). r.last.place) c.take.ensures.taken ∙ ap (λ (m : Mode). (received m c.loop-at.reader.last.place octet).place) c.loop-at.invariant.0)
          c.loop-at.invariant.1
          (subst
          (λ (m : Mode). Added (EndedTold c.args.profile.now c.args.octets.now (c.loop-at.at + 1) (received m c.loop-at.reader.last.place octet).ended)
          c.loop-at.out.items c.take.new.out.items)
          c.loop-at.invariant.0 c.in_ok-take.ensures.lines),
    )

pub returns : goal.returns
returns g c =
    stream_ends c.args.profile.now c.args.octets.now c.loop-at.reader.last.place c.loop-at.at c.args.out.now.items c.loop-at.out.items
    c.loop-at-test.false c.loop-at.invariant.1

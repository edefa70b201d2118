-- One request more.
use Rattle.std.proofs.Common.{arith}
use Rattle.tc_types.specs.declared.tables.rows.Row.TheVariants.{Carried}
use Rattle.tc_book.specs.Cargoes.{cargo_of}
use Rattle.tc_book.proofs.CarriedLemmas.{flat_more, flat_longer, flat_within}
use Rattle.tc_book.proofs.cargoes.copy_cargo.Goals as goal

pub push_cargo-requires : goal.push_cargo-requires
push_cargo-requires g c =
    let len = c.loop-request.invariant.1 in
    let room = c.loop-request.invariant.2 in
    let all = c.requires in
    let within = flat_within cargo_of c.args.requests.now c.loop-request.request-index c.request-item.result c.loop-request-test.true c.request-item.is in
    omega (arith, len, room, all, within)

pub loop-request-preserved : goal.loop-request-preserved
loop-request-preserved g c =
    let len = c.push_cargo.ensures.len in
    let most = c.loop-request.invariant.1 in
    let more = c.push_cargo.ensures.capacity in
    let room = c.loop-request.invariant.2 in
    let longer = flat_longer cargo_of c.args.requests.now c.loop-request.request-index c.request-item.result c.loop-request-test.true c.request-item.is in (
      flat_more (λ cargo. Carried cargo) cargo_of c.args.requests.now c.loop-request.request-index c.request-item.result c.args.batch.now.items c.loop-request.batch.items c.push_cargo.new.batch.items
          c.loop-request-test.true c.request-item.is c.loop-request.invariant.0 c.push_cargo.ensures.items,
      omega (arith, len, most, longer),
      omega (arith, more, room),
    )

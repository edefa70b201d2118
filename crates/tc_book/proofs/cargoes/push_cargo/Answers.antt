-- As many rows as there are activities behind the first.
use Rattle.std.proofs.Common.{length, ap, arith}
use Rattle.tc_book.proofs.CarriedLemmas.{cargo_counted}
use Rattle.tc_book.proofs.cargoes.push_cargo.Goals as goal

pub push_rides-requires-clause-room : goal.push_rides-requires-clause-room
push_rides-requires-clause-room g c =
    let counted = cargo_counted c.args.request.now in
    let rides = ap length c.behind_first.ensures.rides in
    let room = c.requires in
    omega (arith, counted, rides, room)

pub returns : goal.returns
returns g c =
    let counted = cargo_counted c.args.request.now in
    let rides = ap length c.behind_first.ensures.rides in
    let len = c.push_rides.ensures.len in
    record {
      items = rw c.behind_first.ensures.rides at c.push_rides.ensures.items;
      len = omega (arith, counted, rides, len);
      capacity = c.push_rides.ensures.capacity;
    }

-- One request more, which may follow.
use Rattle.std.proofs.Common.{◌≡◌, [], length, arith, ap, refl, get_or}
use Rattle.tc_book.specs.Good.{IsGoodRequest}
use Rattle.tc_book.specs.Places.{count_of}
use Rattle.tc_book.proofs.HistoryLemmas.{AllAfter-snoc}
use Rattle.tc_book.proofs.NameLemmas.{names_entered}
use Rattle.tc_book.proofs.ReopenLemmas.{names_few, stack_room, count_few}
use Rattle.tc_book.proofs.reopening.known.push_known.Goals as goal

pub push_name-requires : goal.push_name-requires
push_name-requires g c =
    let names = ap length c.requires.known.stacks in
    let few = names_few c.args.requests.now.items in
    let room = c.requires.stack_room in
    stack_room c.args.request.now.origin (length c.args.stacks.now.items) _ (omega (arith, names, few, room))

pub count_one-requires-clause-few : goal.count_one-requires-clause-few
count_one-requires-clause-few g c =
    let counted : get_or c.args.counts.now.items c.args.request.now.body.identity.apid 0 ≡ count_of c.args.requests.now.items c.args.request.now.body.identity.apid = c.requires.known.counted.each c.args.request.now.body.identity.apid c.get-apid.ensures.range in
    let most = count_few c.args.requests.now.items c.args.request.now.body.identity.apid in
    let few = c.requires.few in
    omega (arith, counted, most, few)

pub returns-clause-known : goal.returns-clause-known
returns-clause-known g c = record {
  good = rw c.push_within.ensures.items (AllAfter-snoc IsGoodRequest [] c.args.requests.now.items c.args.request.now c.requires.known.good c.requires.good);
  counted = rw c.push_within.ensures.items (c.count_one.ensures.counted c.args.requests.now.items c.args.request.now refl c.requires.known.counted);
  stacks = rw (c.push_within.ensures.items, c.push_name.ensures.items) (names_entered c.args.requests.now.items c.args.request.now c.args.stacks.now.items c.requires.known.stacks);
}

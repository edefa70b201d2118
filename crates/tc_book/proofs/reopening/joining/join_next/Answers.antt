-- The rows in front are one position after the other.
use Rattle.std.proofs.Common.{◌≡◌, ◌∙◌, ap}
use Rattle.tc_book.specs.Joining.{front_from}
use Rattle.tc_book.proofs.CargoLemmas.{front_listed}
use Rattle.tc_book.proofs.reopening.joining.join_next.Goals as goal

pub join-requires : goal.join-requires
join-requires c =
    let own : c.split_at.result.0.now ≡ front_from c.args.row.now.number 2 c.args.cargo.now =
    c.split_at.ensures.front ∙ c.own_cargo.ensures.front ∙ ap (λ n. front_from n 2 c.args.cargo.now) c.get.ensures.value in
    rw own (front_listed c.args.row.now.number 2 c.args.cargo.now)

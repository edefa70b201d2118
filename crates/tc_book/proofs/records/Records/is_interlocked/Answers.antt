-- A row of a stack waits for one of its 200 lines at most.
use Rattle.std.proofs.Common.{◌∙◌, sym}
use Rattle.tc_book.specs.Book.{Book}
use Rattle.tc_book.proofs.GoodLemmas.{wait_small}
use Rattle.tc_book.proofs.records.Records.is_interlocked.Goals as goal

pub is_held_back-requires : goal.is_held_back-requires
is_held_back-requires g c =
    let book : Book = record { requests = c.self.inside.requests.items; history = c.self.inside.history.rows; approvals = c.self.inside.approvals.items; stack_approvals = c.self.inside.stack_approvals.items; log = c.self.inside.log.told } in
    wait_small book c.args.n c.in-Some.request c.self.invariant.0 (rw (← c.self.view_is) at (sym c.request.ensures.value ∙ c.in-Some.is))

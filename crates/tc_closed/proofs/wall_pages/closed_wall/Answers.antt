-- The tables tell of the book whose page it is, and are only read.
use Rattle.std.proofs.Common.{◌≡◌, ◌∙◌, ap, subst}
use Rattle.std.specs.String.{string_bytes}
use Rattle.tc_types.specs.Images.{rows_in}
use Rattle.tc_book.specs.Sound.{IsSound, book_of}
use Rattle.tc_view.specs.Shown.{IsFilePage}
use Rattle.tc_closed.specs.Closed.{LeavesTables}
use Rattle.tc_closed.proofs.ReadLemmas.{if_ok, on_ok}
use Rattle.tc_closed.proofs.wall_pages.closed_wall.Goals as goal

pub returns-in-Ok-clause-page : goal.returns-in-Ok-clause-page
returns-in-Ok-clause-page g c = record {
  told = λ clean. if_ok c.page_of.result _ _ c.page_of.ensures.told (λ page told version ledger is_told held.
      let rows : rows_in c.in-Ok.image ≡ ledger.image = c.in-Ok.ensures.image clean version ledger is_told held in
      (subst IsSound rows told.0, subst (λ image. IsFilePage (book_of image) (string_bytes page)) rows told.1));
  reads = on_ok c.page_of.result _ (record { holds = λ clean version ledger held. c.in-Ok.ensures.reads.same clean version ledger held; clean = c.in-Ok.ensures.reads.clean });
  left = record { holds = c.in-Ok.ensures.reads.kept; crash = λ clean. c.in-Ok.ensures.reads.crash; clean = c.in-Ok.ensures.reads.clean };
}

pub returns-in-Err-clause-page : goal.returns-in-Err-clause-page
returns-in-Err-clause-page g c = record {
  told = λ clean. tt;
  reads = tt;
  left = record { holds = c.in-Err.ensures.reads.kept; crash = λ clean. c.in-Err.ensures.reads.crash; clean = c.in-Err.ensures.reads.clean };
}

pub returns-in-Ok-clause-judged : goal.returns-in-Ok-clause-judged
returns-in-Ok-clause-judged g c clean = on_ok c.page_of.result _ (λ layout is.
    (rows_in c.in-Ok.image, c.in-Ok.ensures.shown clean layout is, c.in-Ok.ensures.told))

-- Nothing is told of a desk.
use Rattle.std.proofs.Common.{◌∙◌, ap, length}
use Rattle.tc_view.proofs.PageLemmas.{file_made}
use Rattle.tc_view.proofs.pages.file_page.Goals as goal

pub returns-clause-page : goal.returns-clause-page
returns-clause-page g c = file_made c.args.records.now.book _ _ c.page_of.result (ap length c.rows.ensures) (c.deref.ensures.value ∙ c.in_ok-scheduled.ensures) c.page_of.ensures.page

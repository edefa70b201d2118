-- An insert has one activity at least.
use Rattle.tc_book.proofs.CargoLemmas.{one_alone}
use Rattle.tc_book.proofs.reopening.tables.is_first_alone.Goals as goal

pub returns-in-InsertActivities : goal.returns-in-InsertActivities
returns-in-InsertActivities c = λ more. rw c.in-InsertActivities.is (one_alone c.in-InsertActivities.rides more c.len.result c.len.ensures.count c.len.ensures.few)

-- What was written down is an entry where one can be made of it.
use Rattle.tc_book.specs.Book.{form_of}
use Rattle.tc_book.proofs.ReopenLemmas.{is_entry}
use Rattle.tc_book.proofs.reopening.known.is_entered.Goals as goal

pub returns : goal.returns
returns c = is_entry c.new.result (form_of c.args.request.now) c.is_some.result c.is_some.ensures c.new.ensures.some c.new.ensures.which c.new.ensures.entry

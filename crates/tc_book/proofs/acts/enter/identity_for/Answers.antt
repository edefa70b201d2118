-- The application process stands under a binder, where the search does not rewrite.
use Rattle.tc_book.proofs.acts.enter.identity_for.Goals as goal

pub returns : goal.returns
returns g c = rw c.apid.ensures at c.next_identity.ensures

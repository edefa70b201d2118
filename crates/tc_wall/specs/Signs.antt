-- A sign for each place; tiles and rows have the same.
use Rattle.std.specs.Prelude.{ℕ, List, codes}
use Rattle.tc_types.specs.declared.history.places.Place.{Place}
use Rattle.tc_types.specs.declared.history.places.Place.TheVariants.{Entered, Approved, Queued, Sent, Confirmed, Riding, Scheduled, Accepted, Started, Completed, Failed, Doubtful, Withdrawn, Deleted, Closed}

unfoldable pub sign_of : Place → List ℕ
sign_of Entered = codes "&#9675;"
sign_of Approved = codes "&#9679;"
sign_of Queued = codes "&#9654;"
sign_of Sent = codes "&#9654;"
sign_of Confirmed = codes "&#9654;"
sign_of Riding = codes "&#9654;"
sign_of Accepted = codes "&#9654;"
sign_of Started = codes "&#9654;"
sign_of Scheduled = codes "&#9670;"
sign_of Doubtful = codes "?"
sign_of Failed = codes "&#215;"
sign_of Completed = codes "&#10003;"
sign_of Withdrawn = codes "&#9632;"
sign_of Deleted = codes "&#9632;"
sign_of Closed = codes "&#9632;"

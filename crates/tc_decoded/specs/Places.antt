-- Where the octets of a layer stand in the whole text.
use Rattle.std.specs.Prelude.{ℕ, ◌+◌, true, false}
use Rattle.tc_decoded.specs.declared.places.Place.{Place}

-- the octets of the whole; those of a layer after so many octets of an outer one
abbrev pub the_whole : Place
the_whole = record { start = 0; skipped = 0; coded = false }

abbrev pub later : Place → ℕ → Place
later place octets = record { start = place.start; skipped = place.skipped + octets; coded = place.coded }

-- the information of codeblocks that begin after so many octets
abbrev pub coded_from : ℕ → Place
coded_from start = record { start = start; skipped = 0; coded = true }

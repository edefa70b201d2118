-- The line that tells a request. What an entry spells is spelled as there.
use Rattle.std.specs.Prelude.{ℕ, ◌==◌, if◌then◌else◌, Option, List, [], ◌∷◌, ◌++◌, codes, take, drop}
use Rattle.std.specs.List.{join_with_byte}
use Rattle.std.specs.Fmt.{decimal}
use Rattle.tc_types.specs.declared.history.places.Place.{Place}
use Rattle.tc_types.specs.declared.requests.Command.{Command}
use Rattle.tc_types.specs.declared.requests.Request.{Request}
use Rattle.tc_types.specs.Grammar.{ack_word, command_words, outcome_word, yes_no}
use Rattle.tc_types.specs.Lines.{from_word, identity_word, spaced}

-- SERVICE/SUBTYPE
abbrev pub kind_word : Command → List ℕ
kind_word c = join_with_byte 47 (take 2 (command_words c))

-- a text with one more word of a list behind, the word at this place from 0
abbrev pub with_word : List ℕ → ℕ → List ℕ → List ℕ
with_word text at word = if at == 0 then text ++ word else text ++ 59 ∷ word

-- TARGET TIME
abbrev pub target_words : Command → List ℕ
target_words c = spaced (drop 2 (command_words c))

-- request N APID/COUNT SERVICE/SUBTYPE ACK CRIT TARGET TIME OUTCOME AUTHOR PLACE, of a request that stands at this place
abbrev pub request_line : Request → Option Place → List ℕ
request_line r at = spaced (codes "request" ∷ decimal r.number ∷ identity_word r.body.identity ∷ kind_word r.body.command ∷ ack_word r.body.ack
    ∷ yes_no r.critical ∷ target_words r.body.command ∷ outcome_word r.body.outcome ∷ r.author ∷ from_word at ∷ [])

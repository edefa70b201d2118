-- How the link stands: the premise, and thirteen names with their values; that of a closed file is closed.
use Rattle.std.specs.Prelude.{ℕ, Bool, ◌||◌, if◌then◌else◌, List, [], ◌∷◌, ◌++◌, codes}
use Rattle.tc_wall.specs.declared.links.FopWord.{FopWord}
use Rattle.tc_wall.specs.declared.links.FopWord.TheVariants.{Active, RetransmitWithoutWait, RetransmitWithWait, InitialisingWithoutBc, InitialisingWithBc, Initial}
use Rattle.tc_wall.specs.declared.links.FarmWord.{FarmWord}
use Rattle.tc_wall.specs.declared.links.FarmWord.TheVariants as farm
use Rattle.tc_wall.specs.declared.links.FopLine.{FopLine}
use Rattle.tc_wall.specs.declared.links.FarmLine.{FarmLine}
use Rattle.tc_wall.specs.declared.links.LinkLines.{LinkLines}
use Rattle.tc_wall.specs.Parts.{Part, Fixed, Number, fixed}

-- the states of the FOP, as the standard names them (CCSDS 232.1-B, 5.1.2); with these values their element begins
unfoldable pub fop_words : FopWord → List ℕ
fop_words Active = codes "<dd>S1 active"
fop_words RetransmitWithoutWait = codes "<dd>S2 retransmit without wait"
fop_words RetransmitWithWait = codes "<dd>S3 retransmit with wait"
fop_words InitialisingWithoutBc = codes "<dd>S4 initialising without BC frame"
fop_words InitialisingWithBc = codes "<dd>S5 initialising with BC frame"
fop_words Initial = codes "<dd>S6 initial: nothing is sent"

-- Those of the FARM. One that is not open has its name as its class.
unfoldable pub farm_words : FarmWord → List ℕ
farm_words farm.Open = codes "<dd>Open"
farm_words farm.Wait = codes "<dd class=\"Wait\">Wait"
farm_words farm.Lockout = codes "<dd class=\"Lockout\">Lockout"

-- the word of each flag that stands, or `none`
unfoldable pub flag_words : Bool → Bool → Bool → List ℕ
flag_words lockout wait retransmit =
    if lockout || wait || retransmit
    then codes "<dd class=\"Wait\">" ++ (if lockout then codes "Lockout " else []) ++ (if wait then codes "Wait " else [])
    ++ (if retransmit then codes "Retransmit " else [])
    else codes "<dd>none"

unfoldable pub premise_word : Bool → List ℕ
premise_word clean = if clean then codes "kept" else codes "broken"

-- a value below its name
unfoldable pub worded_parts : List ℕ → List ℕ → List Part
worded_parts name value = Fixed (codes "<div><dt>") ∷ Fixed name ∷ Fixed (codes "</dt>") ∷ Fixed value ∷ Fixed (codes "</dd></div>\n") ∷ []

unfoldable pub number_parts : List ℕ → ℕ → List Part
number_parts name n = Fixed (codes "<div><dt>") ∷ Fixed name ∷ Fixed (codes "</dt><dd>") ∷ Number n ∷ Fixed (codes "</dd></div>\n") ∷ []

-- so many of so many
unfoldable pub share_parts : List ℕ → ℕ → ℕ → List Part
share_parts name n most =
    Fixed (codes "<div><dt>") ∷ Fixed name ∷ Fixed (codes "</dt><dd>") ∷ Number n ∷ Fixed (codes " of ") ∷ Number most
    ∷ Fixed (codes "</dd></div>\n") ∷ []

unfoldable pub flies_parts : ℕ → ℕ → List Part
flies_parts up down =
    Fixed (codes "<div><dt>flies</dt><dd>") ∷ Number up ∷ Fixed (codes " up, ") ∷ Number down ∷ Fixed (codes " down</dd></div>\n") ∷ []

-- the state of the FOP, what it holds, and its counters
unfoldable pub queue_parts : FopLine → List Part
queue_parts f =
    worded_parts (codes "FOP") (fop_words f.state)
    ++ share_parts (codes "not confirmed") f.sent f.k
    ++ number_parts (codes "waits to be sent") f.waiting
    ++ share_parts (codes "transmission") f.count f.limit

unfoldable pub counter_parts : FopLine → List Part
counter_parts f = share_parts (codes "timer") f.timer f.t1 ++ number_parts (codes "V(S)") f.vs ++ number_parts (codes "NN(R)") f.nn

unfoldable pub fop_parts : FopLine → List Part
fop_parts f = queue_parts f ++ counter_parts f

unfoldable pub farm_parts : FarmLine → List Part
farm_parts f =
    worded_parts (codes "FARM") (farm_words f.state)
    ++ number_parts (codes "V(R)") f.vr
    ++ number_parts (codes "FARM-B") f.farm_b
    ++ worded_parts (codes "flags") (flag_words f.lockout f.wait f.retransmit)
    ++ number_parts (codes "W") f.window

unfoldable pub section_begins : Bool → List Part
section_begins clean = Fixed (codes "<section class=\"link ") ∷ Fixed (premise_word clean) ∷ Fixed (codes "\">\n<h2>Link</h2>\n") ∷ []

unfoldable pub premise_parts : Bool → List Part
premise_parts clean = Fixed (codes "<p class=\"premise\">premise ") ∷ Fixed (premise_word clean) ∷ Fixed (codes "</p>\n<dl>\n") ∷ []

unfoldable pub link_parts : LinkLines → List Part
link_parts l =
    section_begins l.clean ++ premise_parts l.clean ++ fop_parts l.fop ++ farm_parts l.farm ++ flies_parts l.up l.down ++ fixed (codes "</dl>\n</section>\n")

abbrev pub closed_link_parts : List Part
closed_link_parts = fixed (codes "<section class=\"link closed\">\n<h2>Link</h2>\n<p class=\"premise\">closed</p>\n</section>\n")

-- The lines that tell how the link stands, and what it told, as bytes without their LF.
use Rattle.std.specs.Prelude.{ℕ, Bool, if◌then◌else◌, Option, Some, None, List, [], ◌∷◌, length, codes}
use Rattle.std.specs.Fmt.{decimal}
use Rattle.tc_types.specs.declared.link.frames.Frame.{Frame}
use Rattle.tc_types.specs.declared.link.reports.Report.{Report}
use Rattle.tc_types.specs.Grammar.{flag}
use Rattle.tc_types.specs.Lines.{spaced}
use Rattle.tc_farm.specs.declared.farms.FarmState.{FarmState}
use Rattle.tc_farm.specs.declared.farms.FarmState.TheVariants.{Open, Wait, Lockout}
use Rattle.tc_farm.specs.declared.farms.FarmView.{FarmView}
use Rattle.tc_fop.specs.declared.signals.AlertKind.{AlertKind}
use Rattle.tc_fop.specs.declared.signals.AlertKind.TheVariants as kind
use Rattle.tc_fop.specs.declared.signals.FopState.{FopState}
use Rattle.tc_fop.specs.declared.signals.FopState.TheVariants.{Active, RetransmitWithoutWait, RetransmitWithWait, InitialisingWithoutBc, InitialisingWithBc, Initial}
use Rattle.tc_fop.specs.declared.signals.Indication.TheVariants as signal
use Rattle.tc_fop.specs.declared.views.FopView.{FopView}
use Rattle.tc_fop.specs.Views.{view_of}
use Rattle.tc_world.specs.declared.events.LinkIndication.{LinkIndication}
use Rattle.tc_world.specs.declared.events.LinkIndication.TheVariants as said
use Rattle.tc_world.specs.Links.{Kind}
use Rattle.tc_desk.specs.declared.statuses.LinkStatus.{LinkStatus}
use Rattle.tc_desk.specs.State.{State}

-- the number of a state of FOP-1 (CCSDS 232.1-B, 5.1.2)
abbrev pub fop_state_name : FopState → List ℕ
fop_state_name Active = codes "S1"
fop_state_name RetransmitWithoutWait = codes "S2"
fop_state_name RetransmitWithWait = codes "S3"
fop_state_name InitialisingWithoutBc = codes "S4"
fop_state_name InitialisingWithBc = codes "S5"
fop_state_name Initial = codes "S6"

abbrev pub farm_state_name : FarmState → List ℕ
farm_state_name Open = codes "Open"
farm_state_name Wait = codes "Wait"
farm_state_name Lockout = codes "Lockout"

abbrev pub alert_name : AlertKind → List ℕ
alert_name kind.Limit = codes "LIMIT"
alert_name kind.T1 = codes "T1"
alert_name kind.Lockout = codes "LOCKOUT"
alert_name kind.Synch = codes "SYNCH"
alert_name kind.NnR = codes "NN(R)"
alert_name kind.Clcw = codes "CLCW"
alert_name kind.Term = codes "TERM"

-- L, W and R, or - where that flag is 0
abbrev pub flags_word : FarmView → List ℕ
flags_word farm = flag farm.lockout 76 ∷ flag farm.wait 87 ∷ flag farm.retransmit 82 ∷ []

-- kept while every start so far was good
abbrev pub premise_word : Bool → List ℕ
premise_word clean = if clean then codes "kept" else codes "broken"

-- the end of the FOP's line: count E timer F k G t1 H limit I
abbrev pub fop_end : ℕ → ℕ → ℕ → ℕ → ℕ → List ℕ
fop_end count timer k t1 limit = spaced (codes "count" ∷ decimal count ∷ codes "timer" ∷ decimal timer ∷ codes "k" ∷ decimal k ∷ codes "t1" ∷ decimal t1 ∷ codes "limit" ∷ decimal limit ∷ [])

-- fop STATE vs A nn B sent C wait D, and its end
abbrev pub fop_line : FopView → List ℕ
fop_line v = spaced (codes "fop" ∷ fop_state_name v.state ∷ codes "vs" ∷ decimal v.vs ∷ codes "nn" ∷ decimal v.nn ∷ codes "sent" ∷ decimal v.sent
    ∷ codes "wait" ∷ decimal v.waiting ∷ fop_end v.count v.timer v.k v.t1 v.limit ∷ [])

-- farm STATE vr A b B flags LWR w W
abbrev pub farm_line : FarmView → List ℕ
farm_line farm = spaced (codes "farm" ∷ farm_state_name farm.state ∷ codes "vr" ∷ decimal farm.vr ∷ codes "b" ∷ decimal farm.farm_b
    ∷ codes "flags" ∷ flags_word farm ∷ codes "w" ∷ decimal farm.window ∷ [])

-- link up A down B premise P
abbrev pub carriers_line : LinkStatus → List ℕ
carriers_line s = spaced (codes "link" ∷ codes "up" ∷ decimal s.up ∷ codes "down" ∷ decimal s.down ∷ codes "premise" ∷ premise_word s.clean ∷ [])

abbrev pub status_lines : LinkStatus → List (List ℕ)
status_lines s = fop_line s.fop ∷ farm_line s.farm ∷ carriers_line s ∷ []

-- how the link of a desk stands
abbrev pub status_of : {U D : Type 0} → Kind U Frame → Kind D Report → State U D → LinkStatus
status_of up down at = record {
  fop = view_of at.world.fop;
  farm = at.world.farm;
  up = length (up.content at.world.up);
  down = length (down.content at.world.down);
  clean = at.world.clean;
}

-- the line of what the link told, if it has one: started, or alert NAME
abbrev pub told_line : LinkIndication → Option (List ℕ)
told_line (said.Fop (signal.Sent n)) = None
told_line (said.Fop (signal.Confirmed n)) = None
told_line (said.Fop (signal.GivenBack n)) = None
told_line (said.Fop (signal.InDoubt n)) = None
told_line (said.Fop (signal.Alert given)) = Some (spaced (codes "alert" ∷ alert_name given ∷ []))
told_line (said.Fop signal.Started) = Some (codes "started")
told_line (said.Farm verdict) = None
told_line (said.Received item) = None
told_line said.Lost = None
told_line (said.Transmitted frame) = None

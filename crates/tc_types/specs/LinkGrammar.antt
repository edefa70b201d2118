-- The spelling of acts on the link and on the spacecraft, and the limits that their numbers keep.
use Rattle.std.specs.Prelude.{ℕ, List, [], ◌∷◌, codes}
use Rattle.std.specs.Fmt.{decimal}
use Rattle.tc_types.specs.declared.link.directives.Directive.{Directive}
use Rattle.tc_types.specs.declared.link.directives.Directive.TheVariants as directive
use Rattle.tc_types.specs.declared.acts.LinkAct.{LinkAct}
use Rattle.tc_types.specs.declared.acts.LinkAct.TheVariants as link_act
use Rattle.tc_types.specs.declared.verbs.Verb.TheVariants as verb
use Rattle.tc_types.specs.Verbs.{verb_word}
use Rattle.tc_types.specs.Numbers.{IsMoment, IsNumber, IsCounter, IsWindow, IsTicks, IsTransmissionLimit}

-- the words of a directive
abbrev pub directive_words : Directive → List (List ℕ)
directive_words directive.InitiateNone = verb_word verb.Initiate ∷ codes "none" ∷ []
directive_words directive.InitiateCheck = verb_word verb.Initiate ∷ codes "check" ∷ []
directive_words directive.InitiateUnlock = verb_word verb.Initiate ∷ codes "unlock" ∷ []
directive_words (directive.InitiateSetVr v) = verb_word verb.Initiate ∷ codes "setvr" ∷ decimal v ∷ []
directive_words directive.Terminate = verb_word verb.Terminate ∷ []
directive_words (directive.SetVs v) = verb_word verb.Set ∷ codes "vs" ∷ decimal v ∷ []
directive_words (directive.SetK k) = verb_word verb.Set ∷ codes "k" ∷ decimal k ∷ []
directive_words (directive.SetT1 t1) = verb_word verb.Set ∷ codes "t1" ∷ decimal t1 ∷ []
directive_words (directive.SetLimit limit) = verb_word verb.Set ∷ codes "limit" ∷ decimal limit ∷ []

abbrev pub IsDirective : Directive → Type 0
IsDirective directive.InitiateNone = Unit {0}
IsDirective directive.InitiateCheck = Unit {0}
IsDirective directive.InitiateUnlock = Unit {0}
IsDirective (directive.InitiateSetVr v) = IsCounter v
IsDirective directive.Terminate = Unit {0}
IsDirective (directive.SetVs v) = IsCounter v
IsDirective (directive.SetK k) = IsWindow k
IsDirective (directive.SetT1 t1) = IsTicks t1
IsDirective (directive.SetLimit limit) = IsTransmissionLimit limit

-- the words of an act on the link or on the spacecraft: its verb, and what it takes
abbrev pub link_act_words : LinkAct → List (List ℕ)
link_act_words (link_act.Release request) = verb_word verb.Release ∷ decimal request ∷ []
link_act_words (link_act.Direct given) = directive_words given
link_act_words link_act.Tick = verb_word verb.Tick ∷ []
link_act_words link_act.Up = verb_word verb.Up ∷ []
link_act_words (link_act.LoseUp place) = verb_word verb.LoseUp ∷ decimal place ∷ []
link_act_words (link_act.LoseDown place) = verb_word verb.LoseDown ∷ decimal place ∷ []
link_act_words link_act.Clcw = verb_word verb.Clcw ∷ []
link_act_words link_act.Down = verb_word verb.Down ∷ []
link_act_words link_act.Work = verb_word verb.Work ∷ []
link_act_words (link_act.Clock time) = verb_word verb.Clock ∷ decimal time ∷ []

-- the limits that its numbers keep
abbrev pub IsLinkAct : LinkAct → Type 0
IsLinkAct (link_act.Release request) = IsNumber request
IsLinkAct (link_act.Direct given) = IsDirective given
IsLinkAct link_act.Tick = Unit {0}
IsLinkAct link_act.Up = Unit {0}
IsLinkAct (link_act.LoseUp place) = IsNumber place
IsLinkAct (link_act.LoseDown place) = IsNumber place
IsLinkAct link_act.Clcw = Unit {0}
IsLinkAct link_act.Down = Unit {0}
IsLinkAct link_act.Work = Unit {0}
IsLinkAct (link_act.Clock time) = IsMoment time

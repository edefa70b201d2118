-- What leaves K as it is.
use Rattle.std.specs.Prelude.{◌≡◌, ℕ, Bool, true, false, Ok, Err}
use Rattle.std.specs.List.{list_all}
use Rattle.tc_types.specs.declared.link.directives.Directive.{Directive}
use Rattle.tc_types.specs.declared.link.directives.Directive.TheVariants as directive
use Rattle.tc_fop.specs.Machine.{Machine, Action, SetKTo}
use Rattle.tc_fop.specs.Calls.{Given}

-- each action but the one that sets K
abbrev pub leaves_k : Action → Bool
leaves_k (SetKTo k) = false
leaves_k action = true

abbrev pub AllLeaveK : Given → Type 0
AllLeaveK (Ok actions) = list_all leaves_k actions ≡ true
AllLeaveK (Err refusal) = Unit {0}

-- K after a directive that is carried out
abbrev pub k_after : Directive → Machine → ℕ
k_after directive.InitiateNone m = m.k
k_after directive.InitiateCheck m = m.k
k_after directive.InitiateUnlock m = m.k
k_after (directive.InitiateSetVr v) m = m.k
k_after directive.Terminate m = m.k
k_after (directive.SetVs v) m = m.k
k_after (directive.SetK k) m = k
k_after (directive.SetT1 t1) m = m.k
k_after (directive.SetLimit limit) m = m.k

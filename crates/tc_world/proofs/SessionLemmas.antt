-- What is written down of the FOP's indications, one after the other, and which requests were sent.
use Rattle.std.proofs.Common.{◌≡◌, Bool, true, false, if◌then◌else◌, List, [], ◌∷◌, ◌++◌, refl, sym, ◌∙◌, ap}
use Rattle.std.proofs.lemmas.List.{append_assoc, append-nil}
use Rattle.std.proofs.lemmas.Grind.{flat_map-append}
use Rattle.tc_fop.specs.declared.signals.Indication.{Indication}
use Rattle.tc_fop.specs.Machine.{Out}
use Rattle.tc_fop.specs.Moves.{transmitted_in, confirmed_in, starts_in, transmitted_by, is_start}
use Rattle.tc_fop.specs.Requests.{confirms}
use Rattle.tc_world.specs.Logs.{Log, noted, is_some_start}

-- an output that tells and sends nothing
abbrev pub telling : List Indication → Out
telling told = record { frames = []; indications = told }

-- a start is among two lists where it is in the one or in the other
some_start : (xs ys : List Indication) → is_some_start (xs ++ ys) ≡ (if is_some_start xs then true else is_some_start ys)
some_start [] ys = refl
some_start (x ∷ xs) ys = refl

-- a start among more is written down as well
started_on : (before : Bool) (xs ys : List Indication) → (if (if before then true else is_some_start xs) then true else is_some_start ys) ≡ (if before then true else is_some_start (xs ++ ys))
started_on true xs ys = refl
started_on false xs ys = sym (some_start xs ys)

-- no start, nothing changes
started_stays : (before : Bool) → before ≡ (if before then true else false)
started_stays true = refl
started_stays false = refl

-- nothing told, nothing written down
pub noted_none : (log : Log) → log ≡ noted (telling []) log
noted_none log i = record {
  base = log.base;
  started = started_stays log.started i;
  sent = sym (append-nil log.sent) i;
  accepted = log.accepted;
  confirmed = sym (append-nil log.confirmed) i;
}

-- one more indication
pub noted_next : (told : List Indication) (next : Indication) (log : Log) → noted (telling (next ∷ [])) (noted (telling told) log) ≡ noted (telling (told ++ next ∷ [])) log
noted_next told next log i = record {
  base = log.base;
  started = (started_on log.started (starts_in (telling told)) (starts_in (telling (next ∷ []))) ∙ ap (λ l. if log.started then true else is_some_start l) (sym (flat_map-append (λ (x : Indication). if is_start x then x ∷ [] else []) told (next ∷ [])))) i;
  sent = (append_assoc log.sent (transmitted_in (telling told)) (transmitted_in (telling (next ∷ []))) ∙ ap (λ l. log.sent ++ l) (sym (flat_map-append transmitted_by told (next ∷ [])))) i;
  accepted = log.accepted;
  confirmed = (append_assoc log.confirmed (confirmed_in (telling told)) (confirmed_in (telling (next ∷ []))) ∙ ap (λ l. log.confirmed ++ l) (sym (flat_map-append confirms told (next ∷ [])))) i;
}

pub ruleset notes = (noted_none, noted_next)

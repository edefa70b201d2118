-- What a parse says of a command whose meaning is known.
use Rattle.std.proofs.Common.{◌≡◌, List, [], OnOk, Result, Ok, Err, inl, inr, subst, true}
use Rattle.std.specs.Prelude.{IfErr}
use Rattle.clap.specs.Words.{App, FailsBy, HasKind, HasMatchesOf, Kinds, Text, fault_of, is_simple, is_simple_and_free, subcommand_of, subcommand_rows_of}
use Rattle.clap.specs.declared.error.Error.{Error}
use Rattle.clap.specs.declared.parser.matches.ArgMatches.{ArgMatches}
use Rattle.tc_words.specs.Asked.{Asked}
use Rattle.tc_words.specs.Lines.{IsTold, IsToldAs}
use Rattle.tc_words.specs.declared.lines.UsageFault.{UsageFault}

pub matches_of : (given app : App) (words : List Text) (found : ArgMatches) → given ≡ app → is_simple app ≡ true
    → HasMatchesOf given words found → subcommand_rows_of found ≡ subcommand_of app words
matches_of given app words found same simple has = (subst (λ a. HasMatchesOf a words found) same has simple).1

-- where a parse succeeds there is no kind of error
no_fault : {T : Type 0} (faults : Kinds) (r : Result T Error) → FailsBy faults r → OnOk r (faults ≡ [])
no_fault faults (Ok found) none = none
no_fault faults (Err error) kind = tt

-- and where it fails its error has one
some_fault : {T : Type 0} (faults : Kinds) (r : Result T Error) → FailsBy faults r → IfErr r (HasKind faults)
some_fault faults (Ok found) none = tt
some_fault faults (Err error) kind = kind

fails_by : {T : Type 0} (given app : App) (words : List Text) (r : Result T Error) → given ≡ app → is_simple_and_free app ≡ true
    → (is_simple_and_free given ≡ true → FailsBy (fault_of given words) r) → FailsBy (fault_of app words) r
fails_by given app words r same simple fails = subst (λ a. is_simple_and_free a ≡ true → FailsBy (fault_of a words) r) same fails simple

pub fails_of : {T : Type 0} (given app : App) (words : List Text) (r : Result T Error) → given ≡ app → is_simple_and_free app ≡ true
    → (is_simple_and_free given ≡ true → FailsBy (fault_of given words) r) → OnOk r (fault_of app words ≡ [])
fails_of given app words r same simple fails = no_fault (fault_of app words) r (fails_by given app words r same simple fails)

pub kind_of_fault : {T : Type 0} (given app : App) (words : List Text) (r : Result T Error) → given ≡ app → is_simple_and_free app ≡ true
    → (is_simple_and_free given ≡ true → FailsBy (fault_of given words) r) → IfErr r (HasKind (fault_of app words))
kind_of_fault given app words r same simple fails = some_fault (fault_of app words) r (fails_by given app words r same simple fails)

-- an error of `clap` that `clap` finds in the words is told where it is so
pub told_as : (faults : Kinds) (asked : Asked) (error : Error) (fault : UsageFault) → IsToldAs error fault → HasKind faults error → IsTold faults asked fault
told_as faults asked error fault told (inl memory) = rw (told.refused.0 memory) tt
told_as faults asked error fault told (inr among) = elim told.either [
  | inl memory ↦ rw memory tt
  | inr words ↦ rw words among
]

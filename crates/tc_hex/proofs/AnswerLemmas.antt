-- One more line of an input, answered.
use Rattle.std.proofs.Common.{◌≡◌, ◌∙◌, ◌<◌, ℕ, ◌+◌, Bool, true, false, ◌&&◌, nat_lt, List, [], ◌∷◌, ◌++◌, length, Option, Some, None, Result, Ok, Err, IfOk, IfSome, refl, sym, ap, append_assoc, append-nil, rules, length-append}
use Rattle.std.specs.Io.BufRead.{drop_through, take_through}
use Rattle.std.specs.Io.KnownBytes.{Appends}
use Rattle.std.proofs.KnownBytes.{Appends-trans}
use Rattle.tc_octets.specs.declared.profiles.Profile.{Profile}
use Rattle.tc_decoded.specs.declared.decoding.Layer.{Layer}
use Rattle.tc_hex.specs.Answers.{AnsweredFrom, Answers, AreAnswered, BeginsWith, separator, without_end}

-- an answer stands before the next, if one does before these lines or one of these was answered
abbrev pub after_lines : Bool → List (List ℕ) → Bool
after_lines after [] = after
after_lines after (line ∷ lines) = true

after_true : (lines : List (List ℕ)) → after_lines true lines ≡ true
after_true [] = refl
after_true (line ∷ lines) = refl

-- an answer with what stands before it
abbrev set_apart : Bool → List ℕ → List ℕ
set_apart after answer = separator after ++ answer

and_true : (b : Bool) → b ≡ (b && true)
and_true true = refl
and_true false = refl

and_assoc : (a b c : Bool) → ((a && b) && c) ≡ (a && (b && c))
and_assoc true b c = refl
and_assoc false b c = refl

begins_more : (given : List ℕ) (lines : List (List ℕ)) (rest line : List ℕ) → BeginsWith given lines rest → 0 < length rest → line ≡ take_through 10 rest
    → BeginsWith given (lines ++ line ∷ []) (drop_through 10 rest)
begins_more given [] rest line is some cut = rw is (some, cut, refl)
begins_more given (first ∷ lines) rest line begins some cut = (begins.0, begins.1, begins_more (drop_through 10 given) lines rest line begins.2 some cut)

answered_more : (profile : Profile) (layer : Layer) (after : Bool) (lines : List (List ℕ)) (text : List ℕ) (are : Bool) (line answer : List ℕ) (is : Bool)
    → AreAnswered profile layer after lines text are → Answers profile layer (without_end line) answer is
    → AreAnswered profile layer after (lines ++ line ∷ []) (text ++ set_apart (after_lines after lines) answer) (are && is)
answered_more profile layer after [] text are line answer is before one =
    rw (before.0, before.1) (answer, [], is, true, one, (refl, refl), sym (append-nil (set_apart after answer)), and_true is)
answered_more profile layer after (first ∷ lines) text are line answer is (found, later, whole, rest, first_one, others, text_is, are_is) one =
    let apart = set_apart (after_lines true lines) answer in (
      found,
      later ++ apart,
      whole,
      rest && is,
      first_one,
      answered_more profile layer true lines later rest line answer is others one,
      ap (λ t. t ++ set_apart true answer) text_is ∙ append_assoc (set_apart after found) later (set_apart true answer)
          ∙ ap (λ b. set_apart after found ++ (later ++ set_apart b answer)) (sym (after_true lines)),
      ap (λ b. b && is) are_is ∙ and_assoc whole rest is,
    )

counted : (lines : List (List ℕ)) (count : ℕ) → length lines ≡ count → nat_lt 0 count ≡ after_lines false lines
counted [] count is = rw (← is) refl
counted (line ∷ lines) count is = rw (← is) (search rules)

pub more_answered : (profile : Profile) (layer : Layer) (given input before output : Option (List ℕ)) (count : ℕ) (are : Bool) (line answer : List ℕ) (is : Bool)
    (next written : Option (List ℕ)) → AnsweredFrom profile layer given input before output count are
    → IfSome input (λ rest. (0 < length rest) × (line ≡ take_through 10 rest) × (next ≡ Some (drop_through 10 rest)))
    → Answers profile layer (without_end line) answer is → Appends output written (separator (nat_lt 0 count) ++ answer)
    → AnsweredFrom profile layer given next before written (count + 1) (are && is)
more_answered profile layer None input before output count are line answer is next written so_far read one appends = tt
more_answered profile layer (Some given) input before output count are line answer is next written (lines, rest, text, left, begins, number, answered, out) read one appends =
    let found = rw left at read in (
      lines ++ line ∷ [],
      drop_through 10 rest,
      text ++ set_apart (after_lines false lines) answer,
      found.2,
      begins_more given lines rest line begins found.0 found.1,
      length-append lines (line ∷ []) ∙ ap (λ n. n + 1) number,
      answered_more profile layer false lines text are line answer is answered one,
      Appends-trans before output written text (set_apart (after_lines false lines) answer) out (rw (counted lines count number) at appends),
    )

-- an answer that was written after what stands before it
pub put_apart : {E : Type 0} (r : Result Bool E) (P : List ℕ → Bool → Type 0) (old between new : Option (List ℕ)) (before : List ℕ) → Appends old between before
    → IfOk r (λ is. (answer : List ℕ) × P answer is × Appends between new answer)
    → IfOk r (λ is. (answer : List ℕ) × P answer is × Appends old new (before ++ answer))
put_apart (Err fault) P old between new before apart given = tt
put_apart (Ok is) P old between new before apart (answer, one, out) = (answer, one, Appends-trans old between new before answer apart out)

-- Why a response says nothing.
use Rattle.std.proofs.Common.{Bor, ◌≡◌, ◌∙◌, ◌+◌, ◌-◌, ℕ, List, [], ◌∷◌, Option, Some, None, Result, Ok, Err, ap, drop, length, refl, subst, sym, take}
use Rattle.std.proofs.Math.Seq.{take-length}
use Rattle.std.proofs.lemmas.List.{length-drop}
use Rattle.std.specs.Prelude.{IfErr, IfNone, IsErrAnd, MatchResult, ok_or}
use Rattle.std.specs.Result.{result_ok}
use Rattle.std.specs.Str.{IsUtf8}
use Rattle.memchr.specs.Find.{FindsNeedle}
use Rattle.memchr.proofs.lemmas.ValueLemmas.{FindsNeedle-value}
use Rattle.serde_json.specs.Data.{Data}
use Rattle.serde_json.specs.Read.{read}
use Rattle.tc_posts.specs.declared.told.Untellable.{Untellable}
use Rattle.tc_posts.specs.declared.told.Untellable.TheVariants.{NoResponse, Memory}
use Rattle.tc_posts.specs.Told.{Answer, IsBody, IsTold, IsUnsaid, IsUntold, Says}

-- what an `ok_or` found, and why it found nothing
pub found_some : {X E : Type 0} (o : Option X) (r : Result X E) (x : X) → o ≡ result_ok r → r ≡ Ok x → o ≡ Some x
found_some o r x ok is = ok ∙ ap result_ok is

pub found_none : {X E : Type 0} (o : Option X) (r : Result X E) (e : E) → o ≡ result_ok r → r ≡ Err e → o ≡ None
found_none o r e ok is = ok ∙ ap result_ok is

pub found_why : {X E : Type 0} (o : Option X) (r : Result X E) (e given : E) → r ≡ ok_or o given → o ≡ None → r ≡ Err e → e ≡ given
found_why {X} {E} o r e given value none is =
    let same : (let left : Result X E = Err e in left) ≡ Err given = sym is ∙ (value ∙ ap (λ (found : Option X). ok_or found given) none) in cc

-- the error that a `?` makes
pub is_err : {X : Type 0} (result : Result X Untellable) (why : Untellable) → IsErrAnd result (λ out. out ≡ why) → result ≡ Err why
is_err (Ok x) why h = absurd h
is_err (Err out) why h = ap Err h

abbrev empty_line : List ℕ
empty_line = 13 ∷ 10 ∷ 13 ∷ 10 ∷ []

one_place : (response : List ℕ) (a b : Option ℕ) → FindsNeedle response empty_line 0 a → FindsNeedle response empty_line 0 b → a ≡ b
one_place response a b h k = FindsNeedle-value response empty_line a h ∙ sym (FindsNeedle-value response empty_line b k)

-- a response has one body
pub one_body : (response a b : List ℕ) → IsBody response a → IsBody response b → a ≡ b
one_body response a b (i, finds, is) (j, found, too) =
    let e : Some i ≡ Some j = one_place response (Some i) (Some j) finds found in
    let same : i ≡ j = cc in
    is ∙ (ap (λ (n : ℕ). drop (n + 4) response) same ∙ sym too)

-- and none where no empty line is found
pub no_body : (response body : List ℕ) (r : Option ℕ) → FindsNeedle response empty_line 0 r → r ≡ None → ¬ (IsBody response body)
no_body response body r finds none (i, found, is) = let e : r ≡ Some i = one_place response r (Some i) finds found in absurd cc

pub if_none : {X : Type 0} (r : Option X) (P : Type 0) → P → IfNone r P
if_none None P p = p
if_none (Some x) P p = tt

whole : (n : ℕ) (response : List ℕ) → take (length response - n) (drop n response) ≡ drop n response
whole n response = ap (λ (m : ℕ). take m (drop n response)) (sym (length-drop n response)) ∙ take-length (drop n response)

-- bytes behind an empty line that are no text
pub no_text : {E : Type 0} (response : List ℕ) (end : ℕ) (bytes : List ℕ) (read : Result (Bor (List ℕ)) E) (r : Option (Bor (List ℕ))) (X : E → Type 0) → bytes ≡ take (length response - (end + 4)) (drop (end + 4) response)
    → FindsNeedle response empty_line 0 (Some end) → MatchResult read (λ s. (s.now ≡ bytes) × IsUtf8 bytes) (λ e. ¬ (IsUtf8 bytes) × X e) → r ≡ result_ok read
    → IfNone r ((body : List ℕ) → IsBody response body → ¬ (IsUtf8 body))
no_text response end bytes (Ok text) r X behind finds read is = rw is tt
no_text response end bytes (Err e) r X behind finds read is =
    if_none r ((body : List ℕ) → IsBody response body → ¬ (IsUtf8 body))
    (λ body found utf8. read.0 (subst (λ (b : List ℕ). IsUtf8 b) (one_body response body bytes found (end, finds, behind ∙ whole (end + 4) response)) utf8))

-- a body that says nothing
pub nothing_said : {X : Type 0} (r : Result X Untellable) (body : List ℕ) (value : Data) → read body ≡ Some value → IfErr r (IsUnsaid value) → r ≡ Err NoResponse
    → (answer : Answer) → ¬ (Says body answer)
nothing_said {X} r body value is unsaid none answer (other, also, told) =
    let nothing : IsUnsaid value NoResponse = subst (λ (r : Result X Untellable). IfErr r (IsUnsaid value)) none unsaid in
    let same : other ≡ value = cc in
    nothing answer (subst (λ (v : Data). IsTold v answer) same told)

-- a response whose body is not told
pub not_told : {X : Type 0} (r : Result X Untellable) (response body : List ℕ) → IsBody response body → IsUtf8 body
    → (r ≡ Err NoResponse → (answer : Answer) → ¬ (Says body answer)) → IfErr r (IsUntold response)
not_told (Ok x) response body is utf8 none = tt
not_told (Err NoResponse) response body is utf8 none =
    λ answer tells. none refl answer (subst (λ (b : List ℕ). Says b answer) (one_body response tells.body body tells.found is) tells.said)
not_told (Err Memory) response body is utf8 none = (body, is, utf8)

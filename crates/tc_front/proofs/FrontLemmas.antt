-- What a front decides is decided, the same, in every longer one; and it decides one thing alone.
use Rattle.std.proofs.Common.{◌≡◌, ◌⊎◌, inl, inr, ◌∙◌, ◌+◌, ◌-◌, ◌<◌, ◌≤◌, ℕ, min, Bool, true, false, MatchBool, Option, Some, None, IfSome, IfNone, List, [], ◌++◌, length, take, drop, map, refl, ap, ap₂, sym, arith, subst}
use Rattle.std.proofs.lemmas.List.{length-append, take-append-le, drop-append-le, take_all, append-nil, length-take, length-drop}
use Rattle.std.proofs.Math.Seq.{take-append-add, take-length}
use Rattle.std.proofs.lemmas.Bool.{cases_lt}
use Rattle.std.specs.Option.{option_map}
use Rattle.httparse.specs.Grammar.{RequestHead}
use Rattle.httparse.specs.Spans.{name_and_value}
use Rattle.httparse.proofs.GrammarLemmas.{request_unique}
use Rattle.tc_types.specs.Grammar.{Reads}
use Rattle.tc_types.specs.declared.acts.Query.TheVariants as query
use Rattle.tc_front.specs.declared.paths.Post.{Post}
use Rattle.tc_front.specs.declared.judge.Judgement.{Judgement}
use Rattle.tc_front.specs.declared.judge.Judgement.TheVariants as judgement
use Rattle.tc_front.specs.declared.front.Decision.{Decision}
use Rattle.tc_front.specs.declared.judge.Refused.TheVariants.{Large}
use Rattle.tc_front.specs.Paths.{Texts, places_text, request_text, history_text, report_text, waiting_text, urgent_text, moves_text, procedure_text, Named, posts_to, asks_for, shows_wall, tells_opening, path_of}
use Rattle.tc_front.specs.Fields.{Held, absent, single, several}
use Rattle.tc_front.specs.Judge.{both, AsksFor, AsksRequest, AsksHistory, AsksReport, AsksUrgent, AsksMoves, AsksProcedure, JudgesQuestion, JudgesGet, JudgesLength, JudgesPost, JudgesBody, JudgesCoding, JudgesPath, JudgesHead, Judges, asked_or_bad, without_body}
use Rattle.tc_front.specs.Ends.{head_end, skip_ends}
use Rattle.tc_front.specs.Front.{Asked, refuses, asked_of, Completes, IsDecidedAt, IsDecided, Waits}
use Rattle.tc_front.specs.Read.{NoFront}
use Rattle.tc_front.proofs.EndLemmas.{Stays, Within, head_end-append, head_end-within}

-- ---- one judgement

reads_unique : {X : Type 0} {text : X → List ℕ} {In : X → Type 0} (word : List ℕ) (r s : Option X) → Reads text In word r → Reads text In word s → r ≡ s
reads_unique word None None a b = refl
reads_unique word None (Some y) a b = a.only y b.found.1 b.found.0
reads_unique word (Some x) s a b = sym (b.only x a.found.1 a.found.0)

-- at most one has it
abbrev pub IsOne : {A : Type 0} → (A → Type 0) → Type 0
IsOne {A} P = (j k : A) → P j → P k → j ≡ k

one_is : {A : Type 0} (x : A) → IsOne (λ j. j ≡ x)
one_is x j k p q = p ∙ sym q

one_if : {A : Type 0} (b : Bool) (P Q : A → Type 0) → IsOne P → IsOne Q → IsOne (λ j. MatchBool b (P j) (Q j))
one_if true P Q p q j k x y = p j k x y
one_if false P Q p q j k x y = q j k x y

one_request : (first : List ℕ) → IsOne (AsksRequest first)
one_request first q r (n, a, e) (m, b, f) = e ∙ ap (λ x. option_map (λ n. query.Request n) x) (reads_unique first n m a b) ∙ sym f

one_history : (first second : List ℕ) → IsOne (AsksHistory first second)
one_history first second q r (n, n', a, a', e) (m, m', b, b', f) =
    e ∙ ap₂ (λ x y. both (λ n m. query.History n m) x y) (reads_unique first n m a b) (reads_unique second n' m' a' b') ∙ sym f

one_report : (first second : List ℕ) → IsOne (AsksReport first second)
one_report first second q r (n, n', a, a', e) (m, m', b, b', f) =
    e ∙ ap₂ (λ x y. both (λ n m. query.Report n m) x y) (reads_unique first n m a b) (reads_unique second n' m' a' b') ∙ sym f

one_urgent : (first : List ℕ) → IsOne (AsksUrgent first)
one_urgent first q r (n, a, e) (m, b, f) = e ∙ ap (λ x. option_map (λ n. query.Urgent n) x) (reads_unique first n m a b) ∙ sym f

one_moves : (first : List ℕ) → IsOne (AsksMoves first)
one_moves first q r (n, a, e) (m, b, f) = e ∙ ap (λ x. option_map (λ n. query.Moves n) x) (reads_unique first n m a b) ∙ sym f

one_procedure : (first : List ℕ) → IsOne (AsksProcedure first)
one_procedure first q r (n, a, e) (m, b, f) = e ∙ ap (λ x. option_map (λ name. query.Steps name) x) (reads_unique first n m a b) ∙ sym f

one_asked : (texts : Texts) → IsOne (AsksFor texts)
one_asked places_text = one_is (Some query.Places)
one_asked (request_text number) = one_request number
one_asked (history_text first after) = one_history first after
one_asked (report_text from to) = one_report from to
one_asked waiting_text = one_is (Some query.Waiting)
one_asked (urgent_text from) = one_urgent from
one_asked (moves_text after) = one_moves after
one_asked (procedure_text name) = one_procedure name

one_question : (texts : Texts) → IsOne (JudgesQuestion texts)
one_question texts j k (q, a, e) (r, b, f) = e ∙ ap asked_or_bad (one_asked texts q r a b) ∙ sym f

one_get : (lengths : Held) (texts : Texts) → IsOne (JudgesGet lengths texts)
one_get lengths texts j k (asked, a, e) (other, b, f) = e ∙ ap (without_body lengths) (one_question texts asked other a b) ∙ sym f

one_length : (value : List ℕ) (post : Post) → IsOne (JudgesLength value post)
one_length value post j l (inl x) (inl y) = x.1 ∙ sym y.1
one_length value post j l (inl x) (inr y) = absurd (x.0 y.0)
one_length value post j l (inr x) (inl y) = absurd (y.0 x.0)
one_length value post j l (inr x) (inr y) = one_if _ (λ j. j ≡ _) (λ j. j ≡ _) (one_is _) (one_is _) j l x.1 y.1

one_post : (lengths : Held) (post : Post) → IsOne (JudgesPost lengths post)
one_post absent post = one_is _
one_post (single value) post = one_length value post
one_post several post = one_is _

one_body : (lengths : Held) (named : Named) → IsOne (JudgesBody lengths named)
one_body lengths (posts_to post) = one_post lengths post
one_body lengths (asks_for texts) = one_get lengths texts
one_body lengths shows_wall = one_is _
one_body lengths tells_opening = one_is _

one_coding : (coding lengths : Held) (named : Named) → IsOne (JudgesCoding coding lengths named)
one_coding absent lengths named = one_body lengths named
one_coding (single value) lengths named = one_is _
one_coding several lengths named = one_is _

one_path : (method : List ℕ) (fields : List (List ℕ × List ℕ)) (path : Option Named) → IsOne (JudgesPath method fields path)
one_path method fields None = one_is _
one_path method fields (Some named) = one_if _ _ _ (one_coding _ _ named) (one_is _)

one_head : (h : RequestHead) → IsOne (JudgesHead h)
one_head h = one_path h.method (map name_and_value h.fields) (path_of h.target)

-- a head text asks one thing
pub one_judgement : (text : List ℕ) → IsOne (Judges text)
one_judgement text j k (inl (h, a, x)) (inl (g, b, y)) =
    let same = request_unique text h g [] [] a.0 b.0 in one_head g j k (subst (λ h. JudgesHead h j) same.0 x) y
one_judgement text j k (inl (h, a, x)) (inr y) = absurd (y.0 h a)
one_judgement text j k (inr x) (inl (g, b, y)) = absurd (x.0 g b)
one_judgement text j k (inr x) (inr y) = x.1 ∙ sym y.1

one_complete : (j : Judgement) (rest : List ℕ) → IsOne (Completes j rest)
one_complete (judgement.Refused refused) rest = one_is _
one_complete (judgement.Asks query) rest = one_is _
one_complete judgement.ShowsWall rest = one_is _
one_complete judgement.TellsOpening rest = one_is _
one_complete (judgement.Posts post size) rest = λ a b x y. x.1 ∙ sym y.1

one_decided : (found : Option ℕ) (text : List ℕ) → IsOne (IsDecidedAt found text)
one_decided None text = λ a b x y. x.1 ∙ sym y.1
one_decided (Some end) text =
    λ a b x y. one_complete y.0 (drop end text) a b (subst (λ j. Completes j (drop end text) a) (one_judgement (skip_ends (take end text)) x.0 y.0 x.1 y.1) x.2) y.2

-- a front decides one thing
pub decided_unique : (text : List ℕ) → IsOne (IsDecided text)
unfolding IsDecided
decided_unique text = one_decided (head_end (take 8192 text)) text

-- ---- longer inputs

completes_more : (j : Judgement) (rest more : List ℕ) (asked : Asked) → Completes j rest asked → Completes j (rest ++ more) asked
completes_more (judgement.Refused refused) rest more asked c = c
completes_more (judgement.Asks query) rest more asked c = c
completes_more judgement.ShowsWall rest more asked c = c
completes_more judgement.TellsOpening rest more asked c = c
completes_more (judgement.Posts post size) rest more asked c =
    let long : length (rest ++ more) ≡ length rest + length more = length-append rest more in
    (omega (arith, c.0), rw (take-append-le size rest more c.0) c.1)

front_more_by : (xs ys : List ℕ) → (length xs < 8192) ⊎ (8192 ≤ length xs) → (zs : List ℕ) × (take 8192 (xs ++ ys) ≡ take 8192 xs ++ zs) × (8192 ≤ length xs → take 8192 (xs ++ ys) ≡ take 8192 xs)
front_more_by xs ys (inl short) =
    let sum : 8192 ≡ length xs + (8192 - length xs) = omega arith in
    let cut : take 8192 (xs ++ ys) ≡ xs ++ take (8192 - length xs) ys = ap (λ n. take n (xs ++ ys)) sum ∙ take-append-add xs ys (8192 - length xs) in
    let all : take 8192 xs ≡ xs = take_all 8192 xs (omega arith) in
    (take (8192 - length xs) ys, rw all cut, λ h. absurd (omega arith))
front_more_by xs ys (inr long) =
    let cut : take 8192 (xs ++ ys) ≡ take 8192 xs = take-append-le 8192 xs ys long in
    ([], rw (append-nil (take 8192 xs)) cut, λ h. cut)

-- the bytes that a head may have, of a longer text
pub front_more : (xs ys : List ℕ) → (zs : List ℕ) × (take 8192 (xs ++ ys) ≡ take 8192 xs ++ zs) × (8192 ≤ length xs → take 8192 (xs ++ ys) ≡ take 8192 xs)
front_more xs ys = front_more_by xs ys (cases_lt (length xs) 8192)

decided_at : (found now : Option ℕ) (xs ys : List ℕ) (asked : Asked) → Stays found now → (8192 ≤ length xs → now ≡ found) → Within found (length xs)
    → IsDecidedAt found xs asked → IsDecidedAt now (xs ++ ys) asked
decided_at None now xs ys asked stays long within d =
    let more : length (xs ++ ys) ≡ length xs + length ys = length-append xs ys in
    let large : 8192 ≤ length xs = omega (arith, d.0) in
    rw (long large) (omega (arith, d.0), d.1)
decided_at (Some end) now xs ys asked stays long within (j, judged, done) =
    rw stays (j, rw (take-append-le end xs ys within) judged, rw (drop-append-le end xs ys within) (completes_more j (drop end xs) ys asked done))

within_front : (found : Option ℕ) (xs : List ℕ) → Within found (length (take 8192 xs)) → Within found (length xs)
within_front None xs w = tt
within_front (Some end) xs w = let cut : length (take 8192 xs) ≡ min 8192 (length xs) = length-take 8192 xs in omega arith

-- the head's end lies in the text
pub end_within : (text : List ℕ) → Within (head_end (take 8192 text)) (length text)
end_within text = within_front (head_end (take 8192 text)) text (head_end-within (take 8192 text))

-- What a front decides is decided, the same, in every longer one.
pub decided-append : (xs ys : List ℕ) (asked : Asked) → IsDecided xs asked → IsDecided (xs ++ ys) asked
unfolding IsDecided
decided-append xs ys asked d =
    let (zs, is, same) = front_more xs ys in
    decided_at (head_end (take 8192 xs)) (head_end (take 8192 (xs ++ ys))) xs ys asked (rw is (head_end-append (take 8192 xs) zs))
    (λ h. ap head_end (same h)) (end_within xs) d

-- Two fronts of one input decide the same.
pub same_decision : (input first more second others : List ℕ) (a b : Asked) → input ≡ first ++ more → input ≡ second ++ others → IsDecided first a → IsDecided second b → a ≡ b
same_decision input first more second others a b is too d e =
    let p : IsDecided input a = subst (λ xs. IsDecided xs a) (sym is) (decided-append first more a d) in
    let q : IsDecided input b = subst (λ xs. IsDecided xs b) (sym too) (decided-append second others b e) in
    decided_unique input a b p q

-- no front of a text that waits decides
pub waits_fronts : (text : List ℕ) → Waits text → NoFront text
waits_fronts text waits front rest asked is h = waits.none asked (rw is (decided-append front rest asked h))

-- ---- for the code

pub opened : (text : List ℕ) (d : Asked) → IsDecided text d → IsDecidedAt (head_end (take 8192 text)) text d
unfolding IsDecided
opened text d h = h

whole : (text rest : List ℕ) (end : ℕ) → rest ≡ take (length text - end) (drop end text) → rest ≡ drop end text
whole text rest end is =
    let long : length (drop end text) ≡ length text - end = length-drop end text in
    is ∙ ap (λ n. take n (drop end text)) (sym long) ∙ take-length (drop end text)

-- the head has ended, and its body is there
pub decided_some : (found : Option ℕ) (end : ℕ) (j : Judgement) (text rest : List ℕ) (r : Option Decision) → found ≡ head_end (take 8192 text) → found ≡ Some end
    → Judges (skip_ends (take end text)) j → rest ≡ take (length text - end) (drop end text) → IfSome r (λ d. Completes j rest (asked_of d)) → IfSome r (λ d. IsDecided text (asked_of d))
unfolding IsDecided
decided_some found end j text rest None at is judged behind done = tt
decided_some found end j text rest (Some d) at is judged behind done = rw (sym at) (rw is (j, judged, rw (sym (whole text rest end behind)) done))

-- or its body is not
pub decided_none : (found : Option ℕ) (end : ℕ) (j : Judgement) (text rest : List ℕ) (r : Option Decision) → found ≡ head_end (take 8192 text) → found ≡ Some end
    → Judges (skip_ends (take end text)) j → rest ≡ take (length text - end) (drop end text) → IfNone r ((d : Asked) → ¬ (Completes j rest d)) → IfNone r (Waits text)
decided_none found end j text rest (Some d) at is judged behind none = tt
decided_none found end j text rest None at is judged behind none = record {
  none = λ d h.
      let was : IsDecidedAt (head_end (take 8192 text)) text d = opened text d h in
      let seen : IsDecidedAt (Some end) text d = rw (sym at, is) at was in
      let done : Completes j (drop end text) d = subst (λ j. Completes j (drop end text) d) (one_judgement (skip_ends (take end text)) seen.0 j seen.1 judged) seen.2 in
      none d (rw (whole text rest end behind) done);
}

-- no head has ended in the bytes that one may have
pub large : (found : Option ℕ) (text : List ℕ) → found ≡ head_end (take 8192 text) → found ≡ None → 8192 < length text → IsDecided text (refuses Large)
unfolding IsDecided
large found text at is long = rw (sym at) (rw is (long, refl))

-- and there may be more of them
pub undecided : (found : Option ℕ) (text : List ℕ) → found ≡ head_end (take 8192 text) → found ≡ None → length text ≤ 8192 → Waits text
undecided found text at is short = record {
  none = λ d h.
      let was : IsDecidedAt (head_end (take 8192 text)) text d = opened text d h in
      let seen : IsDecidedAt None text d = rw (sym at, is) at was in omega (arith, seen.0);
}

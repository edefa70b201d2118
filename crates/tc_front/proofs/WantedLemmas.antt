-- How many bytes are wanted: with fewer nothing is decided, and with so many something is.
use Rattle.std.proofs.Common.{◌≡◌, ◌∙◌, ◌+◌, ◌-◌, ◌<◌, ◌≤◌, ℕ, min, Bool, true, false, MatchBool, if◌then◌else◌, nat_lt, Option, Some, None, List, [], ◌∷◌, ◌++◌, length, take, drop, map, refl, ap, sym, arith, inl, inr, append_assoc}
use Rattle.std.proofs.lemmas.List.{length-append, take-append-le, append-nil, length-take, length-drop}
use Rattle.std.proofs.lemmas.Bool.Decides.{nat_tests}
use Rattle.std.specs.Str.Parse.{digits_value}
use Rattle.httparse.specs.Spans.{name_and_value}
use Rattle.tc_types.specs.declared.acts.Query.{Query}
use Rattle.tc_front.specs.declared.paths.Post.{Post}
use Rattle.tc_front.specs.declared.judge.Judgement.{Judgement}
use Rattle.tc_front.specs.declared.judge.Judgement.TheVariants as judgement
use Rattle.tc_front.specs.declared.judge.Refused.TheVariants.{Large}
use Rattle.tc_front.specs.declared.watch.Watch.{Watch}
use Rattle.tc_front.specs.Paths.{Texts, Named, posts_to, asks_for, shows_wall, tells_opening, path_of, same}
use Rattle.tc_front.specs.Fields.{Held, absent, single, several}
use Rattle.tc_front.specs.Judge.{JudgesQuestion, JudgesGet, JudgesLength, JudgesPost, JudgesBody, JudgesCoding, JudgesPath, Judges, asked_or_bad, bad, without_body}
use Rattle.tc_front.specs.Ends.{head_end, skip_ends, HasSearched}
use Rattle.tc_front.specs.Front.{Asked, refuses, asks, shows, tells, posts, Completes, IsDecidedAt, IsDecided, Waits, size_of, IsWantedAt, IsWanted}
use Rattle.tc_front.specs.Watch.{Watches}
use Rattle.tc_front.proofs.EndLemmas.{Stays, Within, head_end-append, head_end-within, searched_more}
use Rattle.tc_front.proofs.FrontLemmas.{end_within, front_more, one_judgement, opened, undecided}

-- ---- no body is larger than one may be

small_if : (large : Bool) (n : ℕ) (j a b : Judgement) → large ≡ nat_lt 65536 n → size_of a ≡ 0 → size_of b ≡ n → MatchBool large (j ≡ a) (j ≡ b) → size_of j ≤ 65536
small_if true n j a b is none some j_is = rw j_is (omega arith)
small_if false n j a b is none some j_is = let bound : n ≤ 65536 = grind (arith, nat_tests) in rw j_is (omega arith)

small_asked : (asked : Option Query) → size_of (asked_or_bad asked) ≡ 0
small_asked None = refl
small_asked (Some asked) = refl

small_question : (texts : Texts) (j : Judgement) → JudgesQuestion texts j → size_of j ≤ 65536
small_question texts j (asked, a, is) = rw is (omega (arith, small_asked asked))

small_bad : (j : Judgement) → j ≡ bad → size_of j ≤ 65536
small_bad j is = rw is (omega arith)

small_either : (b : Bool) (P : Type 0) (j : Judgement) → (P → size_of j ≤ 65536) → (k : Judgement) → size_of k ≡ 0 → MatchBool b P (j ≡ k) → size_of j ≤ 65536
small_either true P j small k none m = small m
small_either false P j small k none m = rw m (omega (arith, none))

small_if_same : (b : Bool) (asked : Judgement) → size_of asked ≤ 65536 → size_of (if b then asked else bad) ≤ 65536
small_if_same true asked small = small
small_if_same false asked small = omega arith

small_without : (lengths : Held) (asked : Judgement) → size_of asked ≤ 65536 → size_of (without_body lengths asked) ≤ 65536
small_without absent asked small = small
small_without (single value) asked small = small_if_same _ asked small
small_without several asked small = omega arith

small_get : (lengths : Held) (texts : Texts) (j : Judgement) → JudgesGet lengths texts j → size_of j ≤ 65536
small_get lengths texts j (asked, judged, is) = rw is (small_without lengths asked (small_question texts asked judged))

small_length : (value : List ℕ) (post : Post) (j : Judgement) → JudgesLength value post j → size_of j ≤ 65536
small_length value post j (inl x) = small_bad j x.1
small_length value post j (inr x) = small_if _ (digits_value 10 value) j _ _ refl refl refl x.1

small_post : (lengths : Held) (post : Post) (j : Judgement) → JudgesPost lengths post j → size_of j ≤ 65536
small_post absent post j judged = small_bad j judged
small_post (single value) post j judged = small_length value post j judged
small_post several post j judged = small_bad j judged

small_body : (lengths : Held) (named : Named) (j : Judgement) → JudgesBody lengths named j → size_of j ≤ 65536
small_body lengths (posts_to post) j judged = small_post lengths post j judged
small_body lengths (asks_for texts) j judged = small_get lengths texts j judged
small_body lengths shows_wall j judged = rw judged (small_without lengths judgement.ShowsWall (omega arith))
small_body lengths tells_opening j judged = rw judged (small_without lengths judgement.TellsOpening (omega arith))

small_coding : (coding lengths : Held) (named : Named) (j : Judgement) → JudgesCoding coding lengths named j → size_of j ≤ 65536
small_coding absent lengths named j judged = small_body lengths named j judged
small_coding (single value) lengths named j judged = small_bad j judged
small_coding several lengths named j judged = small_bad j judged

small_path : (method : List ℕ) (fields : List (List ℕ × List ℕ)) (path : Option Named) (j : Judgement) → JudgesPath method fields path j → size_of j ≤ 65536
small_path method fields None j judged = rw judged (omega arith)
small_path method fields (Some named) j judged = small_either _ _ j (small_coding _ _ named j) _ refl judged

pub small_judgement : (text : List ℕ) (j : Judgement) → Judges text j → size_of j ≤ 65536
small_judgement text j (inl (h, good, judged)) = small_path h.method (map name_and_value h.fields) (path_of h.target) j judged
small_judgement text j (inr x) = rw x.1 (omega arith)

-- ---- what is wanted is needed, and enough

pub unwrapped : (text : List ℕ) (wanted : ℕ) → IsWanted text wanted → IsWantedAt (head_end (take 8192 text)) text wanted
unfolding IsWanted
unwrapped text wanted is = is

completed : (j : Judgement) (rest : List ℕ) → size_of j ≤ length rest → (asked : Asked) × Completes j rest asked
completed (judgement.Refused refused) rest enough = (refuses refused, refl)
completed (judgement.Asks query) rest enough = (asks query, refl)
completed judgement.ShowsWall rest enough = (shows, refl)
completed judgement.TellsOpening rest enough = (tells, refl)
completed (judgement.Posts post size) rest enough = (posts post (take size rest), (enough, refl))

holds_body : (j : Judgement) (rest : List ℕ) (asked : Asked) → Completes j rest asked → size_of j ≤ length rest
holds_body (judgement.Refused refused) rest asked done = omega arith
holds_body (judgement.Asks query) rest asked done = omega arith
holds_body judgement.ShowsWall rest asked done = omega arith
holds_body judgement.TellsOpening rest asked done = omega arith
holds_body (judgement.Posts post size) rest asked done = done.0

enough_at : (found : Option ℕ) (text : List ℕ) (wanted : ℕ) → Within found (length text) → IsWantedAt found text wanted → wanted ≤ length text → (asked : Asked) × IsDecidedAt found text asked
enough_at None text wanted within is enough = (refuses Large, (omega arith, refl))
enough_at (Some end) text wanted within (j, judged, is) enough =
    let long : length (drop end text) ≡ length text - end = length-drop end text in
    let room : size_of j ≤ length (drop end text) = omega arith in
    let done : (asked : Asked) × Completes j (drop end text) asked = completed j (drop end text) room in
    (done.0, (j, judged, done.1))

-- Where as many bytes are there as are wanted, something is decided.
pub wanted_enough : (text : List ℕ) (wanted : ℕ) → IsWanted text wanted → wanted ≤ length text → (asked : Asked) × IsDecided text asked
unfolding IsDecided
wanted_enough text wanted is enough = enough_at (head_end (take 8192 text)) text wanted (end_within text) (unwrapped text wanted is) enough

most_at : (found : Option ℕ) (text : List ℕ) (wanted : ℕ) → Within found (length (take 8192 text)) → IsWantedAt found text wanted → wanted ≤ 73728
most_at None text wanted within is = omega arith
most_at (Some end) text wanted within (j, judged, is) =
    let cut : length (take 8192 text) ≡ min 8192 (length text) = length-take 8192 text in
    let small : size_of j ≤ 65536 = small_judgement (skip_ends (take end text)) j judged in
    omega arith

-- No more are wanted than a head and a body may have.
pub wanted_most : (text : List ℕ) (wanted : ℕ) → IsWanted text wanted → wanted ≤ 73728
wanted_most text wanted is = most_at (head_end (take 8192 text)) text wanted (head_end-within (take 8192 text)) (unwrapped text wanted is)

nothing : (xs : List ℕ) → length xs ≡ 0 → xs ≡ []
nothing [] none = refl
nothing (x ∷ xs) none = absurd (omega arith)

needed_at : (found now : Option ℕ) (text more : List ℕ) (wanted : ℕ) (asked : Asked) → Stays found now → (more ≡ [] → now ≡ found) → Within found (length text)
    → IsWantedAt found text wanted → length (text ++ more) < wanted → ¬ (IsDecidedAt now (text ++ more) asked)
needed_at None now text more wanted asked stays same within is few d =
    let long : length (text ++ more) ≡ length text + length more = length-append text more in
    let none : more ≡ [] = nothing more (omega arith) in
    let seen : IsDecidedAt None (text ++ more) asked = rw (same none) at d in
    omega (arith, seen.0)
needed_at (Some end) now text more wanted asked stays same within (j, judged, is) few d =
    let seen : IsDecidedAt (Some end) (text ++ more) asked = rw stays at d in
    let again : Judges (skip_ends (take end text)) seen.0 = rw (take-append-le end text more within) at seen.1 in
    let one : seen.0 ≡ j = one_judgement (skip_ends (take end text)) seen.0 j again judged in
    let size : size_of seen.0 ≤ length (drop end (text ++ more)) = holds_body seen.0 (drop end (text ++ more)) asked seen.2 in
    let sizes : size_of seen.0 ≡ size_of j = ap size_of one in
    let long : length (text ++ more) ≡ length text + length more = length-append text more in
    let rest : length (drop end (text ++ more)) ≡ length (text ++ more) - end = length-drop end (text ++ more) in
    omega arith

-- With fewer bytes than are wanted nothing is decided.
pub wanted_needed : (text more : List ℕ) (wanted : ℕ) → IsWanted text wanted → length (text ++ more) < wanted → Waits (text ++ more)
wanted_needed text more wanted is few = record {
  none = λ asked d.
      let (zs, cut, same) = front_more text more in
      needed_at (head_end (take 8192 text)) (head_end (take 8192 (text ++ more))) text more wanted asked (rw cut (head_end-append (take 8192 text) zs))
      (λ e. ap (λ xs. head_end (take 8192 (text ++ xs))) e ∙ ap (λ xs. head_end (take 8192 xs)) (append-nil text)) (end_within text) (unwrapped text wanted is) few (opened (text ++ more) asked d);
}

-- ---- for the code

pub wants_body : (found : Option ℕ) (end size wanted : ℕ) (j : Judgement) (text : List ℕ) → found ≡ head_end (take 8192 text) → found ≡ Some end
    → Judges (skip_ends (take end text)) j → size ≡ size_of j → wanted ≡ end + size → IsWanted text wanted
unfolding IsWanted
wants_body found end size wanted j text at is judged body sum = rw (sym at) (rw is (j, judged, omega arith))

pub wants_byte : (found : Option ℕ) (wanted : ℕ) (text : List ℕ) → found ≡ head_end (take 8192 text) → found ≡ None → wanted ≡ length (take 8192 text) + 1 → IsWanted text wanted
unfolding IsWanted
wants_byte found wanted text at is sum =
    let cut : length (take 8192 text) ≡ min 8192 (length text) = length-take 8192 text in
    rw (sym at) (rw is (omega arith))

-- ---- a text that is watched

-- no bytes decide nothing
pub waits_empty : (text : List ℕ) → text ≡ [] → Waits text
waits_empty text is = rw is (undecided None [] refl refl (omega arith))

-- Nothing is known but that at least one byte is wanted.
pub watches_nothing : (watch : Watch) (text : List ℕ) → HasSearched watch.search (take 8192 text) → watch.wanted ≡ 1 → Watches watch text
watches_nothing watch text searched one = record {
  searched = searched;
  needs = λ more few. waits_empty (text ++ more) (nothing (text ++ more) (omega arith));
  most = omega arith;
}

-- What is known of a text is known of a longer one.
pub watches_more : (watch : Watch) (text more : List ℕ) → Watches watch text → Watches watch (text ++ more)
watches_more watch text more watches = record {
  searched = let (zs, cut, same) = front_more text more in rw cut (searched_more watch.search (take 8192 text) zs watches.searched);
  needs = λ others few. rw (append_assoc text more others) (watches.needs (more ++ others) (rw (append_assoc text more others) at few));
  most = watches.most;
}

pub waits_now : (watch : Watch) (text : List ℕ) → Watches watch text → length text < watch.wanted → Waits text
waits_now watch text watches few = rw (append-nil text) at (watches.needs [] (rw (append-nil text) few))

-- it waits while it has fewer bytes than are wanted
pub waits_wanted : (text : List ℕ) (wanted : ℕ) → IsWanted text wanted → length text < wanted → Waits text
waits_wanted text wanted is few = rw (append-nil text) at (wanted_needed text [] wanted is (rw (append-nil text) few))

-- what is known once it is known how many are wanted
pub watches_wanted : (watch : Watch) (text : List ℕ) → HasSearched watch.search (take 8192 text) → IsWanted text watch.wanted → Watches watch text
watches_wanted watch text searched is = record {
  searched = searched;
  needs = λ more few. wanted_needed text more watch.wanted is few;
  most = wanted_most text watch.wanted is;
}

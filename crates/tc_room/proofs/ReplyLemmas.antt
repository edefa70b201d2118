-- The lines of a reply.
use Rattle.std.proofs.Common.{◌≡◌, ℕ, ◌+◌, ◌<◌, false, List, [], ◌∷◌, ◌++◌, length, get_or, take, refl, sym, subst}
use Rattle.std.proofs.lemmas.List.{take_more}
use Rattle.tc_report.proofs.TextLemmas.{lines-append}
use Rattle.tc_types.specs.declared.history.moves.Move.{Move}
use Rattle.tc_world.specs.declared.events.LinkIndication.{LinkIndication}
use Rattle.tc_book.specs.declared.firsts.First.{First as BookFirst}
use Rattle.tc_book.specs.declared.firsts.First.TheVariants as book_first
use Rattle.tc_desk.specs.declared.firsts.FirstLine.{FirstLine}
use Rattle.tc_desk.specs.declared.firsts.FirstLine.TheVariants as first
use Rattle.tc_desk.specs.Replies.{act_reply}
use Rattle.tc_room.specs.Replies.{AreLines, is_refused}

-- no LF is in the lines of one thing more
pub lines_more : {X : Type 0} (lines_of : List X → List (List ℕ)) → ((xs ys : List X) → lines_of (xs ++ ys) ≡ lines_of xs ++ lines_of ys)
    → (xs : List X) (i : ℕ) (x : X) → i < length xs → x ≡ get_or xs i x → AreLines (lines_of (take i xs)) → AreLines (lines_of (x ∷ [])) → AreLines (lines_of (take (i + 1) xs))
lines_more {X} lines_of joined xs i x low is before one =
    let all : lines_of (take (i + 1) xs) ≡ lines_of (take i xs) ++ lines_of (get_or xs i x ∷ []) = rw (take_more xs i x low) (joined (take i xs) (get_or xs i x ∷ [])) in
    subst AreLines (sym all) (lines-append (lines_of (take i xs)) (lines_of (get_or xs i x ∷ [])) before (subst (λ (y : X). AreLines (lines_of (y ∷ []))) is one))

-- the reply to an act that was done is no refusal
pub act_grants : (line : FirstLine) (said : List LinkIndication) (rows : List Move) → is_refused (act_reply line said rows) ≡ false
act_grants (first.Book given) said rows = book_grants given
  where
    book_grants : (given : BookFirst) → is_refused (act_reply (first.Book given) said rows) ≡ false
    book_grants book_first.Plain = refl
    book_grants (book_first.Entered n identity) = refl
    book_grants (book_first.Approvals given wanted) = refl
    book_grants (book_first.Loaded name many first) = refl
    book_grants (book_first.ProcedureLoaded name steps) = refl
    book_grants (book_first.Begun execution) = refl
act_grants first.Nothing said rows = refl
act_grants (first.Accepted n) said rows = refl
act_grants first.Discarded said rows = refl
act_grants first.Control said rows = refl
act_grants first.Lost said rows = refl
act_grants (first.Word word) said rows = refl
act_grants (first.Verified verification identity) said rows = refl
act_grants (first.Summarized enabled count) said rows = refl
act_grants (first.Worked identity) said rows = refl
act_grants (first.Now time) said rows = refl

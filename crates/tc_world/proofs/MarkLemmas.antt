-- One more mark.
use Rattle.std.proofs.Common.{◌≡◌, ℕ, ◌+◌, ◌==◌, ◌<◌, ◌≤◌, Bool, true, false, ◌||◌, List, [], ◌∷◌, ◌++◌, length, set, get_or, take, zero, suc, refl, sym, ◌∙◌, ap, subst, append-nil, append_assoc, arith}
use Rattle.std.specs.List.{list_any, flat_map}
use Rattle.std.proofs.lemmas.Grind.{flat_map-append}
use Rattle.std.proofs.lemmas.List.{take_more, take_all, get_or_past, get_or-set_same, get_or-set_other}
use Rattle.std.proofs.lemmas.List.Folds.{list_any-append}
use Rattle.tc_fop.specs.declared.signals.Indication.{Indication}
use Rattle.tc_fop.specs.Moves.{transmitted_by}
use Rattle.tc_fop.specs.Machine.{Out}
use Rattle.tc_fop.specs.Moves.{transmitted_in}
use Rattle.tc_world.specs.Logs.{Log, noted}
use Rattle.tc_world.specs.Pages.{Page}
use Rattle.tc_world.specs.Marks.{AreMarked}

or_true : (b : Bool) → (b || (true || false)) ≡ true
or_true true = refl
or_true false = refl

or_false : (b : Bool) → (b || (false || false)) ≡ b
or_false true = refl
or_false false = refl

-- a number is marked: it is the one, or another
marked_at : (requests : List ℕ) (marks : List Bool) (request n : ℕ) (same : Bool) → (request == n) ≡ same → request < length marks
    → AreMarked requests marks → list_any (λ (m : ℕ). m == n) (requests ++ request ∷ []) ≡ get_or (set marks request true) n false
marked_at requests marks request n true e within marked =
    let is : request ≡ n = grind arith in
    list_any-append (λ (m : ℕ). m == n) requests (request ∷ [])
    ∙ ap (λ (b : Bool). list_any (λ (m : ℕ). m == n) requests || (b || false)) e
    ∙ or_true (list_any (λ (m : ℕ). m == n) requests)
    ∙ sym (subst (λ (k : ℕ). get_or (set marks request true) k false ≡ true) is (get_or-set_same marks request true false within))
marked_at requests marks request n false e within marked =
    list_any-append (λ (m : ℕ). m == n) requests (request ∷ [])
    ∙ ap (λ (b : Bool). list_any (λ (m : ℕ). m == n) requests || (b || false)) e
    ∙ or_false (list_any (λ (m : ℕ). m == n) requests)
    ∙ marked.each n
    ∙ sym (get_or-set_other marks request n true false (λ is. grind arith))

pub marks_push : (requests : List ℕ) (marks : List Bool) (request : ℕ) → request < length marks → AreMarked requests marks
    → AreMarked (requests ++ request ∷ []) (set marks request true)
marks_push requests marks request within marked = record { each = λ n. marked_at requests marks request n (request == n) refl within marked }

pub marks_same : (requests : List ℕ) (marks : List Bool) → AreMarked requests marks → AreMarked (requests ++ []) marks
marks_same requests marks marked = subst (λ (l : List ℕ). AreMarked l marks) (sym (append-nil requests)) marked

-- one more mark that is not set
get_unset : (marks : List Bool) (n : ℕ) → get_or (marks ++ false ∷ []) n false ≡ get_or marks n false
get_unset [] zero = refl
get_unset [] (suc n) = refl
get_unset (first ∷ others) zero = refl
get_unset (first ∷ others) (suc n) = get_unset others n

pub marks_longer : (requests : List ℕ) (marks : List Bool) → AreMarked requests marks → AreMarked requests (marks ++ false ∷ [])
marks_longer requests marks marked = record { each = λ n. marked.each n ∙ sym (get_unset marks n) }

-- one more turn of a loop over the indications
pub marks_more : (requests : List ℕ) (marks : List Bool) (told : List Indication) (k : ℕ) (d : Indication) → k < length told
    → AreMarked ((requests ++ flat_map transmitted_by (take k told)) ++ transmitted_by (get_or told k d)) marks
    → AreMarked (requests ++ flat_map transmitted_by (take (k + 1) told)) marks
marks_more requests marks told k d within marked =
    subst (λ (l : List ℕ). AreMarked l marks)
    (append_assoc requests (flat_map transmitted_by (take k told)) (transmitted_by (get_or told k d))
    ∙ ap (λ (l : List ℕ). requests ++ (flat_map transmitted_by (take k told) ++ l)) (sym (append-nil (transmitted_by (get_or told k d))))
    ∙ ap (λ (l : List ℕ). requests ++ l)
    (sym (ap (λ (l : List Indication). flat_map transmitted_by l) (take_more told k d within)
    ∙ flat_map-append transmitted_by (take k told) (get_or told k d ∷ []))))
    marked

-- all of them
pub marks_all : (requests : List ℕ) (marks : List Bool) (told : List Indication) (k : ℕ) → length told ≤ k
    → AreMarked (requests ++ flat_map transmitted_by (take k told)) marks → AreMarked (requests ++ flat_map transmitted_by told) marks
marks_all requests marks told k all marked =
    subst (λ (l : List Indication). AreMarked (requests ++ flat_map transmitted_by l) marks) (take_all k told all) marked

-- past the marks nothing is marked
pub unmarked_past : (requests : List ℕ) (marks : List Bool) (request : ℕ) → length marks ≤ request → AreMarked requests marks
    → false ≡ list_any (λ (m : ℕ). m == request) requests
unmarked_past requests marks request past marked = sym (marked.each request ∙ get_or_past marks request false past)

-- what an output tells was written down
pub marks_noted : (earlier : List ℕ) (old new : Log) (out : Out) (marks : List Bool) → new ≡ noted out old
    → AreMarked ((earlier ++ old.sent) ++ flat_map transmitted_by out.indications) marks → AreMarked (earlier ++ new.sent) marks
marks_noted earlier old new out marks is marked =
    subst (λ (l : List ℕ). AreMarked l marks)
    (append_assoc earlier old.sent (transmitted_in out) ∙ ap (λ (log : Log). earlier ++ log.sent) (sym is)) marked

-- no request, no mark
pub marks_none : AreMarked [] []
marks_none = record { each = λ n. refl }

-- another session begins
pub marks_begun : (pages : List Page) (newest : Page) (sent : List ℕ) (marks : List Bool)
    → AreMarked ((flat_map (λ (page : Page). page.log.sent) pages ++ newest.log.sent) ++ sent) marks
    → AreMarked (flat_map (λ (page : Page). page.log.sent) (pages ++ newest ∷ []) ++ sent) marks
marks_begun pages newest sent marks marked =
    subst (λ (l : List ℕ). AreMarked (l ++ sent) marks)
    (ap (λ (l : List ℕ). flat_map (λ (page : Page). page.log.sent) pages ++ l) (sym (append-nil newest.log.sent))
    ∙ sym (flat_map-append (λ (page : Page). page.log.sent) pages (newest ∷ []))) marked

pub ruleset marks = (marks_push, marks_same)

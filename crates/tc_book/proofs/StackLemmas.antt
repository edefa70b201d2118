-- What is read of stacks, where a request is entered, and where a stack is approved.
use Rattle.std.proofs.Common.{◌≡◌, ℕ, ◌+◌, ◌<◌, Bool, true, false, ◌&&◌, ◌||◌, cond, if◌then◌else◌, Option, Some, None, List, [], ◌∷◌, ◌++◌, length, map, filter, take, drop, get_or, inl, inr, refl, sym, ◌∙◌, ap, subst, arith}
use Rattle.std.specs.Prelude.{◌⊎◌, IfSome}
use Rattle.std.specs.List.{AllByRecursion, IsDistinct, list_any, find}
use Rattle.std.specs.Option.{option_map, option_map_or, option_or}
use Rattle.std.specs.Cmp.Lexicographic.{bytes_decides}
use Rattle.std.proofs.lemmas.List.{append-nil, map-append, length-append, take_more, drop_more}
use Rattle.std.proofs.Common.{take-append-drop}
use Rattle.std.proofs.lemmas.List.Elements.{filter-append}
use Rattle.std.proofs.lemmas.List.Folds.{list_any-append, find-append}
use Rattle.std.proofs.lemmas.Bool.Decides.{nat_tests}
use Rattle.tc_types.specs.declared.requests.Request.{Request}
use Rattle.tc_types.specs.declared.requests.Origin.{Origin}
use Rattle.tc_types.specs.declared.tables.rows.StackApproval.{StackApproval}
use Rattle.tc_types.specs.Names.{is_same_name}
use Rattle.tc_types.specs.Tests.{first_refusal}
use Rattle.tc_stack.specs.Approvals.{ApprovalState, IsApproval, is_same_person, is_complete, approved, unapproved, refusal_of}
use Rattle.tc_stack.proofs.ApprovalLemmas.{neither, same_turned, unapproved_sound, unrefused_sound}
use Rattle.tc_types.proofs.RideLemmas.{each_appended}
use Rattle.tc_book.specs.Book.{Book}
use Rattle.tc_book.specs.Acts.{approval_tests, completes}
use Rattle.tc_book.specs.Stacks.{is_row_of, is_in_stack, has_critical_row, stack_approvers_of, stack_approval_at, with_stack_approval, is_stack_approved}
use Rattle.tc_book.proofs.ApprovalLemmas.{still_complete}

-- two names that are the same
pub same_name : (a b : List ℕ) → is_same_name a b ≡ true → a ≡ b
same_name a b is = (bytes_decides a b).0 is

pub name_itself : (a : List ℕ) → is_same_name a a ≡ true
name_itself a = (bytes_decides a a).1 refl

-- ---- one more request

critical_more : (name : List ℕ) (requests : List Request) (r : Request) → is_in_stack name r ≡ false → has_critical_row name (requests ++ r ∷ []) ≡ has_critical_row name requests
critical_more name requests r other =
    list_any-append (λ (x : Request). x.critical && is_in_stack name x) requests (r ∷ [])
    ∙ rw other (by_two (has_critical_row name requests) r.critical)
  where
    by_two : (a b : Bool) → (a || ((b && false) || false)) ≡ a
    by_two true b = refl
    by_two false true = refl
    by_two false false = refl

-- the approval of a stack, by the parts of a book that tell it
abbrev state_in : List Request → List StackApproval → List ℕ → Option ApprovalState
state_in requests approvals name =
    option_map (λ (r : Request). (let s : ApprovalState = record { author = r.author; critical = has_critical_row name requests; persons = stack_approvers_of approvals name } in s)) (find (is_in_stack name) requests)

-- a request that is no row of a stack leaves its approval
state_more : (requests : List Request) (approvals : List StackApproval) (r : Request) (name : List ℕ) → is_in_stack name r ≡ false
    → state_in (requests ++ r ∷ []) approvals name ≡ state_in requests approvals name
state_more requests approvals r name other =
    rw (critical_more name requests r other, find-append (is_in_stack name) requests (r ∷ []), other) (by_found (find (is_in_stack name) requests))
  where
    told : Request → ApprovalState
    told x = record { author = x.author; critical = has_critical_row name requests; persons = stack_approvers_of approvals name }

    by_found : (found : Option Request) → option_map told (option_or found None) ≡ option_map told found
    by_found None = refl
    by_found (Some x) = refl

-- an approval that nobody gave is as it can be, and is not complete
state_sound : (requests : List Request) (approvals : List StackApproval) (name : List ℕ) → stack_approvers_of approvals name ≡ [] → IfSome (state_in requests approvals name) IsApproval
state_sound requests approvals name none = by_found (find (is_in_stack name) requests)
  where
    told : Request → ApprovalState
    told x = record { author = x.author; critical = has_critical_row name requests; persons = stack_approvers_of approvals name }

    by_found : (found : Option Request) → IfSome (option_map told found) IsApproval
    by_found None = tt
    by_found (Some x) = rw none (unapproved_sound x.author (has_critical_row name requests))

state_open : (requests : List Request) (approvals : List StackApproval) (name : List ℕ) → stack_approvers_of approvals name ≡ [] → option_map_or is_complete (state_in requests approvals name) false ≡ false
state_open requests approvals name none = by_found (find (is_in_stack name) requests)
  where
    told : Request → ApprovalState
    told x = record { author = x.author; critical = has_critical_row name requests; persons = stack_approvers_of approvals name }

    wants : (author : List ℕ) (critical : Bool) → is_complete (unapproved author critical) ≡ false
    wants author true = refl
    wants author false = refl

    by_found : (found : Option Request) → option_map_or is_complete (option_map told found) false ≡ false
    by_found None = refl
    by_found (Some x) = rw none (wants x.author (has_critical_row name requests))

-- a row of a stack that nobody approved so far leaves the approvals of all others
state_entered : (requests : List Request) (approvals : List StackApproval) (r : Request) (name : List ℕ) → IfSome r.origin (λ (o : Origin). stack_approvers_of approvals o.stack ≡ [])
    → (state_in (requests ++ r ∷ []) approvals name ≡ state_in requests approvals name) ⊎ (stack_approvers_of approvals name ≡ [])
state_entered requests approvals r name fresh = by_origin r.origin refl fresh
  where
    by_name : (o : Origin) (t : Bool) → r.origin ≡ Some o → is_same_name o.stack name ≡ t → stack_approvers_of approvals o.stack ≡ []
        → (state_in (requests ++ r ∷ []) approvals name ≡ state_in requests approvals name) ⊎ (stack_approvers_of approvals name ≡ [])
    by_name o true from is none = inr (subst (λ n. stack_approvers_of approvals n ≡ []) (same_name o.stack name is) none)
    by_name o false from is none = inl (state_more requests approvals r name (ap (is_row_of name) from ∙ is))

    by_origin : (origin : Option Origin) → r.origin ≡ origin → IfSome origin (λ (o : Origin). stack_approvers_of approvals o.stack ≡ [])
        → (state_in (requests ++ r ∷ []) approvals name ≡ state_in requests approvals name) ⊎ (stack_approvers_of approvals name ≡ [])
    by_origin None from none = inl (state_more requests approvals r name (ap (is_row_of name) from))
    by_origin (Some o) from none = by_name o (is_same_name o.stack name) from refl none

-- the approvals of stacks are as they can be, after an entry
pub stacks_entered : (requests : List Request) (approvals : List StackApproval) (r : Request) → IfSome r.origin (λ (o : Origin). stack_approvers_of approvals o.stack ≡ [])
    → (given : List StackApproval) → AllByRecursion (λ (a : StackApproval). IfSome (state_in requests approvals a.stack) IsApproval) given
    → AllByRecursion (λ (a : StackApproval). IfSome (state_in (requests ++ r ∷ []) approvals a.stack) IsApproval) given
stacks_entered requests approvals r fresh [] all = tt
stacks_entered requests approvals r fresh (a ∷ given) all = (
  elim (state_entered requests approvals r a.stack fresh) [
    | inl same ↦ subst (λ s. IfSome s IsApproval) (sym same) all.0
    | inr none ↦ state_sound (requests ++ r ∷ []) approvals a.stack none
  ],
  stacks_entered requests approvals r fresh given all.1,
)

-- a stack that is fully approved stays so, after an entry
pub approved_entered : (requests : List Request) (approvals : List StackApproval) (r : Request) (name : List ℕ) → IfSome r.origin (λ (o : Origin). stack_approvers_of approvals o.stack ≡ [])
    → option_map_or is_complete (state_in requests approvals name) false ≡ true → option_map_or is_complete (state_in (requests ++ r ∷ []) approvals name) false ≡ true
approved_entered requests approvals r name fresh full =
    elim (state_entered requests approvals r name fresh) [
      | inl same ↦ ap (λ s. option_map_or is_complete s false) same ∙ full
      | inr none ↦ let never : false ≡ true = sym (state_open requests approvals name none) ∙ full in cc
    ]

-- ---- one more approval

abbrev pub given_to : List ℕ → List ℕ → StackApproval
given_to name person = record { stack = name; person = person }

approvers_more : (approvals : List StackApproval) (name whose person : List ℕ)
    → stack_approvers_of (approvals ++ given_to name person ∷ []) whose ≡ stack_approvers_of approvals whose ++ (if is_same_name name whose then person ∷ [] else [])
approvers_more approvals name whose person =
    ap (map (λ (a : StackApproval). a.person)) (filter-append (λ (a : StackApproval). is_same_name a.stack whose) approvals (given_to name person ∷ []))
    ∙ map-append (λ (a : StackApproval). a.person) (filter (λ (a : StackApproval). is_same_name a.stack whose) approvals) (filter (λ (a : StackApproval). is_same_name a.stack whose) (given_to name person ∷ []))
    ∙ by_test (is_same_name name whose)
  where
    by_test : (t : Bool) → stack_approvers_of approvals whose ++ map (λ (a : StackApproval). a.person) (cond t (given_to name person ∷ []) []) ≡ stack_approvers_of approvals whose ++ (if t then person ∷ [] else [])
    by_test true = refl
    by_test false = refl

-- what one approval more makes of the approval of its stack, and of any other
state_given : (requests : List Request) (approvals : List StackApproval) (name whose person : List ℕ)
    → state_in requests (approvals ++ given_to name person ∷ []) whose ≡ (if is_same_name name whose then option_map (approved person) (state_in requests approvals whose) else state_in requests approvals whose)
state_given requests approvals name whose person = rw (approvers_more approvals name whose person) (by_test (is_same_name name whose) (find (is_in_stack whose) requests))
  where
    told : List (List ℕ) → Request → ApprovalState
    told persons x = record { author = x.author; critical = has_critical_row whose requests; persons = persons }

    by_test : (t : Bool) (found : Option Request)
        → option_map (told (stack_approvers_of approvals whose ++ (if t then person ∷ [] else []))) found
        ≡ (if t then option_map (approved person) (option_map (told (stack_approvers_of approvals whose)) found) else option_map (told (stack_approvers_of approvals whose)) found)
    by_test true None = refl
    by_test true (Some x) = refl
    by_test false None = refl
    by_test false (Some x) = ap (λ l. Some (told l x)) (append-nil (stack_approvers_of approvals whose))

-- the approval of each stack is as it can be, where it is so of each that somebody approved
pub state_any : (requests : List Request) (approvals : List StackApproval) (name : List ℕ) → AllByRecursion (λ (a : StackApproval). IfSome (state_in requests approvals a.stack) IsApproval) approvals
    → IfSome (state_in requests approvals name) IsApproval
state_any requests approvals name all =
    elim (among approvals all) [
      | inl sound ↦ sound
      | inr none ↦ state_sound requests approvals name none
    ]
  where
    among : (given : List StackApproval) → AllByRecursion (λ (a : StackApproval). IfSome (state_in requests approvals a.stack) IsApproval) given
        → IfSome (state_in requests approvals name) IsApproval ⊎ (stack_approvers_of given name ≡ [])
    among [] each = inr refl
    among (a ∷ given) each = by_name (is_same_name a.stack name) refl (among given each.1)
      where
        by_name : (t : Bool) → is_same_name a.stack name ≡ t → IfSome (state_in requests approvals name) IsApproval ⊎ (stack_approvers_of given name ≡ [])
            → IfSome (state_in requests approvals name) IsApproval ⊎ (stack_approvers_of (a ∷ given) name ≡ [])
        by_name true is others = inl (subst (λ n. IfSome (state_in requests approvals n) IsApproval) (same_name a.stack name is) each.0)
        by_name false is (inl sound) = inl sound
        by_name false is (inr none) = inr (rw is none)

-- who may approve leaves an approval as it can be
sound_given : (s : Option ApprovalState) (person : List ℕ) → IfSome s IsApproval → first_refusal (approval_tests person s) ≡ None → IfSome (option_map (approved person) s) IsApproval
sound_given None person sound may = tt
sound_given (Some s) person sound may = unrefused_sound s person sound may

-- the approvals of stacks are as they can be, after one that no test refuses
pub stacks_given : (requests : List Request) (approvals : List StackApproval) (name person : List ℕ) → first_refusal (approval_tests person (state_in requests approvals name)) ≡ None
    → AllByRecursion (λ (a : StackApproval). IfSome (state_in requests approvals a.stack) IsApproval) approvals
    → AllByRecursion (λ (a : StackApproval). IfSome (state_in requests (approvals ++ given_to name person ∷ []) a.stack) IsApproval) (approvals ++ given_to name person ∷ [])
stacks_given requests approvals name person may all = each_appended (λ (a : StackApproval). IfSome (state_in requests (approvals ++ given_to name person ∷ []) a.stack) IsApproval) approvals (given_to name person) (each approvals) (one name)
  where
    by_name : (whose : List ℕ) (t : Bool) → is_same_name name whose ≡ t
        → IfSome (if t then option_map (approved person) (state_in requests approvals whose) else state_in requests approvals whose) IsApproval
    by_name whose true is =
        sound_given (state_in requests approvals whose) person (state_any requests approvals whose all)
        (subst (λ n. first_refusal (approval_tests person (state_in requests approvals n)) ≡ None) (same_name name whose is) may)
    by_name whose false is = state_any requests approvals whose all

    one : (whose : List ℕ) → IfSome (state_in requests (approvals ++ given_to name person ∷ []) whose) IsApproval
    one whose = subst (λ s. IfSome s IsApproval) (sym (state_given requests approvals name whose person)) (by_name whose (is_same_name name whose) refl)

    each : (given : List StackApproval) → AllByRecursion (λ (a : StackApproval). IfSome (state_in requests (approvals ++ given_to name person ∷ []) a.stack) IsApproval) given
    each [] = tt
    each (a ∷ given) = (one a.stack, each given)

-- a complete approval stays complete with one more, if there is one
still_full : (s : Option ApprovalState) (person : List ℕ) → option_map_or is_complete s false ≡ true → option_map_or is_complete (option_map (approved person) s) false ≡ true
still_full None person full = full
still_full (Some s) person full = still_complete s person full

-- a stack that is fully approved stays so, after one approval more
pub approved_given : (requests : List Request) (approvals : List StackApproval) (name whose person : List ℕ) → option_map_or is_complete (state_in requests approvals whose) false ≡ true
    → option_map_or is_complete (state_in requests (approvals ++ given_to name person ∷ []) whose) false ≡ true
approved_given requests approvals name whose person full = ap (λ s. option_map_or is_complete s false) (state_given requests approvals name whose person) ∙ by_test (is_same_name name whose)
  where
    by_test : (t : Bool) → option_map_or is_complete (if t then option_map (approved person) (state_in requests approvals whose) else state_in requests approvals whose) false ≡ true
    by_test true = still_full (state_in requests approvals whose) person full
    by_test false = full

-- the last approval that is wanted approves the stack
pub completed : (book : Book) (name person : List ℕ) → completes person (stack_approval_at book name) ≡ true → is_stack_approved (with_stack_approval book name person) name ≡ true
completed book name person last =
    ap (λ s. option_map_or is_complete s false) (state_given book.requests book.stack_approvals name name person ∙ ap (λ t. if t then option_map (approved person) (stack_approval_at book name) else stack_approval_at book name) (name_itself name))
    ∙ by_state (stack_approval_at book name) last
  where
    by_state : (s : Option ApprovalState) → completes person s ≡ true → option_map_or is_complete (option_map (approved person) s) false ≡ true
    by_state None h = h
    by_state (Some s) h = h

-- ---- one after the other

-- the approvals of a stack, added one by one: none is refused
pub next_may : (author : List ℕ) (critical : Bool) (before : List (List ℕ)) (person : List ℕ) (behind : List (List ℕ))
    → IsApproval (record { author = author; critical = critical; persons = before ++ person ∷ behind }) → refusal_of person (record { author = author; critical = critical; persons = before }) ≡ None
unfolding IsDistinct
next_may author critical before person behind sound =
    rw (not_author, not_before, still_open) refl
  where
    here : (test : List ℕ → Bool) (xs : List (List ℕ)) → list_any test (xs ++ person ∷ behind) ≡ false → test person ≡ false
    here test [] none = (neither (test person) (list_any test behind) none).0
    here test (x ∷ xs) none = here test xs (neither (test x) (list_any test (xs ++ person ∷ behind)) none).1

    not_author : is_same_person author person ≡ false
    not_author = here (is_same_person author) before sound.others

    apart : (xs : List (List ℕ)) → IsDistinct is_same_person (xs ++ person ∷ behind) → list_any (is_same_person person) xs ≡ false
    apart [] distinct = refl
    apart (x ∷ xs) distinct =
        let other : is_same_person x person ≡ false = later xs distinct.0 in
        rw (same_turned person x ∙ other) (apart xs distinct.1)
      where
        later : (ys : List (List ℕ)) → AllByRecursion (λ y. is_same_person x y ≡ false) (ys ++ person ∷ behind) → is_same_person x person ≡ false
        later [] all = all.0
        later (y ∷ ys) all = later ys all.1

    not_before : list_any (is_same_person person) before ≡ false
    not_before = apart before sound.apart

    still_open : is_complete (record { author = author; critical = critical; persons = before }) ≡ false
    still_open =
        let len = length-append before (person ∷ behind) in
        let few = sound.few in
        let less : length before < (if critical then 2 else 1) = omega (arith, len, few) in
        grind (arith, nat_tests, less)

-- one approval more of a list
pub approvers_next : (approvals : List StackApproval) (i : ℕ) (a : StackApproval) (name : List ℕ) → i < length approvals → a ≡ get_or approvals i a
    → stack_approvers_of (take (i + 1) approvals) name ≡ stack_approvers_of (take i approvals) name ++ (if is_same_name a.stack name then a.person ∷ [] else [])
approvers_next approvals i a name low is =
    ap (λ l. stack_approvers_of l name) (take_more approvals i a low ∙ ap (λ x. take i approvals ++ x ∷ []) (sym is))
    ∙ ap (map (λ (x : StackApproval). x.person)) (filter-append (λ (x : StackApproval). is_same_name x.stack name) (take i approvals) (a ∷ []))
    ∙ map-append (λ (x : StackApproval). x.person) (filter (λ (x : StackApproval). is_same_name x.stack name) (take i approvals)) (filter (λ (x : StackApproval). is_same_name x.stack name) (a ∷ []))
    ∙ by_test (is_same_name a.stack name)
  where
    by_test : (t : Bool) → stack_approvers_of (take i approvals) name ++ map (λ (x : StackApproval). x.person) (cond t (a ∷ []) []) ≡ stack_approvers_of (take i approvals) name ++ (if t then a.person ∷ [] else [])
    by_test true = refl
    by_test false = refl

-- and what stands behind it
approvers_append : (xs ys : List StackApproval) (name : List ℕ) → stack_approvers_of (xs ++ ys) name ≡ stack_approvers_of xs name ++ stack_approvers_of ys name
approvers_append xs ys name =
    ap (map (λ (x : StackApproval). x.person)) (filter-append (λ (x : StackApproval). is_same_name x.stack name) xs ys)
    ∙ map-append (λ (x : StackApproval). x.person) (filter (λ (x : StackApproval). is_same_name x.stack name) xs) (filter (λ (x : StackApproval). is_same_name x.stack name) ys)

pub approvers_split : (approvals : List StackApproval) (i : ℕ) (a : StackApproval) (name : List ℕ) → i < length approvals → a ≡ get_or approvals i a → is_same_name a.stack name ≡ true
    → stack_approvers_of approvals name ≡ stack_approvers_of (take i approvals) name ++ a.person ∷ stack_approvers_of (drop (i + 1) approvals) name
approvers_split approvals i a name low is same =
    ap (λ l. stack_approvers_of l name) (sym (take-append-drop i approvals))
    ∙ approvers_append (take i approvals) (drop i approvals) name
    ∙ ap (λ l. stack_approvers_of (take i approvals) name ++ stack_approvers_of l name) (drop_more approvals i a low ∙ ap (λ x. x ∷ drop (i + 1) approvals) (sym is))
    ∙ ap (λ t. stack_approvers_of (take i approvals) name ++ map (λ (x : StackApproval). x.person) (cond t (a ∷ filter (λ (x : StackApproval). is_same_name x.stack name) (drop (i + 1) approvals)) (filter (λ (x : StackApproval). is_same_name x.stack name) (drop (i + 1) approvals)))) same

-- the approval of a stack that is found
pub approval_found : (requests : List Request) (approvals : List StackApproval) (name : List ℕ) (r : Request) → AllByRecursion (λ (a : StackApproval). IfSome (state_in requests approvals a.stack) IsApproval) approvals
    → find (is_in_stack name) requests ≡ Some r → IsApproval (record { author = r.author; critical = has_critical_row name requests; persons = stack_approvers_of approvals name })
approval_found requests approvals name r all found = subst (λ at. IfSome (option_map told at) IsApproval) found (state_any requests approvals name all)
  where
    told : Request → ApprovalState
    told x = record { author = x.author; critical = has_critical_row name requests; persons = stack_approvers_of approvals name }

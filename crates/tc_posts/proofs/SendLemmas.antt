-- Lines that are sent one after the other.
use Rattle.std.proofs.Common.{◌≡◌, ◌+◌, ◌<◌, ℕ, Bool, true, false, List, [], ◌∷◌, ◌++◌, append_assoc, append-nil, ap, get_or, length, map, refl, subst, sym, take, ◌∙◌}
use Rattle.std.proofs.lemmas.List.{get_or-map, length-map, take_more}
use Rattle.std.specs.Prelude.{◌||◌}
use Rattle.tc_posts.specs.declared.numbered.NumberedLine.{NumberedLine}
use Rattle.tc_posts.specs.Numbered.{shown}
use Rattle.tc_posts.specs.Sending.{AreSent, IsSent, Sends, SendsAll}
use Rattle.tc_posts.specs.Steps.{Line, Step, answered, is_refusal, placed, refuses, said, sent}
use Rattle.tc_posts.specs.Used.{AreAsked, IsAsked}

or_assoc : (a b c : Bool) → (a || (b || c)) ≡ ((a || b) || c)
or_assoc true b c = refl
or_assoc false b c = refl

pub refuses_both : (first rest : List Step) → refuses (first ++ rest) ≡ (refuses first || refuses rest)
refuses_both [] rest = refl
refuses_both (sent request response ∷ steps) rest = refuses_both steps rest
refuses_both (said used ∷ steps) rest = refuses_both steps rest
refuses_both (answered line answer ∷ steps) rest =
    ap (λ (b : Bool). is_refusal answer || b) (refuses_both steps rest) ∙ or_assoc (is_refusal answer) (refuses steps) (refuses rest)
refuses_both (placed answer ∷ steps) rest =
    ap (λ (b : Bool). is_refusal answer || b) (refuses_both steps rest) ∙ or_assoc (is_refusal answer) (refuses steps) (refuses rest)

-- one line more
pub sent_more : (port : ℕ) (lines : List Line) (line : Line) (steps last : List Step) → AreSent port lines steps → IsSent port line last
    → AreSent port (lines ++ line ∷ []) (steps ++ last)
sent_more port [] line steps last are is = (last, [], ap (λ (l : List Step). l ++ last) are ∙ sym (append-nil last), is, refl)
sent_more port (other ∷ lines) line steps last are is =
    (are.0, are.1 ++ last, ap (λ (l : List Step). l ++ last) are.2 ∙ append_assoc are.0 are.1 last, are.3, sent_more port lines line are.1 last are.4 is)

pub or_false : (b : Bool) → b ≡ (b || false)
or_false true = refl
or_false false = refl

pub refused_both : (one other : Bool) (first rest : List Step) → one ≡ refuses first → other ≡ refuses rest → (one || other) ≡ refuses (first ++ rest)
refused_both one other first rest here there =
    ap (λ (b : Bool). b || other) here ∙ ap (λ (b : Bool). refuses first || b) there ∙ sym (refuses_both first rest)

-- the next line
pub sent_next : (port : ℕ) (lines : List NumberedLine) (i : ℕ) (d : NumberedLine) (steps last : List Step) → i < length lines
    → AreSent port (take i (map shown lines)) steps → IsSent port (shown (get_or lines i d)) last → AreSent port (take (i + 1) (map shown lines)) (steps ++ last)
sent_next port lines i d steps last low are is =
    let long : i < length (map shown lines) = subst (λ (n : ℕ). i < n) (sym (length-map lines shown)) low in
    let parts : take (i + 1) (map shown lines) ≡ take i (map shown lines) ++ shown (get_or lines i d) ∷ [] =
    take_more (map shown lines) i (shown d) long ∙ ap (λ (y : Line). take i (map shown lines) ++ y ∷ []) (get_or-map shown lines i d (shown d) low) in
    subst (λ (l : List Line). AreSent port l (steps ++ last)) (sym parts) (sent_more port (take i (map shown lines)) (shown (get_or lines i d)) steps last are is)

-- one line more is asked for
pub asked_more : (port : ℕ) (lines : List Line) (line : Line) (steps last : List Step) (used here : List ℕ) → AreAsked port lines steps used → IsAsked port line last here
    → AreAsked port (lines ++ line ∷ []) (steps ++ last) (used ++ here)
asked_more port [] line steps last used here are is =
    (last, [], here, [], ap (λ (l : List Step). l ++ last) are.0 ∙ sym (append-nil last), ap (λ (l : List ℕ). l ++ here) are.1 ∙ sym (append-nil here), is, (refl, refl))
asked_more port (other ∷ lines) line steps last used here are is = (
  are.0,
  are.1 ++ last,
  are.2,
  are.3 ++ here,
  ap (λ (l : List Step). l ++ last) are.4 ∙ append_assoc are.0 are.1 last,
  ap (λ (l : List ℕ). l ++ here) are.5 ∙ append_assoc are.2 are.3 here,
  are.6,
  asked_more port lines line are.1 last are.3 here are.7 is,
)

-- the next line is
pub asked_next : (port : ℕ) (lines : List NumberedLine) (i : ℕ) (d : NumberedLine) (steps last : List Step) (used here : List ℕ) → i < length lines
    → AreAsked port (take i (map shown lines)) steps used → IsAsked port (shown (get_or lines i d)) last here
    → AreAsked port (take (i + 1) (map shown lines)) (steps ++ last) (used ++ here)
asked_next port lines i d steps last used here low are is =
    let long : i < length (map shown lines) = subst (λ (n : ℕ). i < n) (sym (length-map lines shown)) low in
    let parts : take (i + 1) (map shown lines) ≡ take i (map shown lines) ++ shown (get_or lines i d) ∷ [] =
    take_more (map shown lines) i (shown d) long ∙ ap (λ (y : Line). take i (map shown lines) ++ y ∷ []) (get_or-map shown lines i d (shown d) low) in
    subst (λ (l : List Line). AreAsked port l (steps ++ last) (used ++ here)) (sym parts) (asked_more port (take i (map shown lines)) (shown (get_or lines i d)) steps last used here are is)

-- what is done where no number is used, where one is and all have to be new, and where they need not be
pub sends_new : (only_new : Bool) (port : ℕ) (lines : List Line) (used : List ℕ) (steps : List Step) (refused : Bool) → used ≡ [] → SendsAll port lines steps refused
    → Sends only_new port lines used steps refused
sends_new only_new port lines [] steps refused none sends = sends
sends_new only_new port lines (one ∷ others) steps refused none sends = let gone : (one ∷ others) ≡ [] = none in absurd cc

pub sends_nothing : (only_new : Bool) (port : ℕ) (lines : List Line) (used : List ℕ) → ¬ (used ≡ []) → only_new ≡ true → Sends only_new port lines used (said used ∷ []) true
sends_nothing only_new port lines [] some is = absurd (some refl)
sends_nothing true port lines (one ∷ others) some is = (refl, refl)
sends_nothing false port lines (one ∷ others) some is = let gone : false ≡ true = is in absurd cc

pub sends_used : (only_new : Bool) (port : ℕ) (lines : List Line) (used : List ℕ) (rest : List Step) (refused : Bool) → ¬ (used ≡ []) → only_new ≡ false
    → SendsAll port lines rest refused → Sends only_new port lines used (said used ∷ rest) refused
sends_used only_new port lines [] rest refused some is sends = absurd (some refl)
sends_used true port lines (one ∷ others) rest refused some is sends = let gone : true ≡ false = is in absurd cc
sends_used false port lines (one ∷ others) rest refused some is sends = (rest, refl, sends)

-- The lines of a script, told one after the other.
use Rattle.std.proofs.Common.{◌≡◌, ◌∙◌, inl, inr, ℕ, ◌+◌, Option, Some, None, Result, Ok, Err, List, [], ◌∷◌, ◌++◌, length, refl, sym, ap, subst, append_assoc, arith}
use Rattle.std.specs.Prelude.{IsOkAnd, ◌↔◌, option_to_list}
use Rattle.std.proofs.lemmas.List.{append-nil}
use Rattle.tc_types.specs.ActGrammar.{HasLongAct}
use Rattle.tc_types.specs.Loads.{LoadLine, SpellsLoad, line_of}
use Rattle.tc_types.specs.declared.loads.Load.{Load}
use Rattle.tc_types.specs.declared.refusals.Refusal.{Refusal}
use Rattle.tc_types.specs.declared.refusals.Refusal.TheVariants.{TooLong}
use Rattle.tc_check.specs.declared.findings.Findings.{Findings}
use Rattle.tc_check.specs.Findings.{Shows}
use Rattle.tc_check.specs.Scripts.{IsLoadLine, SaysOfFile, SaysOfLine, SaysOfLines, SaysSeen, back_line, back_lines_from, latest_with}
use Rattle.tc_check.specs.Sources.{Gives, Seen, seen_at}
use Rattle.tc_check.proofs.FindingLemmas.{ShowsFront, front_all, front_more, front_none}

-- ---- what was seen

pub gives_none : (p : Option (List Seen)) → Gives p p []
gives_none None = tt
gives_none (Some all) = sym (append-nil all)

gives_more : (a b c : Option (List Seen)) (xs ys : List Seen) → Gives a b xs → Gives b c ys → Gives a c (xs ++ ys)
gives_more None b c xs ys first second = tt
gives_more (Some a) None c xs ys first second = absurd first
gives_more (Some a) (Some b) None xs ys first second = absurd second
gives_more (Some a) (Some b) (Some c) xs ys first second = second ∙ ap (λ (l : List Seen). l ++ ys) first ∙ append_assoc a xs ys

-- ---- a line

-- a line that loads something has no long act
loads_short : (line : List ℕ) (read : Result Load Refusal) (load : Load) → read ≡ Ok load → ((read ≡ Err TooLong) ↔ HasLongAct line) → ¬ HasLongAct line
loads_short line read load was long has = let e : read ≡ Err TooLong = long.1 has in cc

-- a line that is not read as one loads nothing
loads_nothing : (line : List ℕ) (read : Result Load Refusal) (refusal : Refusal) → read ≡ Err refusal
    → ((load : LoadLine) → SpellsLoad line load → (¬ HasLongAct line) → IsOkAnd read (λ (l : Load). line_of l ≡ load)) → (load : LoadLine) → ¬ IsLoadLine line load
loads_nothing line read refusal was only load is = subst (λ (r : Result Load Refusal). IsOkAnd r (λ (l : Load). line_of l ≡ load)) was (only load is.0 is.1)

-- it has a fault
pub seen_wrong : (number : ℕ) (line wrong : List ℕ) (p : Option (List Seen)) → SaysOfLine number line (Some wrong) → SaysSeen number line p p (Some wrong)
seen_wrong number line wrong p says = ([], inl (refl, wrong, says, refl), gives_none p)

-- it loads nothing
pub seen_nothing : (number : ℕ) (line : List ℕ) (p : Option (List Seen)) (read : Result Load Refusal) (refusal : Refusal) → SaysOfLine number line None → read ≡ Err refusal
    → ((load : LoadLine) → SpellsLoad line load → (¬ HasLongAct line) → IsOkAnd read (λ (l : Load). line_of l ≡ load)) → SaysSeen number line p p None
seen_nothing number line p read refusal says was only = ([], inr (inl (refl, says, loads_nothing line read refusal was only, refl)), gives_none p)

-- it loads a file
pub seen_file : (number : ℕ) (line : List ℕ) (gave gives : Option (List Seen)) (read : Result Load Refusal) (load : Load) (told : Option (List ℕ)) → SaysOfLine number line None → read ≡ Ok load
    → SpellsLoad line (line_of load) → ((read ≡ Err TooLong) ↔ HasLongAct line)
    → (text : Option (List ℕ)) × Gives gave gives (seen_at load.path.now text ∷ []) × SaysOfFile number load.kind load.path.now text told → SaysSeen number line gave gives told
seen_file number line gave gives read load told says was spells long (text, given, file) =
    (seen_at load.path.now text ∷ [], inr (inr (line_of load, text, says, (spells, loads_short line read load was long), refl, file)), given)

-- ---- all of them

-- the lines from this number on are left, and what is told of those before is kept
pub record ToldSoFar (number : ℕ) (left all : List (List ℕ)) (gave gives : Option (List Seen)) (kept : Findings) : Type 0 where
  pub files : List Seen
  pub found : List (List ℕ)
  pub given : Gives gave gives files
  pub shows : Shows found kept
  pub goes_on : (more : List Seen) (others : List (List ℕ)) → SaysOfLines number left more others → SaysOfLines 1 all (files ++ more) (found ++ others)
  pub count : number + length left ≡ 1 + length all

pub told_none : (left all : List (List ℕ)) (p : Option (List Seen)) (kept : Findings) → left ≡ all → Shows [] kept → ToldSoFar 1 left all p p kept
told_none left all p kept is shows = rw is (record { files = []; found = []; given = gives_none p; shows = shows; goes_on = λ more others says. says; count = refl })

-- a line more
pub told_next : (number : ℕ) (line : List ℕ) (left others all : List (List ℕ)) (gave so_far gives : Option (List Seen)) (told : Option (List ℕ)) (old new : Findings)
    → ToldSoFar number left all gave so_far old → left ≡ line ∷ others → SaysSeen number line so_far gives told
    → ((found : List (List ℕ)) → Shows found old → Shows (found ++ option_to_list told) new) → ToldSoFar (number + 1) others all gave gives new
told_next number line left others all gave so_far gives told old new so is (first, says, given) adds = record {
  files = so.files ++ first;
  found = so.found ++ option_to_list told;
  given = gives_more gave so_far gives so.files first so.given given;
  shows = adds so.found so.shows;
  goes_on = λ more later rest.
      let whole : SaysOfLines number left (first ++ more) (option_to_list told ++ later) = rw is (first, more, told, later, says, rest, refl, refl) in
      rw (append_assoc so.files first more, append_assoc so.found (option_to_list told) later) (so.goes_on (first ++ more) (option_to_list told ++ later) whole);
  count = let before : number + length (line ∷ others) ≡ 1 + length all = rw is at so.count in omega (arith, before);
}

pub told_all : (number : ℕ) (left all : List (List ℕ)) (gave gives : Option (List Seen)) (kept : Findings) → ToldSoFar number left all gave gives kept → left ≡ []
    → (files : List Seen) × (lines : List (List ℕ)) × SaysOfLines 1 all files lines × Gives gave gives files × Shows lines kept
told_all number left all gave gives kept so none =
    let whole : SaysOfLines number left [] [] = rw none (refl, refl) in (
      so.files,
      so.found,
      subst (λ (files : List Seen). SaysOfLines 1 all files so.found) (append-nil so.files)
          (subst (λ (lines : List (List ℕ)). SaysOfLines 1 all (so.files ++ []) lines) (append-nil so.found) (so.goes_on [] [] whole)),
      so.given,
      so.shows,
    )

-- ---- lines that go back

-- the lines from this number on are left, and those that go back before them are kept
pub record BackSoFar (number : ℕ) (latest : List ℕ) (left all : List (List ℕ)) (kept : Findings) : Type 0 where
  pub front : ShowsFront (back_lines_from 1 [] all) (back_lines_from number latest left) kept
  pub count : number + length left ≡ 1 + length all

pub back_none : (left all : List (List ℕ)) (kept : Findings) → left ≡ all → Shows [] kept → BackSoFar 1 [] left all kept
back_none left all kept is shows = rw is (record { front = front_none (back_lines_from 1 [] all) kept shows; count = refl })

-- a line more
pub back_next : (number : ℕ) (latest later line : List ℕ) (left others all : List (List ℕ)) (old new : Findings) → BackSoFar number latest left all old → left ≡ line ∷ others
    → later ≡ latest_with latest line → ((found : List (List ℕ)) → Shows found old → Shows (found ++ back_line number latest line) new) → BackSoFar (number + 1) later others all new
back_next number latest later line left others all old new so is next adds = record {
  front = rw next (front_more (back_lines_from 1 [] all) (back_line number latest line) (back_lines_from (number + 1) (latest_with latest line) others) old new
      (subst (λ (l : List (List ℕ)). ShowsFront (back_lines_from 1 [] all) (back_lines_from number latest l) old) is so.front) adds);
  count = let before : number + length (line ∷ others) ≡ 1 + length all = rw is at so.count in omega (arith, before);
}

pub back_all : (number : ℕ) (latest : List ℕ) (left all : List (List ℕ)) (kept : Findings) → BackSoFar number latest left all kept → left ≡ [] → Shows (back_lines_from 1 [] all) kept
back_all number latest left all kept so none = front_all (back_lines_from 1 [] all) (back_lines_from number latest left) kept so.front (rw none refl)

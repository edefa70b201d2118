-- Lines that are taken one after the other, and what a source of files answers meanwhile.
use Rattle.std.proofs.Common.{◌≡◌, ◌∙◌, ℕ, Option, Some, None, List, [], ◌∷◌, ◌++◌, refl, sym, ap, subst, append_assoc, append-nil}
use Rattle.sqlite_trees.specs.declared.store.Store.{Ghosts}
use Rattle.tc_desk.specs.Replies.{Reply}
use Rattle.tc_room.specs.Joined.{Standing}
use Rattle.tc_closed.specs.Files.{FileAnswer, Gives}
use Rattle.tc_run.specs.Run.{TakesFront, TakesLine, TakesLines}

-- ---- the files that were given

pub gives_none : (p : Option (List FileAnswer)) → Gives p p []
gives_none None = tt
gives_none (Some all) = sym (append-nil all)

pub gives_more : (a b c : Option (List FileAnswer)) (xs ys : List FileAnswer) → Gives a b xs → Gives b c ys → Gives a c (xs ++ ys)
gives_more None b c xs ys first second = tt
gives_more (Some a) None c xs ys first second = absurd first
gives_more (Some a) (Some b) None xs ys first second = absurd second
gives_more (Some a) (Some b) (Some c) xs ys first second = second ∙ ap (λ (l : List FileAnswer). l ++ ys) first ∙ append_assoc a xs ys

-- ---- one more line

module _ {S : Type 0} (g : Ghosts S) where
  -- one more line is taken behind those before
  takes_lines-snoc : (old : Standing S) (front : List (List ℕ)) (files : List FileAnswer) (replies : List Reply) (mid : Standing S) (line : List ℕ) (given : List FileAnswer) (now : List Reply) (new : Standing S)
      → TakesLines g old front files replies mid → TakesLine g mid line given now new → TakesLines g old (front ++ line ∷ []) (files ++ given) (replies ++ now) new
  takes_lines-snoc old [] files replies mid line given now new (no_files, none, same) takes =
      (now, new, [], given, [], subst (λ (s : Standing S). TakesLine g s line given now new) same takes, (refl, refl, refl), rw none (sym (append-nil now)), rw no_files (sym (append-nil given)))
  takes_lines-snoc old (x ∷ xs) files replies mid line given now new (first, next, later, first_files, others, takes_first, goes, are, files_are) takes =
      (first, next, later ++ now, first_files, others ++ given, takes_first, takes_lines-snoc next xs others later mid line given now new goes takes, rw are (append_assoc first later now), rw files_are (append_assoc first_files others given))

  -- no line is taken yet
  pub takes_front-start : (start : Standing S) (lines left : List (List ℕ)) → left ≡ lines → TakesFront g start lines [] [] start left
  takes_front-start start lines left all = ([], sym all, (refl, refl, refl))

  pub takes_front-step : (start : Standing S) (lines : List (List ℕ)) (files : List FileAnswer) (replies : List Reply) (at : Standing S) (left : List (List ℕ)) (line : List ℕ) (others : List (List ℕ)) (given : List FileAnswer) (now : List Reply) (next : Standing S)
      → TakesFront g start lines files replies at left → left ≡ line ∷ others → TakesLine g at line given now next → TakesFront g start lines (files ++ given) (replies ++ now) next others
  takes_front-step start lines files replies at left line others given now next (front, whole, takes) is_line goes = (
    front ++ line ∷ [],
    whole ∙ ap (λ (ls : List (List ℕ)). front ++ ls) is_line ∙ sym (append_assoc front (line ∷ []) others),
    takes_lines-snoc start front files replies at line given now next takes goes,
  )

  -- the lines that are taken are those before and this one
  pub front_grown : (start : Standing S) (lines : List (List ℕ)) (files : List FileAnswer) (replies : List Reply) (at : Standing S) (left : List (List ℕ)) (line : List ℕ) (others : List (List ℕ)) (given : List FileAnswer) (now : List Reply) (next : Standing S)
      (front : TakesFront g start lines files replies at left) (is : left ≡ line ∷ others) (goes : TakesLine g at line given now next)
      → (takes_front-step start lines files replies at left line others given now next front is goes).0 ≡ front.0 ++ line ∷ []
  unfolding takes_front-step
  front_grown start lines files replies at left line others given now next (front, whole, takes) is goes = refl

  -- or none
  pub front_none : (start : Standing S) (lines left : List (List ℕ)) (all : left ≡ lines) → (takes_front-start start lines left all).0 ≡ []
  unfolding takes_front-start
  front_none start lines left all = refl

  -- or all
  pub front_all : (start : Standing S) (lines : List (List ℕ)) (files : List FileAnswer) (replies : List Reply) (at : Standing S) (left : List (List ℕ))
      (front : TakesFront g start lines files replies at left) → left ≡ [] → front.0 ≡ lines
  front_all start lines files replies at left (front, whole, takes) none = sym (whole ∙ ap (λ (ls : List (List ℕ)). front ++ ls) none ∙ append-nil front)

  -- all lines are taken
  pub takes_front-end : (start : Standing S) (lines : List (List ℕ)) (files : List FileAnswer) (replies : List Reply) (at : Standing S) (left : List (List ℕ))
      → TakesFront g start lines files replies at left → left ≡ [] → TakesLines g start lines files replies at
  takes_front-end start lines files replies at left (front, whole, takes) none =
      subst (λ (ls : List (List ℕ)). TakesLines g start ls files replies at) (sym (whole ∙ ap (λ (ls : List (List ℕ)). front ++ ls) none ∙ append-nil front)) takes

-- What is written of lines that were taken.
use Rattle.std.proofs.Common.{◌≡◌, ◌∙◌, ℕ, Bool, true, false, List, [], ◌∷◌, ◌++◌, refl, sym, ap, append_assoc}
use Rattle.std.specs.Prelude.{MatchBool}
use Rattle.sqlite_trees.specs.declared.store.Store.{Ghosts}
use Rattle.tc_desk.specs.Replies.{Reply}
use Rattle.tc_room.specs.Joined.{Standing}
use Rattle.tc_room.specs.Replies.{ended}
use Rattle.tc_closed.specs.Files.{FileAnswer}
use Rattle.tc_check.specs.Scripts.{is_skipped}
use Rattle.tc_run.specs.Run.{AnswersScriptLine, TakesLines, answered, exchange, exchanges}

module _ {S : Type 0} (g : Ghosts S) (echo : Bool) where
  -- one more line is written behind those before
  pub exchanges_more : (old : Standing S) (front : List (List ℕ)) (files : List FileAnswer) (replies : List Reply) (mid : Standing S) (line : List ℕ) (now : List Reply)
      → TakesLines g old front files replies mid
      → exchanges echo (answered (front ++ line ∷ [])) (replies ++ now) ≡ exchanges echo (answered front) replies ++ exchanges echo (answered (line ∷ [])) now
  exchanges_more old [] files replies mid line now (no_files, none, same) = rw none refl
  exchanges_more old (x ∷ xs) files replies mid line now (first, next, later, first_files, others, takes, goes, are, files_are) =
      by_flag (is_skipped x) refl takes (exchanges_more next xs others later mid line now goes)
    where
      by_flag : (skipped : Bool) → is_skipped x ≡ skipped
          → MatchBool skipped ((first_files ≡ []) × (first ≡ []) × (next ≡ old)) ((reply : Reply) × (first ≡ reply ∷ []) × AnswersScriptLine g old x first_files reply next)
          → exchanges echo (answered (xs ++ line ∷ [])) (later ++ now) ≡ exchanges echo (answered xs) later ++ exchanges echo (answered (line ∷ [])) now
          → exchanges echo (answered (x ∷ (xs ++ line ∷ []))) (replies ++ now) ≡ exchanges echo (answered (x ∷ xs)) replies ++ exchanges echo (answered (line ∷ [])) now
      by_flag true is (_, none, _) rest = rw (are, none, is) rest
      by_flag false is (reply, one, _) rest =
          rw (are, one, is) (ap (λ (bytes : List ℕ). exchange echo x (ended reply) ++ bytes) rest
          ∙ sym (append_assoc (exchange echo x (ended reply)) (exchanges echo (answered xs) later) (exchanges echo (answered (line ∷ [])) now)))

-- The parts of a line that is posted.
use Rattle.std.proofs.Common.{◌≡◌, ◌∙◌, ℕ, List, [], ◌∷◌, ap, arith, length, refl, subst, sym}
use Rattle.std.proofs.lemmas.List.Splits.{join_with_byte-slice_split, length-slice_split}
use Rattle.std.specs.Prelude.{◌==◌}
use Rattle.std.specs.String.{string_bytes}
use Rattle.tc_types.specs.Lines.{spaced}
use Rattle.tc_types.specs.Words.{words}
use Rattle.tc_posts.specs.Posting.{Posts, PostsWords, SendsMoment, sent, sent_act}
use Rattle.tc_posts.specs.declared.posting.Posting.{Posting}

-- what stands behind the second space is the third word and those behind it
pub posts_parts : (line moment by act : List ℕ) (post : Posting) → words 32 line ≡ moment ∷ by ∷ words 32 act
    → string_bytes post.act ≡ sent 201 act → string_bytes post.by ≡ sent 17 by → SendsMoment moment post.moment → Posts line post
posts_parts line moment by act post parts has_act has_by has_moment =
    subst (λ ws. PostsWords ws line post) (sym parts)
    (go (words 32 act) (join_with_byte-slice_split 32 act) (λ e. omega (arith, length-slice_split (λ byte. byte == 32) act, ap length e)))
  where
    go : (ws : List (List ℕ)) → spaced ws ≡ act → (ws ≡ [] → ⊥) → PostsWords (moment ∷ by ∷ ws) line post
    go [] joined some = absurd (some refl)
    go (third ∷ others) joined some = (has_act ∙ ap sent_act (sym joined), has_by, has_moment)

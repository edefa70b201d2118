use Rattle.std.proofs.Common.{[], ◌∷◌}
use Rattle.tc_copy.specs.Asked.{looked, reading_till, took_database, took_log}
use Rattle.tc_copy.proofs.copying.copy_once.Goals as goal

pub returns : goal.returns
returns g c =
    let joined = g.met.D.DeskFiles.joined in
    let before = c.in_ok-before.before in
    let behind = c.in_ok-behind.behind in (
      looked before ∷ reading_till behind,
      joined _ _ _ (looked before ∷ []) (reading_till behind) c.in_ok-before.ensures
          (joined _ _ _ (took_database ∷ []) (took_log ∷ looked behind ∷ []) c.in_ok-take_database.ensures
          (joined _ _ _ (took_log ∷ []) (looked behind ∷ []) c.in_ok-take_log.ensures c.in_ok-behind.ensures)),
      c.judged.ensures,
    )

-- The last moves, one more row.
use Rattle.std.proofs.Common.{◌≡◌, ◌≢◌, ℕ, ◌+◌, ◌-◌, ◌<◌, ◌≤◌, ◌==◌, true, false, if◌then◌else◌, List, [], ◌∷◌, ◌++◌, length, drop, take, fold, get_or, inl, inr, refl, sym, ◌∙◌, ap, subst, arith, length-set, get_or-set_same, get_or-set_other, eq-eqb}
use Rattle.std.specs.Prelude.{slice_index_or, set}
use Rattle.std.proofs.lemmas.Bool.{cases_eq}
use Rattle.std.proofs.lemmas.Bool.Decides.{nat_tests}
use Rattle.std.proofs.lemmas.List.{append-nil, drop_all, take_all, take_more, get_or-replicate}
use Rattle.std.proofs.lemmas.List.Sums.{fold-append}
use Rattle.tc_types.specs.declared.history.moves.Move.{Move}
use Rattle.tc_urgent.specs.declared.moves.LastMove.{LastMove}
use Rattle.tc_urgent.specs.Judging.{AreLastMoves, last_move, moved_last, unmoved}

abbrev noted : Move → LastMove
noted row = record { seq = row.seq; moment = row.moment }

pub one_more : (rows : List Move) (row : Move) (count : ℕ) (last : List LastMove) → 0 < row.request → AreLastMoves rows count last → AreLastMoves (rows ++ row ∷ []) count (set last (row.request - 1) (noted row))
one_more rows row count last some before = record {
  all = length-set last (row.request - 1) (noted row) ∙ before.all;
  each = λ k low.
      let more : last_move (rows ++ row ∷ []) (k + 1) ≡ (if row.request == k + 1 then noted row else last_move rows (k + 1)) = fold-append (moved_last (k + 1)) unmoved rows (row ∷ []) in
      elim (cases_eq row.request (k + 1)) [
        | inl same ↦
            let at : row.request - 1 ≡ k = omega (arith, same) in
            let fits : k < length last = omega (arith, before.all, low) in
            let is : (row.request == k + 1) ≡ true = eq-eqb _ _ same in
            rw (more, is, at) (get_or-set_same last k (noted row) unmoved fits)
        | inr other ↦
            let away : k ≢ row.request - 1 = omega (arith, other, some) in
            let is : (row.request == k + 1) ≡ false = grind (arith, nat_tests, other) in
            rw (more, is) (get_or-set_other last (row.request - 1) k (noted row) unmoved away ∙ before.each k low)
      ];
}

-- the same of the next of some rows, where the new numbers are put back into what held them
pub one_more_read : (rows : List Move) (i : ℕ) (row : Move) (count : ℕ) (last new : List LastMove) (len : ℕ) → 0 < row.request → i < length rows → row ≡ get_or rows i row → new ≡ set last (row.request - 1) (noted row) → len ≡ length last
    → AreLastMoves (take i rows) count last → AreLastMoves (take (i + 1) rows) count (take len (new ++ drop (length new) last))
one_more_read rows i row count last new len some low is new_is len_is before =
    let same : length new ≡ length last = ap length new_is ∙ length-set last (row.request - 1) (noted row) in
    let behind : drop (length new) last ≡ [] = drop_all (length new) last (omega (arith, same)) in
    let whole : take len (new ++ drop (length new) last) ≡ set last (row.request - 1) (noted row) =
    ap (λ l. take len (new ++ l)) behind ∙ ap (take len) (append-nil new) ∙ take_all len new (omega (arith, same, len_is)) ∙ new_is in
    let taken : take (i + 1) rows ≡ take i rows ++ row ∷ [] = take_more rows i row low ∙ ap (λ x. take i rows ++ x ∷ []) (sym is) in
    subst (λ l. AreLastMoves (take (i + 1) rows) count l) (sym whole) (subst (λ l. AreLastMoves l count (set last (row.request - 1) (noted row))) (sym taken) (one_more (take i rows) row count last some before))

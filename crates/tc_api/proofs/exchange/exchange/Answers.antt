use Rattle.std.proofs.Common.{◌≡◌, ℕ, List, Err, subst, sym}
use Rattle.tc_types.specs.declared.refusals.Refusal.TheVariants.{Memory}
use Rattle.tc_front.specs.Front.{IsDecided}
use Rattle.tc_front.specs.Read.{refusal_of}
use Rattle.tc_api.proofs.ExchangeLemmas.{ended_at_once, ended_by, exchanged, is_err}
use Rattle.tc_api.proofs.exchange.exchange.Goals as goal

pub returns-in_err-routes : goal.returns-in_err-routes
returns-in_err-routes g c =
    let gone : c.from_residual.result ≡ Err Memory = is_err _ _ c.from_residual.ensures.1 in
    ended_at_once g.S.Store c.from_residual.result _ _ _ gone c.requires.fresh.unread c.requires.fresh.unwritten

pub returns-in_err-read_front : goal.returns-in_err-read_front
returns-in_err-read_front g c =
    let gone : c.from_residual-in_err-read_front.result ≡ Err (refusal_of c.in_err-read_front.field-0.0) = is_err _ _ c.from_residual-in_err-read_front.ensures.1 in
    ended_by g.S.Store c.in_err-read_front.field-0.0 c.from_residual-in_err-read_front.result _ _ _ _ _ gone c.in_err-read_front.ensures.unread c.in_err-read_front.ensures.memory c.in_err-read_front.ensures.taken c.in_err-read_front.ensures.fronts
    c.in_err-read_front.ensures.failed c.in_err-read_front.ensures.ended c.requires.fresh.unwritten

pub returns : goal.returns
returns g c =
    let made = c.serve_decision-served.ensures in
    exchanged g.S.Store c.respond.result tt _ _ _ _ _ c.serve_decision-served.result _ _ _ _ c.deref.ensures.value c.in_ok-read_front.ensures.taken c.in_ok-read_front.ensures.whole c.in_ok-read_front.ensures.failed
    c.in_ok-read_front.ensures.ended c.in-Some.ensures.some made (c.respond.ensures made.reply made.text) c.requires.fresh.unwritten

pub unreachable-requires : goal.unreachable-requires
unreachable-requires g c =
    let read = c.in_ok-read_front.ensures.decided in
    absurd (c.in-None.ensures.none.none read.0 (subst (λ (t : List ℕ). IsDecided t read.0) (sym c.deref.ensures.value) read.1))

use Rattle.tc_room.proofs.RoomLemmas.{kept_book}
use Rattle.tc_api.proofs.ExchangeLemmas.{ends_told, exchange_read}
use Rattle.tc_api.proofs.KeptLemmas.{read_keeps}
use Rattle.tc_api.proofs.OnceLemmas.{done_once}
use Rattle.tc_api.proofs.exchange.serve_one.Goals as goal

pub returns-clause-only : goal.returns-clause-only
returns-clause-only g c = ends_told g.S.Store c.exchange-done.result _ _ _ _ _ _ c.exchange-done.ensures

pub returns-clause-kept : goal.returns-clause-kept
returns-clause-kept g c = let read = exchange_read g.S.Store c.exchange-done.result _ _ _ _ _ _ c.exchange-done.ensures in read_keeps g.S.Store _ _ read.0 read.1

pub returns-clause-step : goal.returns-clause-step
returns-clause-step g c =
    let read = exchange_read g.S.Store c.exchange-done.result _ _ _ _ _ _ c.exchange-done.ensures in
    (read.0, record { served = read.1; opened = c.exchange-done.ensures.opened; promise = c.opened-opened.ensures.promise; kept = kept_book _ c.opened-opened.ensures.good })

pub returns-clause-once : goal.returns-clause-once
returns-clause-once g c = λ caller replies first. done_once g.S.Store caller _ replies first _

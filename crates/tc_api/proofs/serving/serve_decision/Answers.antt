use Rattle.std.proofs.Common.{refl}
use Rattle.tc_desk.specs.Replies.{refusal_reply}
use Rattle.tc_api.specs.Serving.{front_refusal}
use Rattle.tc_api.proofs.ServingLemmas.{asks_wall, asks_nothing, asks_opening, asks_post, asks_query}
use Rattle.tc_api.proofs.serving.serve_decision.Goals as goal

pub returns-in-Refused : goal.returns-in-Refused
returns-in-Refused g c =
    record { reply = refusal_reply (front_refusal c.in-Refused.why); makes = asks_nothing _ g.S.Store _ _ _ _ c.in-Refused.is c.serve_refused.ensures.0; text = c.serve_refused.ensures.1; opened = refl }

pub returns-in-Asks : goal.returns-in-Asks
returns-in-Asks g c =
    let made = c.serve_query.ensures in record { reply = made.reply; makes = asks_query _ g.S.Store _ _ _ _ _ c.in-Asks.is made.makes; text = made.text; opened = made.opened }

pub returns-in-ShowsWall : goal.returns-in-ShowsWall
returns-in-ShowsWall g c =
    let made = c.serve_wall.ensures in record { reply = made.reply; makes = asks_wall g.S.Store _ _ _ _ c.in-ShowsWall.is made.makes; text = made.text; opened = made.opened }

pub returns-in-TellsOpening : goal.returns-in-TellsOpening
returns-in-TellsOpening g c =
    let made = c.serve_opening.ensures in record { reply = made.reply; makes = asks_opening g.S.Store _ _ _ _ c.in-TellsOpening.is made.makes; text = made.text; opened = made.opened }

pub returns-in-Posts : goal.returns-in-Posts
returns-in-Posts g c =
    let made = c.serve_post.ensures in record { reply = made.reply; makes = asks_post _ g.S.Store _ _ _ _ _ _ c.in-Posts.is made.makes; text = made.text; opened = made.opened }

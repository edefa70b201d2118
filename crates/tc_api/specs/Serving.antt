-- What a request makes of the room, and how it ends.
use Rattle.std.specs.Prelude.{◌≡◌, ◌⊎◌, ◌&&◌, ℕ, Bool, false, Option, Some, None, Result, Ok, Err, List, [], ◌∷◌, IfSome, option_and_then}
use Rattle.std.specs.String.{string_bytes}
use Rattle.serde_json.specs.Data.{Data}
use Rattle.sqlite_trees.specs.declared.store.Store.{Ghosts}
use Rattle.tc_types.specs.declared.acts.Query.{Query}
use Rattle.tc_types.specs.declared.acts.Act.TheVariants as act
use Rattle.tc_types.specs.declared.loads.LoadKind.{LoadKind}
use Rattle.tc_types.specs.declared.loads.LoadKind.TheVariants as load_kind
use Rattle.tc_types.specs.declared.refusals.Refusal.{Refusal}
use Rattle.tc_types.specs.declared.refusals.Refusal.TheVariants.{BadText, Memory, TooLong}
use Rattle.tc_front.specs.declared.judge.Refused.{Refused}
use Rattle.tc_front.specs.declared.judge.Refused.TheVariants as front
use Rattle.tc_front.specs.declared.paths.Post.{Post}
use Rattle.tc_front.specs.declared.paths.Post.TheVariants as paths
use Rattle.tc_front.specs.Front.{Asked, asks, posts, refuses, shows, tells}
use Rattle.tc_book.specs.declared.stamps.Stamp.{Stamp}
use Rattle.tc_desk.specs.Replies.{Reply, refusal_reply}
use Rattle.tc_api.specs.Walls.{RefusesWall, TellsWall}
use Rattle.tc_room.specs.Calls.{AnswersActCall, AnswersLoadCall}
use Rattle.tc_room.specs.Joined.{Standing}
use Rattle.tc_room.specs.Replies.{AreLines, ended, is_refused}
use Rattle.tc_room.specs.Room.{LeavesDesk, RoomStep}
use Rattle.tc_room.specs.Truth.{LeavesLink, TellsTextTrue}
use Rattle.tc_api.specs.declared.endings.Ending.{Ending}
use Rattle.tc_api.specs.declared.endings.Ending.TheVariants as ending
use Rattle.tc_api.specs.declared.serving.Served.{Served}
use Rattle.tc_api.specs.declared.serving.Told.{Told}
use Rattle.tc_api.specs.declared.serving.Told.TheVariants as told
use Rattle.tc_api.specs.Acts.{ActCall, JudgesActKeys, JudgesActPost, act_keys}
use Rattle.tc_api.specs.Endings.{is_done}
use Rattle.tc_api.specs.Openings.{opening_line}
use Rattle.tc_api.specs.Loads.{JudgesLoadKeys, JudgesLoadPost, LoadCall, LoadKeys, load_keys}

-- what a request ends with: the reply, how the exchange ends, and whether an act was done, which stands; and where the wall is shown, its page, which is sent in
-- place of the reply
pub record Outcome : Type 0 where
  pub reply : Reply
  pub ending : Ending
  pub stands : Bool
  pub page : Option (List ℕ)

-- A reply of the room ends an exchange so: it is done where the reply refuses nothing, and else refused with what the reply refuses with.
abbrev pub EndsWith : Reply → Ending → Type 0
EndsWith reply ending.Done = is_refused reply ≡ false
EndsWith reply (ending.Refused refusal) = reply ≡ refusal_reply refusal
EndsWith reply ending.Foreign = ⊥
EndsWith reply ending.NoPath = ⊥
EndsWith reply ending.OtherMethod = ⊥

-- The outcome is its reply's, and no page. An act stands where one was asked and is done.
pub record IsOutcome (acts : Bool) (outcome : Outcome) : Type 0 where
  pub ends : EndsWith outcome.reply outcome.ending
  pub stands : outcome.stands ≡ (acts && is_done outcome.ending)
  pub page : outcome.page ≡ None

-- a refusal that never came to the room
abbrev pub refused_so : Ending → Refusal → Outcome
refused_so ending refusal = record { reply = refusal_reply refusal; ending = ending; stands = false; page = None }

abbrev pub refused_with : Refusal → Outcome
refused_with refusal = refused_so (ending.Refused refusal) refusal

-- A question makes its step, whoever asks, and leaves the desk as it was.
abbrev pub ServesQuery : {S : Type 0} → Ghosts S → Standing S → Query → Outcome → Standing S → Type 0
ServesQuery g old query outcome new = ((stamp : Stamp) → RoomStep g old stamp (act.Ask query) outcome.reply new) × IsOutcome false outcome × LeavesDesk g old new

-- The wall is shown, and the room stays as it was; or it refuses to.
abbrev pub shown_page : List ℕ → Outcome
shown_page page = record { reply = []; ending = ending.Done; stands = false; page = Some page }

pub record ServesWall {S : Type 0} (since : ℕ) (old : Standing S) (outcome : Outcome) (new : Standing S) : Type 0 where
  pub same : new ≡ old
  pub shown : ((page : List ℕ) × TellsWall since old page × (outcome ≡ shown_page page)) ⊎ ((refusal : Refusal) × RefusesWall old refusal × (outcome ≡ refused_with refusal))

-- It is told how the desk was opened, and when; the room stays as it was.
abbrev pub told_line : List ℕ → Outcome
told_line line = record { reply = line ∷ []; ending = ending.Done; stands = false; page = None }

pub record TellsOpening {S : Type 0} (since : ℕ) (old : Standing S) (outcome : Outcome) (new : Standing S) : Type 0 where
  pub same : new ≡ old
  pub told : outcome ≡ told_line (opening_line old.opened since)

-- An act or a question is called, and what is told of it is true; a post that is refused makes nothing.
abbrev pub ServesActCall : {S : Type 0} → Ghosts S → Standing S → Result ActCall Refusal → Outcome → Standing S → Type 0
ServesActCall g old (Ok call) outcome new = (acts : Bool) × AnswersActCall g call.caller call.moment call.text old acts outcome.reply new × IsOutcome acts outcome
    × TellsTextTrue call.text outcome.reply old new
ServesActCall g old (Err refusal) outcome new = (outcome ≡ refused_with refusal) × (new ≡ old)

-- So is a load, which leaves the link, the spacecraft and the mirror.
abbrev pub ServesLoadCall : {S : Type 0} → Ghosts S → Standing S → LoadKind → Result LoadCall Refusal → Outcome → Standing S → Type 0
ServesLoadCall g old kind (Ok call) outcome new =
    (acts : Bool) × AnswersLoadCall g call.caller kind call.moment call.name call.csv old acts outcome.reply new × IsOutcome acts outcome × LeavesLink old new
ServesLoadCall g old kind (Err refusal) outcome new = (outcome ≡ refused_with refusal) × (new ≡ old)

-- Memory was refused as a body was read.
abbrev pub FindsNoMemory : {S : Type 0} → Standing S → Outcome → Standing S → Type 0
FindsNoMemory old outcome new = (outcome ≡ refused_with Memory) × (new ≡ old)

-- A post is read as this; and any other reading that its tests allow is the same.
pub record IsTheReading {X : Type 0} (Judges : Result X Refusal → Type 0) (given : Result X Refusal) : Type 0 where
  pub judged : Judges given
  pub only : (other : Result X Refusal) → Judges other → other ≡ given

-- what a body posts to be loaded as this kind is called
abbrev pub ServesText : {S : Type 0} → Ghosts S → Standing S → LoadKind → List ℕ → Outcome → Standing S → Type 0
ServesText g old kind body outcome new = (given : Result LoadCall Refusal) × IsTheReading (JudgesLoadPost body) given × ServesLoadCall g old kind given outcome new

-- a body posted to each route
abbrev pub ServesBody : {S : Type 0} → Ghosts S → Standing S → Post → List ℕ → Outcome → Standing S → Type 0
ServesBody g old paths.Acts body outcome new = (given : Result ActCall Refusal) × IsTheReading (JudgesActPost body) given × ServesActCall g old given outcome new
ServesBody g old paths.Stacks body outcome new = ServesText g old load_kind.Stack body outcome new
ServesBody g old paths.Procedures body outcome new = ServesText g old load_kind.Procedure body outcome new

pub record ServesPost {S : Type 0} (g : Ghosts S) (old : Standing S) (post : Post) (body : List ℕ) (outcome : Outcome) (new : Standing S) : Type 0 where
  pub served : FindsNoMemory old outcome new ⊎ ServesBody g old post body outcome new

-- how an exchange ends whose head is refused
abbrev pub front_ending : Refused → Ending
front_ending front.Foreign = ending.Foreign
front_ending front.NoPath = ending.NoPath
front_ending front.OtherMethod = ending.OtherMethod
front_ending front.Bad = ending.Refused BadText
front_ending front.Large = ending.Refused TooLong

-- what it is refused with
abbrev pub front_refusal : Refused → Refusal
front_refusal front.Foreign = BadText
front_refusal front.NoPath = BadText
front_refusal front.OtherMethod = BadText
front_refusal front.Bad = BadText
front_refusal front.Large = TooLong

abbrev pub refused_front : Refused → Outcome
refused_front why = refused_so (front_ending why) (front_refusal why)

-- What is asked of a desk that was opened at a moment is served: a refused head asks nothing of the room, the wall is shown, the opening is told, a question and a
-- post make their step.
abbrev pub Serves : {S : Type 0} → ℕ → Ghosts S → Standing S → Asked → Outcome → Standing S → Type 0
Serves since g old (refuses why) outcome new = (outcome ≡ refused_front why) × (new ≡ old)
Serves since g old (asks query) outcome new = ServesQuery g old query outcome new
Serves since g old shows outcome new = ServesWall since old outcome new
Serves since g old tells outcome new = TellsOpening since old outcome new
Serves since g old (posts post body) outcome new = ServesPost g old post body outcome new

-- ---- as the code holds it

-- the page that is told, if one is
abbrev pub page_of : Told → Option (List ℕ)
page_of (told.Lines text) = None
page_of (told.Page page) = Some (string_bytes page)

abbrev pub page_in : Option Told → Option (List ℕ)
page_in text = option_and_then page_of text

-- the outcome of what was served, with this reply
abbrev pub outcome_of : Reply → Served → Outcome
outcome_of reply served = record { reply = reply; ending = served.ending; stands = served.stands; page = page_in served.text }

-- what is told is the reply, of which no line has an LF in it; or a page, and the reply has no line
abbrev pub Tells : Reply → Told → Type 0
Tells reply (told.Lines text) = (string_bytes text ≡ ended reply) × AreLines reply
Tells reply (told.Page page) = reply ≡ []

-- that is told, unless memory was refused to it
abbrev pub HasText : Reply → Served → Type 0
HasText reply served = IfSome served.text (Tells reply)

-- what stands at the keys of a load is called
abbrev pub ServesKeys : {S : Type 0} → Ghosts S → Standing S → LoadKind → Option LoadKeys → Outcome → Standing S → Type 0
ServesKeys g old kind keys outcome new = (given : Result LoadCall Refusal) × JudgesLoadKeys keys given × ServesLoadCall g old kind given outcome new

-- what stands in a body that is JSON is called
abbrev pub ServesValue : {S : Type 0} → Ghosts S → Standing S → Post → Data → Outcome → Standing S → Type 0
ServesValue g old paths.Acts value outcome new = (given : Result ActCall Refusal) × JudgesActKeys (act_keys value) given × ServesActCall g old given outcome new
ServesValue g old paths.Stacks value outcome new = ServesKeys g old load_kind.Stack (load_keys value) outcome new
ServesValue g old paths.Procedures value outcome new = ServesKeys g old load_kind.Procedure (load_keys value) outcome new

-- What was served: an outcome of this kind, whose reply its text is; and as many rows of the history stood once the room was opened.
pub record IsServedBy {S : Type 0} (Makes : Outcome → Standing S → Type 0) (old : Standing S) (served : Served) (new : Standing S) : Type 0 where
  pub reply : Reply
  pub makes : Makes (outcome_of reply served) new
  pub text : HasText reply served
  pub opened : new.opened ≡ old.opened

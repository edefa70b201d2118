-- One exchange: what is read, what it makes of the room, and what is written.
use Rattle.std.specs.Prelude.{◌≡◌, ◌≢◌, ◌⊎◌, ℕ, true, false, Option, Some, None, Result, Err, IfErr, IfSome, OnOk, List}
use Rattle.std.specs.Io.KnownBytes.{Appends, Consumes, Keeps}
use Rattle.sqlite_trees.specs.declared.store.Store.{Ghosts}
use Rattle.tc_types.specs.declared.counted.Counts.{Counts}
use Rattle.tc_types.specs.Counts.{no_counts}
use Rattle.tc_types.specs.declared.refusals.Refusal.{Refusal}
use Rattle.tc_types.specs.declared.refusals.Refusal.TheVariants.{Memory, ReadFault, WriteFault}
use Rattle.tc_desk.specs.Replies.{Reply}
use Rattle.tc_front.specs.Door.{Enters}
use Rattle.tc_front.specs.Front.{Asked, IsDecided}
pub use Rattle.tc_front.specs.Read.{refusal_of}
use Rattle.tc_front.specs.Read.{CanGoOn, HasStopped, NoFront}
use Rattle.tc_front.specs.Write.{IsCutShort, Stream, one_fault}
use Rattle.tc_room.specs.Joined.{Standing}
use Rattle.tc_room.specs.Replies.{AreLines, ended}
use Rattle.tc_api.specs.declared.endings.Ending.{Ending}
use Rattle.tc_api.specs.Responses.{page_bytes, response_bytes, text_lines}
use Rattle.tc_api.specs.Serving.{Outcome, Serves}

-- nothing was read of this reader yet, and nothing written to this writer
pub record AreFresh (reader writer : Counts) : Type 0 where
  pub unread : reader ≡ no_counts
  pub unwritten : writer ≡ no_counts

-- A request was read: what was taken of the reader decides what is asked, and so does all that the reader had; and this is served, of which the
-- door says whether it is let in.
pub record IsRead (hosts : List (List ℕ)) (had left : Option (List ℕ)) (served : Asked) : Type 0 where
  pub text : List ℕ
  pub taken : Consumes had left text
  pub asked : Asked
  pub decided : IsDecided text asked
  pub whole : IfSome had (λ input. IsDecided input asked)
  pub enters : Enters hosts text asked served

-- None was read: no front of what was taken of the reader decides.
pub record IsUnread (had left : Option (List ℕ)) : Type 0 where
  pub text : List ℕ
  pub taken : Consumes had left text
  pub fronts : NoFront text

-- the response to an outcome: of a reply, or the page in its place
abbrev pub response_by : Option (List ℕ) → Ending → Reply → List ℕ
response_by None ending reply = response_bytes ending (ended reply)
response_by (Some page) ending reply = page_bytes page

abbrev pub response_to : Outcome → List ℕ
response_to outcome = response_by outcome.page outcome.ending outcome.reply

-- nothing was written, and no write failed
pub record IsUntouched (counts : Counts) (before after : Option (List ℕ)) : Type 0 where
  pub unfailed : counts ≡ no_counts
  pub kept : Keeps before after

-- one write failed, and a front of these bytes went out, and not all
pub record IsCutOff (bytes : List ℕ) (counts : Counts) (before after : Option (List ℕ)) : Type 0 where
  pub failed : counts ≡ one_fault
  pub part : List ℕ
  pub short : IsCutShort bytes part
  pub appended : Appends before after part

-- What is told where a response found no memory: that an act stands of which nothing could be written, or that there was no memory and no act
-- stands. So it is also where the database failed.
abbrev pub IsUntold : Outcome → Refusal → Type 0
IsUntold outcome refusal = ((outcome.stands ≡ true) × (refusal ≡ WriteFault)) ⊎ ((outcome.stands ≡ false) × (refusal ≡ Memory))

-- Why what was served is not answered: one write failed, or the response found no memory and nothing was written.
abbrev pub IsUnanswered : Outcome → Refusal → Counts → Option (List ℕ) → Option (List ℕ) → Type 0
IsUnanswered outcome refusal counts before after =
    ((refusal ≡ WriteFault) × IsCutOff (response_to outcome) counts before after)
    ⊎ (IsUntold outcome refusal × IsUntouched counts before after)

-- The response to an outcome was written, all of it and nothing else, and its lines are the reply's; or the refusal says why it is not answered.
pub record Responds {X : Type 0} (outcome : Outcome) (result : Result X Refusal) (old new : Stream) : Type 0 where
  pub written : OnOk result (Appends old.bytes new.bytes (response_to outcome))
  pub lines : OnOk result (AreLines outcome.reply)
  -- of a writer that counted nothing before
  pub failed : old.counts ≡ no_counts → IfErr result (λ why. IsUnanswered outcome why new.counts old.bytes new.bytes)
  pub unfailed : old.counts ≡ no_counts → OnOk result (new.counts ≡ no_counts)

-- An exchange: a request was read, it was served, and its response was written, all of it and nothing else. The lines that the response is made
-- of are the reply's.
pub record Answers {S : Type 0} (hosts : List (List ℕ)) (since : ℕ) (g : Ghosts S) (had left : Option (List ℕ)) (old new : Standing S) (before after : Option (List ℕ)) : Type 0 where
  pub asked : Asked
  pub outcome : Outcome
  pub read : IsRead hosts had left asked
  pub serves : Serves since g old asked outcome new
  pub written : Appends before after (response_to outcome)
  pub lines : text_lines (ended outcome.reply) ≡ outcome.reply

-- An exchange that ends before a request was read: the room is as it was, and nothing was written. The reader failed or ended, or it did neither
-- and there was no memory.
pub record EndsUnread {S : Type 0} (refusal : Refusal) (read : Counts) (had left : Option (List ℕ)) (old new : Standing S) (counts : Counts) (before after : Option (List ℕ)) : Type 0 where
  pub why : ((refusal ≡ ReadFault) × HasStopped read) ⊎ ((refusal ≡ Memory) × CanGoOn read)
  pub unread : IsUnread had left
  pub room : new ≡ old
  pub untouched : IsUntouched counts before after

-- An exchange that ends without the whole response: a request was read, it was served, and the refusal says what stands.
pub record EndsUnanswered {S : Type 0} (hosts : List (List ℕ)) (since : ℕ) (g : Ghosts S) (refusal : Refusal) (had left : Option (List ℕ)) (old new : Standing S) (counts : Counts) (before after : Option (List ℕ)) : Type 0 where
  pub asked : Asked
  pub outcome : Outcome
  pub read : IsRead hosts had left asked
  pub serves : Serves since g old asked outcome new
  pub unanswered : IsUnanswered outcome refusal counts before after

-- One exchange with a desk that was opened at a moment, over a reader and a writer that were not used before, whatever it answers.
pub record Exchanges {X S : Type 0} (hosts : List (List ℕ)) (since : ℕ) (g : Ghosts S) (result : Result X Refusal) (input left : Stream) (old new : Standing S) (before after : Stream) : Type 0 where
  pub answered : OnOk result (Answers hosts since g input.bytes left.bytes old new before.bytes after.bytes)
  pub failed : IfErr result (λ why. EndsUnread why left.counts input.bytes left.bytes old new after.counts before.bytes after.bytes
      ⊎ EndsUnanswered hosts since g why input.bytes left.bytes old new after.counts before.bytes after.bytes)
  -- where the reader failed or ended, that is told
  pub fault : left.counts.faults ≢ 0 → result ≡ Err ReadFault
  pub ended : left.counts.ends ≢ 0 → result ≡ Err ReadFault
  -- where all was written, no write failed
  pub unfailed : OnOk result (after.counts ≡ no_counts)
  -- as many rows of the history stood once the room was opened
  pub opened : new.opened ≡ old.opened

-- what is told of an exchange that has no whole response: nothing else
abbrev pub TellsEnd : Refusal → Type 0
TellsEnd refusal = (refusal ≡ ReadFault) ⊎ ((refusal ≡ Memory) ⊎ (refusal ≡ WriteFault))

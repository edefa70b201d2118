-- What is kept of acts and loads that were accepted, each under the number that its caller gave it; and a ledger, which is all that the tables hold.
use Rattle.std.specs.Prelude.{◌≡◌, ℕ, ◌==◌, Bool, false, ◌&&◌, List, [], ◌∷◌, ◌++◌, find, Option, None, Some, option_map, nat_eq, codes}
use Rattle.std.specs.List.{starts_with}
use Rattle.std.specs.Option.{option_to_list}
use Rattle.std.specs.Str.{bytes_eq, IsUtf8}
use Rattle.tc_types.specs.declared.tables.rows.Row.{Row}
use Rattle.tc_store.specs.declared.batches.Batch.{Batch}
use Rattle.tc_store.specs.declared.batches.KeptReply.{KeptReply}
use Rattle.tc_store.specs.declared.versions.Version.{Version}
use Rattle.tc_store.specs.declared.versions.Version.TheVariants.{Third}
use Rattle.tc_store.specs.CallNumbers.{IsCallNumber}
use Rattle.tc_types.specs.Names.{IsPerson}
use Rattle.tc_types.specs.Tables.{Image, empty_image, applied}

-- a reply that is kept, and who is told it again
pub record KeptAnswer : Type 0 where
  pub person : List ℕ
  pub number : ℕ
  -- its lines, each ended by LF
  pub body : List ℕ

-- all rows of all tables: what a book tells, and the kept replies in the order in which they were kept
pub record Ledger : Type 0 where
  pub image : Image
  pub replies : List KeptAnswer

-- of one caller under one number
abbrev pub is_same_call : KeptAnswer → KeptAnswer → Bool
is_same_call a b = bytes_eq a.person b.person && (a.number == b.number)

-- the reply that is kept for a caller under a number
abbrev pub reply_at : List KeptAnswer → List ℕ → ℕ → Option (List ℕ)
reply_at replies person number = option_map (λ (k : KeptAnswer). k.body) (find (λ (k : KeptAnswer). bytes_eq k.person person && (k.number == number)) replies)

-- as it lies in a batch
abbrev pub answer_of : KeptReply → KeptAnswer
answer_of reply = record { person = reply.person; number = reply.number; body = reply.body.now }

-- what rows make of the tables
abbrev pub with_image : List Row → Ledger → Ledger
with_image rows ledger = record ledger { image = applied rows ledger.image }

-- the reply of a batch
abbrev pub kept_in : Batch → Option KeptAnswer
kept_in batch = option_map answer_of batch.reply

-- what a batch makes of the tables: its rows, in order, and its reply behind the others
abbrev pub written : Batch → Ledger → Ledger
written batch ledger = record { image = applied batch.rows.now ledger.image; replies = ledger.replies ++ option_to_list (kept_in batch) }

-- the tables of a desk where nothing happened yet
abbrev pub empty_ledger : Ledger
empty_ledger = record { image = empty_image; replies = [] }

-- ended by LF, as the last line of a reply is
abbrev pub EndsLine : List ℕ → Type 0
EndsLine body = (front : List ℕ) × (body ≡ front ++ 10 ∷ [])

-- the lines of an act or a load that was accepted
pub record IsKeptText (body : List ℕ) : Type 0 where
  pub ended : EndsLine body
  pub accepted : starts_with nat_eq body (codes "refused") ≡ false

-- a row that a desk could have written: of a person, under a number, and the text is that of lines that refuse nothing
pub record IsKeptAnswer (k : KeptAnswer) : Type 0 where
  pub person : IsPerson k.person
  pub number : IsCallNumber k.number
  pub text : IsUtf8 k.body
  pub lines : IsKeptText k.body

-- the version of which new tables are, and to which an opening brings those of an earlier one
abbrev pub newest : Version
newest = Third

-- the version of the tables that a batch is written into
abbrev pub from_or : Option Version → Version
from_or None = newest
from_or (Some version) = version

abbrev pub from_of : Batch → Version
from_of batch = from_or batch.migrates

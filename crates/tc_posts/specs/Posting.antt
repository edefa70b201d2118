-- The requests that a script's lines are sent in (RFC 9112).
use Rattle.std.specs.Prelude.{◌≡◌, ◌<◌, ◌^◌, ℕ, negsuc, List, [], ◌∷◌, ◌++◌, codes, if◌then◌else◌, length, map, nat_lt, take}
use Rattle.std.specs.Fmt.{decimal}
use Rattle.std.specs.String.{string_bytes}
use Rattle.serde_json.specs.Data.{Data, member, negative, no_members, null, number, object, string, unsigned}
use Rattle.serde_json.specs.Written.{compact_text}
pub use Rattle.tc_front.specs.Lines.{length_line, line_end}
use Rattle.tc_types.specs.Lines.{spaced}
use Rattle.tc_types.specs.Words.{words}
use Rattle.tc_posts.specs.declared.posting.Posting.{Posting}
use Rattle.tc_posts.specs.declared.posting.PostedMoment.{PostedMoment}
use Rattle.tc_posts.specs.declared.posting.PostedMoment.TheVariants.{Nothing, Number, NoNumber}

-- ---- what is posted of a line

-- a byte that is no ASCII stands in no act and in no name: it is sent as `?`, which stands in none either
abbrev pub ascii : ℕ → ℕ
ascii byte = if nat_lt byte 128 then byte else 63

-- of a text so many bytes are sent at most
abbrev pub sent : ℕ → List ℕ → List ℕ
sent most text = map ascii (take most text)

-- one byte more than an act may have
abbrev pub sent_act : List ℕ → List ℕ
sent_act act = sent 201 act

-- one byte more than a name may have
abbrev pub sent_name : List ℕ → List ℕ
sent_name name = sent 17 name

-- a MOMENT is sent as its number, where it is one in form
abbrev pub SendsMoment : List ℕ → PostedMoment → Type 0
SendsMoment text (Number n) = (text ≡ decimal n) × (n < 2 ^ 32)
SendsMoment text NoNumber = (n : ℕ) → n < 2 ^ 32 → ¬ (text ≡ decimal n)
SendsMoment text Nothing = ⊥

-- A line is MOMENT PERSON ACT, parted at its first two spaces. One with fewer spaces is posted as an act of nobody, at no moment.
abbrev pub PostsWords : List (List ℕ) → List ℕ → Posting → Type 0
PostsWords (moment ∷ by ∷ third ∷ others) line post =
    (string_bytes post.act ≡ sent_act (spaced (third ∷ others))) × (string_bytes post.by ≡ sent_name by) × SendsMoment moment post.moment
PostsWords fewer line post = (string_bytes post.act ≡ sent_act line) × (string_bytes post.by ≡ []) × (post.moment ≡ Nothing)

abbrev pub Posts : List ℕ → Posting → Type 0
Posts line post = PostsWords (words 32 line) line post

-- ---- the bytes of a request

-- a moment in JSON: its number, or -1, which is none, or null
abbrev pub moment_data : PostedMoment → Data
moment_data (Number n) = number (unsigned n)
moment_data NoNumber = number (negative (negsuc 0))
moment_data Nothing = null

-- the JSON of a post (RFC 8259), whose keys are in order; the last is the number of the call
abbrev pub post_data : List ℕ → List ℕ → Data → ℕ → Data
post_data act by moment call =
    object (member (codes "act") (string act) (member (codes "by") (string by) (member (codes "moment") moment
    (member (codes "number") (number (unsigned call)) no_members))))

-- the body that posts this as the call of a number
abbrev pub body_of : Posting → ℕ → List ℕ
body_of post call = compact_text (post_data (string_bytes post.act) (string_bytes post.by) (moment_data post.moment) call)

-- the line of the host, which is this machine at a port
abbrev pub host_line : ℕ → List ℕ
host_line port = codes "Host: 127.0.0.1:" ++ decimal port

-- the request line and three header lines, with an empty line behind them
abbrev pub post_head : ℕ → ℕ → List ℕ
post_head port size =
    (codes "POST /acts HTTP/1.1" ++ line_end) ++ host_line port ++ (line_end ++ codes "Content-Type: application/json" ++ line_end)
    ++ length_line size ++ (line_end ++ line_end)

-- the request that posts this as the call of a number, at this port
abbrev pub post_bytes : ℕ → Posting → ℕ → List ℕ
post_bytes port post call = post_head port (length (body_of post call)) ++ body_of post call

-- the request that asks for the places
abbrev pub places_bytes : ℕ → List ℕ
places_bytes port = (codes "GET /places HTTP/1.1" ++ line_end) ++ host_line port ++ (line_end ++ line_end)

-- the request that asks for the moves after this one
abbrev pub moves_bytes : ℕ → ℕ → List ℕ
moves_bytes port after = (codes "GET /moves/" ++ decimal after ++ codes " HTTP/1.1" ++ line_end) ++ host_line port ++ (line_end ++ line_end)

-- the person of a line posts an act of no bytes, at moment 0
abbrev pub AsksNothing : List ℕ → Posting → Type 0
AsksNothing line asked =
    (post : Posting) × Posts line post × (string_bytes asked.act ≡ []) × (string_bytes asked.by ≡ string_bytes post.by) × (asked.moment ≡ Number 0)

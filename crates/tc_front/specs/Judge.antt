-- What a head text asks, or why it is refused.
use Rattle.std.specs.Prelude.{◌≡◌, ℕ, ◌≤◌, ◌==◌, ◌⊎◌, MatchBool, Option, Some, None, List, [], codes, length, map, nat_lt, if◌then◌else◌}
use Rattle.std.specs.Option.{option_map}
use Rattle.std.specs.List.{count_by}
use Rattle.std.specs.Fmt.{decimal}
use Rattle.std.specs.Str.Parse.{digits_value}
use Rattle.httparse.specs.Grammar.{RequestHead, ReadsRequest}
use Rattle.httparse.specs.Spans.{name_and_value}
use Rattle.tc_types.specs.declared.acts.Query.{Query}
use Rattle.tc_types.specs.declared.acts.Query.TheVariants as query
use Rattle.tc_types.specs.Grammar.{Reads, IsNumber}
use Rattle.tc_types.specs.Names.{IsName}
use Rattle.tc_types.specs.Numbers.{IsMoment}
use Rattle.tc_front.specs.declared.paths.Post.{Post}
use Rattle.tc_front.specs.declared.judge.Refused.{Refused}
use Rattle.tc_front.specs.declared.judge.Refused.TheVariants as refused
use Rattle.tc_front.specs.declared.judge.Judgement.{Judgement}
use Rattle.tc_front.specs.declared.judge.Judgement.TheVariants as judgement
use Rattle.tc_front.specs.Paths.{Texts, places_text, request_text, history_text, report_text, waiting_text, urgent_text, moves_text, procedure_text, Named, posts_to, asks_for, shows_wall, tells_opening, path_of, same}
use Rattle.tc_front.specs.Fields.{values, Held, absent, single, several, found_of, IsDecimal}

-- ---- a question

-- what two make that are both there
abbrev pub both : {A B C : Type 0} → (A → B → C) → Option A → Option B → Option C
both f None b = None
both f (Some a) None = None
both f (Some a) (Some b) = Some (f a b)

-- the request of a number, which is read as those of an act are
abbrev pub AsksRequest : List ℕ → Option Query → Type 0
AsksRequest first asked = (n : Option ℕ) × Reads decimal IsNumber first n × (asked ≡ option_map (λ n. query.Request n) n)

-- the history of a request behind a row
abbrev pub AsksHistory : List ℕ → List ℕ → Option Query → Type 0
AsksHistory first second asked =
    (n : Option ℕ) × (m : Option ℕ) × Reads decimal IsNumber first n × Reads decimal IsNumber second m × (asked ≡ both (λ n m. query.History n m) n m)

-- the report of a shift, from a moment to before another
abbrev pub AsksReport : List ℕ → List ℕ → Option Query → Type 0
AsksReport first second asked =
    (n : Option ℕ) × (m : Option ℕ) × Reads decimal IsMoment first n × Reads decimal IsMoment second m × (asked ≡ both (λ n m. query.Report n m) n m)

-- the page of what is urgent that begins with a line
abbrev pub AsksUrgent : List ℕ → Option Query → Type 0
AsksUrgent first asked = (n : Option ℕ) × Reads decimal IsNumber first n × (asked ≡ option_map (λ n. query.Urgent n) n)

-- the moves behind a row
abbrev pub AsksMoves : List ℕ → Option Query → Type 0
AsksMoves first asked = (n : Option ℕ) × Reads decimal IsNumber first n × (asked ≡ option_map (λ n. query.Moves n) n)

-- the procedure of a name
abbrev pub AsksProcedure : List ℕ → Option Query → Type 0
AsksProcedure first asked = (name : Option (List ℕ)) × Reads (λ name. name) IsName first name × (asked ≡ option_map (λ name. query.Steps name) name)

-- the question of a path; none where a number in it is not in form
abbrev pub AsksFor : Texts → Option Query → Type 0
AsksFor places_text asked = asked ≡ Some query.Places
AsksFor (request_text number) asked = AsksRequest number asked
AsksFor (history_text first after) asked = AsksHistory first after asked
AsksFor (report_text from to) asked = AsksReport from to asked
AsksFor waiting_text asked = asked ≡ Some query.Waiting
AsksFor (urgent_text from) asked = AsksUrgent from asked
AsksFor (moves_text after) asked = AsksMoves after asked
AsksFor (procedure_text name) asked = AsksProcedure name asked

-- what is refused as bad
abbrev pub bad : Judgement
bad = judgement.Refused refused.Bad

-- what is asked, or else it is bad
abbrev pub asked_or_bad : Option Query → Judgement
asked_or_bad None = bad
asked_or_bad (Some asked) = judgement.Asks asked

-- a question asks what its path says
abbrev pub JudgesQuestion : Texts → Judgement → Type 0
JudgesQuestion texts j = (asked : Option Query) × AsksFor texts asked × (j ≡ asked_or_bad asked)

-- ---- the body's length

-- what is asked by GET has no length of a body, or exactly one that is 0; else it is bad
abbrev pub without_body : Held → Judgement → Judgement
without_body absent asked = asked
without_body (single value) asked = if same value (codes "0") then asked else bad
without_body several asked = bad

abbrev pub JudgesGet : Held → Texts → Judgement → Type 0
JudgesGet lengths texts j = (asked : Judgement) × JudgesQuestion texts asked × (j ≡ without_body lengths asked)

-- a decimal, and at most 65,536
abbrev pub JudgesLength : List ℕ → Post → Judgement → Type 0
JudgesLength value post j =
    ((¬ (IsDecimal value)) × (j ≡ bad))
    ⊎ (IsDecimal value × MatchBool (nat_lt 65536 (digits_value 10 value)) (j ≡ judgement.Refused refused.Large) (j ≡ judgement.Posts post (digits_value 10 value)))

-- what is posted has exactly one length
abbrev pub JudgesPost : Held → Post → Judgement → Type 0
JudgesPost absent post j = j ≡ bad
JudgesPost (single value) post j = JudgesLength value post j
JudgesPost several post j = j ≡ bad

-- by what the path names
abbrev pub JudgesBody : Held → Named → Judgement → Type 0
JudgesBody lengths (posts_to post) j = JudgesPost lengths post j
JudgesBody lengths (asks_for texts) j = JudgesGet lengths texts j
JudgesBody lengths shows_wall j = j ≡ without_body lengths judgement.ShowsWall
JudgesBody lengths tells_opening j = j ≡ without_body lengths judgement.TellsOpening

-- ---- the tests in their order: path, method, transfer coding, length

-- no field names a transfer coding
abbrev pub JudgesCoding : Held → Held → Named → Judgement → Type 0
JudgesCoding absent lengths named j = JudgesBody lengths named j
JudgesCoding (single value) lengths named j = j ≡ bad
JudgesCoding several lengths named j = j ≡ bad

-- the method by which a path is served
abbrev pub method_of : Named → List ℕ
method_of (posts_to post) = codes "POST"
method_of (asks_for texts) = codes "GET"
method_of shows_wall = codes "GET"
method_of tells_opening = codes "GET"

-- a path is served, and by this method
abbrev pub JudgesPath : List ℕ → List (List ℕ × List ℕ) → Option Named → Judgement → Type 0
JudgesPath method fields None j = j ≡ judgement.Refused refused.NoPath
JudgesPath method fields (Some named) j =
    MatchBool (same method (method_of named))
    (JudgesCoding (found_of (values (codes "transfer-encoding") fields)) (found_of (values (codes "content-length") fields)) named j)
    (j ≡ judgement.Refused refused.OtherMethod)

-- a request of this method, target and fields
abbrev pub JudgesParts : List ℕ → List ℕ → List (List ℕ × List ℕ) → Judgement → Type 0
JudgesParts method target fields j = JudgesPath method fields (path_of target) j

-- ---- a head text

-- the whole text is that request head, and it has so many header lines at most
abbrev pub IsGoodHead : List ℕ → ℕ → RequestHead → Type 0
IsGoodHead text room h = ReadsRequest text h [] × (length h.fields ≤ room)

-- a head text that is not good: too large where it has more than 66 LF bytes
abbrev pub unfit : List ℕ → Refused
unfit text = if nat_lt 66 (count_by (λ byte. byte == 10) text) then refused.Large else refused.Bad

-- a request by its head
abbrev pub JudgesHead : RequestHead → Judgement → Type 0
JudgesHead h j = JudgesParts h.method h.target (map name_and_value h.fields) j

-- what a head text asks
abbrev pub Judges : List ℕ → Judgement → Type 0
Judges text j =
    ((h : RequestHead) × IsGoodHead text 64 h × JudgesHead h j)
    ⊎ (((h : RequestHead) → ¬ (IsGoodHead text 64 h)) × (j ≡ judgement.Refused (unfit text)))

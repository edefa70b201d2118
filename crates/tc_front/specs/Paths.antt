-- The paths that the desk serves. A text in a path is not empty, and no slash is in it.
use Rattle.std.specs.Prelude.{ℕ, ◌==◌, ◌&&◌, nat_lt, Bool, true, false, if◌then◌else◌, Option, Some, None, List, [], ◌∷◌, codes, length}
use Rattle.tc_types.specs.Words.{words}
use Rattle.tc_front.specs.declared.paths.Post.{Post}
use Rattle.tc_front.specs.declared.paths.Post.TheVariants as post
use Rattle.tc_front.specs.declared.paths.Question.{Question}
use Rattle.tc_front.specs.declared.paths.Question.TheVariants as question
use Rattle.tc_front.specs.declared.paths.Path.{Path}
use Rattle.tc_front.specs.declared.paths.Path.TheVariants as path

-- a question, with the texts that stand for its numbers
pub data Texts : Type 0 where
  places_text : Texts
  request_text : List ℕ → Texts
  history_text : List ℕ → List ℕ → Texts
  report_text : List ℕ → List ℕ → Texts
  waiting_text : Texts
  urgent_text : List ℕ → Texts
  moves_text : List ℕ → Texts
  procedure_text : List ℕ → Texts

-- what a path names: where to something is posted, a question, the wall, or how the desk was opened
pub data Named : Type 0 where
  posts_to : Post → Named
  asks_for : Texts → Named
  shows_wall : Named
  tells_opening : Named

-- the code's question, with the bytes of its texts
abbrev pub texts_of : Question → Texts
texts_of question.Places = places_text
texts_of (question.Request number) = request_text number.now
texts_of (question.History request after) = history_text request.now after.now
texts_of (question.Report from to) = report_text from.now to.now
texts_of question.Waiting = waiting_text
texts_of (question.Urgent from) = urgent_text from.now
texts_of (question.Moves after) = moves_text after.now
texts_of (question.Procedure name) = procedure_text name.now

-- what the code's path names
abbrev pub named_by : Path → Named
named_by (path.Posts to) = posts_to to
named_by (path.Asks asked) = asks_for (texts_of asked)
named_by path.Wall = shows_wall
named_by path.Opening = tells_opening

-- the same bytes
abbrev pub same : List ℕ → List ℕ → Bool
same [] [] = true
same [] (y ∷ ys) = false
same (x ∷ xs) [] = false
same (x ∷ xs) (y ∷ ys) = x == y && same xs ys

-- a byte is there
abbrev pub is_filled : List ℕ → Bool
is_filled text = nat_lt 0 (length text)

-- this, where nothing stands behind
abbrev pub ends_here : Named → List (List ℕ) → Option Named
ends_here named [] = Some named
ends_here named (text ∷ texts) = None

-- one text, and nothing behind
abbrev pub one_text : (List ℕ → Named) → List (List ℕ) → Option Named
one_text named [] = None
one_text named (text ∷ texts) = if is_filled text then ends_here (named text) texts else None

-- two texts, and nothing behind
abbrev pub two_texts : (List ℕ → List ℕ → Named) → List (List ℕ) → Option Named
two_texts named [] = None
two_texts named (text ∷ texts) = if is_filled text then one_text (named text) texts else None

-- /requests/NUMBER
abbrev pub request : List ℕ → Named
request number = asks_for (request_text number)

-- /history/REQUEST/AFTER
abbrev pub history : List ℕ → List ℕ → Named
history first after = asks_for (history_text first after)

-- /report/FROM/TO
abbrev pub report : List ℕ → List ℕ → Named
report from to = asks_for (report_text from to)

-- /urgent/FROM
abbrev pub urgent : List ℕ → Named
urgent from = asks_for (urgent_text from)

-- /moves/AFTER
abbrev pub moves : List ℕ → Named
moves after = asks_for (moves_text after)

-- /procedures/NAME
abbrev pub procedure : List ℕ → Named
procedure name = asks_for (procedure_text name)

-- /procedures, to which one is posted, or one of them
abbrev pub procedures : List (List ℕ) → Option Named
procedures [] = Some (posts_to post.Procedures)
procedures (text ∷ texts) = one_text procedure (text ∷ texts)

-- by the name behind the first slash, as it is spelled here
abbrev pub named_path : List (List ℕ) → Option Named
named_path [] = None
named_path (name ∷ texts) =
    if same name (codes "acts") then ends_here (posts_to post.Acts) texts
    else (if same name (codes "stacks") then ends_here (posts_to post.Stacks) texts
    else (if same name (codes "procedures") then procedures texts
    else (if same name (codes "places") then ends_here (asks_for places_text) texts
    else (if same name (codes "requests") then one_text request texts
    else (if same name (codes "history") then two_texts history texts
    else (if same name (codes "report") then two_texts report texts
    else (if same name (codes "waiting") then ends_here (asks_for waiting_text) texts
    else (if same name (codes "urgent") then one_text urgent texts
    else (if same name (codes "moves") then one_text moves texts
    else (if same name (codes "board") then ends_here shows_wall texts
    else (if same name (codes "opening") then ends_here tells_opening texts else None)))))))))))

-- nothing stands before the first slash
abbrev pub behind_slash : List (List ℕ) → Option Named
behind_slash [] = None
behind_slash (text ∷ texts) = if is_filled text then None else named_path texts

-- what a target names, which is a path as a whole, parted by slashes
abbrev pub path_of : List ℕ → Option Named
path_of target = behind_slash (words 47 target)

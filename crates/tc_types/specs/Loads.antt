-- The spelling of script lines that load a file.
use Rattle.std.specs.Prelude.{◌≡◌, ℕ, ◌<◌, ◌==◌, false, List, [], ◌∷◌, length}
use Rattle.std.specs.List.{list_any}
use Rattle.std.specs.Fmt.{decimal}
use Rattle.std.specs.Str.{IsUtf8}
use Rattle.tc_types.specs.declared.loads.Load.{Load}
use Rattle.tc_types.specs.declared.loads.LoadKind.{LoadKind}
use Rattle.tc_types.specs.declared.loads.LoadKind.TheVariants as kind
use Rattle.tc_types.specs.declared.verbs.Verb.TheVariants as verb
use Rattle.tc_types.specs.Verbs.{verb_word}
use Rattle.tc_types.specs.Numbers.{IsMoment}
use Rattle.tc_types.specs.Names.{IsName, IsPerson}
use Rattle.tc_types.specs.Lines.{spaced}

-- what such a line says
pub record LoadLine : Type 0 where
  pub moment : ℕ
  pub by : List ℕ
  pub kind : LoadKind
  pub name : List ℕ
  pub path : List ℕ

abbrev pub line_of : Load → LoadLine
line_of load = record { moment = load.moment; by = load.by; kind = load.kind; name = load.name; path = load.path.now }

-- a path is a text of one word
pub record IsPath (path : List ℕ) : Type 0 where
  pub some : 0 < length path
  pub text : IsUtf8 path
  pub one_word : list_any (λ byte. byte == 32) path ≡ false

-- what is loaded, in a word
abbrev pub kind_word : LoadKind → List ℕ
kind_word kind.Stack = verb_word verb.Stack
kind_word kind.Procedure = verb_word verb.Procedure

-- MOMENT PERSON stack NAME PATH, or procedure in place of stack
abbrev pub load_words : LoadLine → List (List ℕ)
load_words line = decimal line.moment ∷ line.by ∷ kind_word line.kind ∷ line.name ∷ line.path ∷ []

-- the limits that it keeps
abbrev pub IsLoad : LoadLine → Type 0
IsLoad line = IsMoment line.moment × IsPerson line.by × IsName line.name × IsPath line.path

-- the one spelling of it
abbrev pub load_text : LoadLine → List ℕ
load_text line = spaced (load_words line)

-- these bytes spell this line
abbrev pub SpellsLoad : List ℕ → LoadLine → Type 0
SpellsLoad bytes line = (bytes ≡ load_text line) × IsLoad line

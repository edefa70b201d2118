-- Why a text is no profile, in words for a person.
use Rattle.std.specs.Prelude.{ℕ, ◌==◌, if◌then◌else◌, List, ◌++◌, codes}
use Rattle.std.specs.Fmt.{decimal}
use Rattle.tc_octets.specs.declared.profile_texts.ProfileFault.{ProfileFault}
use Rattle.tc_octets.specs.declared.profile_texts.ProfileWord.{ProfileWord}
use Rattle.tc_octets.specs.declared.profile_texts.ProfileWord.TheVariants as words

abbrev pub problem_words : ProfileWord → List ℕ
problem_words words.TooLong = codes "it has more than 4096 bytes"
problem_words words.BadText = codes "is no comment and no KEY = VALUE in printable characters"
problem_words words.UnknownKey = codes "has a key that no profile has"
problem_words words.KeyTwice = codes "has a key that a line before it has"
problem_words words.BadValue = codes "has a value that its key may not have"
problem_words words.Clash = codes "tc.correct is yes, and tc.fecf is no"

abbrev pub line_problem : ℕ → List ℕ → List ℕ
line_problem line words = codes "line " ++ decimal line ++ codes " " ++ words

-- the problem of the text as a whole, which has no line, or of a line
abbrev pub problem : ProfileFault → List ℕ
problem fault = if fault.line == 0 then problem_words fault.word else line_problem fault.line (problem_words fault.word)

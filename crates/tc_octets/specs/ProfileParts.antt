-- The parts of a profile whose text has no fault.
use Rattle.std.specs.Prelude.{◌≡◌, ℕ, ◌≤◌, List}
use Rattle.std.specs.Fmt.{decimal}
use Rattle.tc_octets.specs.declared.profiles.TcChannel.{TcChannel}
use Rattle.tc_octets.specs.declared.profiles.TmChannel.{TmChannel}
use Rattle.tc_octets.specs.declared.keys.Key.{Key}
use Rattle.tc_octets.specs.declared.keys.Key.TheVariants as keys
use Rattle.tc_octets.specs.ProfileKeys.{IsValue, map_word, yes_no}
use Rattle.tc_octets.specs.ProfileTexts.{statements, value_of}

-- the value that a text gives a key, or its default
abbrev pub value_at : List ℕ → Key → List ℕ
value_at text key = value_of key (statements text)

-- each key has a value that it may have
pub record AreValues (text : List ℕ) : Type 0 where
  pub each : (key : Key) → IsValue key (value_at text key)

-- a number of this range, and its digits
pub record IsNumberIn (least most n : ℕ) (value : List ℕ) : Type 0 where
  pub digits : value ≡ decimal n
  pub above : least ≤ n
  pub below : n ≤ most

-- a channel with the values that a text gives its keys
pub record HasTc (channel : TcChannel) (text : List ℕ) : Type 0 where
  pub vcid : decimal channel.vcid ≡ value_at text keys.TcVcid
  pub map : map_word channel.map ≡ value_at text keys.TcMap
  pub window : decimal channel.window ≡ value_at text keys.TcWindow
  pub fecf : yes_no channel.fecf ≡ value_at text keys.TcFecf
  pub randomizer : yes_no channel.randomizer ≡ value_at text keys.TcRandomizer
  pub idle : decimal channel.idle ≡ value_at text keys.TcIdle
  pub correct : yes_no channel.correct ≡ value_at text keys.TcCorrect

pub record HasTm (channel : TmChannel) (text : List ℕ) : Type 0 where
  pub size : decimal channel.length ≡ value_at text keys.TmLength
  pub vcid : decimal channel.vcid ≡ value_at text keys.TmVcid
  pub fecf : yes_no channel.fecf ≡ value_at text keys.TmFecf

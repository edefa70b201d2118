-- What is told of octets of a layer.
use Rattle.std.specs.Prelude.{ℕ, Bool, true, false, List, Option, Some, None}
use Rattle.tc_octets.specs.declared.profiles.Profile.{Profile}
use Rattle.tc_decoded.specs.declared.decoding.Layer.{Layer}
use Rattle.tc_decoded.specs.declared.decoding.Layer.TheVariants as layers
use Rattle.tc_decoded.specs.declared.lines.Line.{Line}
use Rattle.tc_decoded.specs.CltuLines.{CltusTold}
use Rattle.tc_decoded.specs.Places.{the_whole}
use Rattle.tc_decoded.specs.ReportLines.{PacketTold}
use Rattle.tc_decoded.specs.TcFrameLines.{TcFrameTold}
use Rattle.tc_decoded.specs.TmFrameLines.{TmFrameTold}
use Rattle.tc_decoded.specs.declared.rows.Fit.{Fit}

-- the lines of octets of a layer
abbrev pub Decodes : Profile → Layer → List ℕ → List Line → Type 0
Decodes profile layers.Frame octets lines = TcFrameTold the_whole profile octets lines
Decodes profile layers.Cltu octets lines = CltusTold profile octets lines
Decodes profile layers.Packet octets lines = PacketTold the_whole profile octets lines
Decodes profile layers.Tm octets lines = TmFrameTold the_whole profile octets lines

-- a line that says what is wrong
abbrev pub is_some : Option Fit → Bool
is_some None = false
is_some (Some fit) = true

abbrev pub is_fault : Line → Bool
is_fault line = is_some line.fault

-- The words of the layers of the link.
use Rattle.std.specs.Prelude.{ℕ, List, codes}
use Rattle.tc_words.specs.declared.layers.Layer.{Layer}
use Rattle.tc_words.specs.declared.layers.Layer.TheVariants as layer

abbrev pub layer_word : Layer → List ℕ
layer_word layer.Frame = codes "frame"
layer_word layer.Cltu = codes "cltu"
layer_word layer.Packet = codes "packet"
layer_word layer.Tm = codes "tm"

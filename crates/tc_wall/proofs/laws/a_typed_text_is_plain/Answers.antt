use Rattle.tc_wall.proofs.EscapeLemmas.{escaped_plain, escaped_alike}
use Rattle.tc_wall.proofs.laws.a_typed_text_is_plain.Goals as goal

pub returns : goal.returns
returns c = record { plain = escaped_plain; alike = escaped_alike }

use Rattle.std.proofs.Common.{rules}
use Rattle.tc_types.proofs.NameLaws.{IsUtf8-name}
use Rattle.tc_types.proofs.names.Name.as_str.Goals as goal

pub unwrap-requires : goal.unwrap-requires
unwrap-requires c = search (rules, IsUtf8-name _ c.self.invariant.3)

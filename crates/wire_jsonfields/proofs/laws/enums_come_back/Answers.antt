use Rattle.wire_jsonfields.specs.EnumsBack.{enum_back}
use Rattle.wire_jsonfields.proofs.laws.enums_come_back.Goals as goal

pub returns : goal.returns
returns g c = enum_back g.E.JsonEnum.table

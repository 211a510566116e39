use Rattle.wire_fields.specs.Short.{short_whole}
use Rattle.wire_fields.proofs.laws.whole_is_short.Goals as goal

pub returns : goal.returns
returns c = short_whole c.joined_records_add_up.ensures

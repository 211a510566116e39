use Rattle.wire_read.proofs.Fronts.{behind_longest}
use Rattle.wire_read.proofs.laws.fault_is_behind_longest.Goals as goal

pub returns : goal.returns
returns c = behind_longest c.one_tag.ensures c.no_tag_beside_fault.ensures
    c.no_payload_beside_fault.ensures c.one_payload.ensures c.limits_add_up.ensures
    c.levels_add_up.ensures

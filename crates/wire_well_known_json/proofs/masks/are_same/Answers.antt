use Rattle.wire_well_known_json.proofs.SamePaths.{told_same}
use Rattle.wire_well_known_json.proofs.masks.are_same.Goals as goal

pub returns : goal.returns
returns c = told_same c.args.some.now c.args.others.now c.eq.result c.eq.ensures

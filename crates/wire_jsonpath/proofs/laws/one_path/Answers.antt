use Rattle.wire_jsonpath.proofs.Leading.{has_one_path}
use Rattle.wire_jsonpath.proofs.laws.one_path.Goals as goal

pub returns : goal.returns
returns c = has_one_path

use Rattle.wire_jsonfields.specs.ListsBack.{read_from}
use Rattle.wire_jsonfields.proofs.laws.written_is_read.Goals as goal

pub returns : goal.returns
returns g c = read_from g.V.JsonValue.means

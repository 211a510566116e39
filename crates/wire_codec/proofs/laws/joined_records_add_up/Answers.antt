use Rattle.wire_codec.proofs.RecordsLaws.{text-joined, sizes-joined}
use Rattle.wire_codec.proofs.laws.joined_records_add_up.Goals as goal

pub returns : goal.returns
returns c = record { text = text-joined; sizes = sizes-joined }

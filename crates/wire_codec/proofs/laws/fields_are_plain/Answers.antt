use Rattle.wire_codec.proofs.RecordsLaws.{plain-of_fields, sizes-of_fields}
use Rattle.wire_codec.proofs.laws.fields_are_plain.Goals as goal

pub returns : goal.returns
returns c = record { plain = plain-of_fields; sizes = sizes-of_fields }

use Rattle.wire_base.proofs.FieldLaws.{payload_is_field_lemma}
use Rattle.wire_base.proofs.laws.payload_is_field.Goals as goal

pub returns : goal.returns
returns c = payload_is_field_lemma

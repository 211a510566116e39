use Rattle.wire_base.proofs.FieldLaws.{one_payload_lemma}
use Rattle.wire_base.proofs.laws.one_payload.Goals as goal

pub returns : goal.returns
returns c = one_payload_lemma

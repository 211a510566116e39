use Rattle.wire_base.proofs.FieldLaws.{one_spelled_lemma}
use Rattle.wire_base.proofs.laws.one_spelled.Goals as goal

pub returns : goal.returns
returns c = one_spelled_lemma

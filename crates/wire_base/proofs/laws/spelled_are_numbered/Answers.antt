use Rattle.wire_base.proofs.FieldLaws.{spelled_are_numbered_lemma}
use Rattle.wire_base.proofs.laws.spelled_are_numbered.Goals as goal

pub returns : goal.returns
returns c = spelled_are_numbered_lemma

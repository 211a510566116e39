use Rattle.wire_base.proofs.FieldLaws.{numbered_together_lemma}
use Rattle.wire_base.proofs.laws.numbered_together.Goals as goal

pub returns : goal.returns
returns c = numbered_together_lemma

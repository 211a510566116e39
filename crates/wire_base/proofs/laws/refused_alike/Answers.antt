use Rattle.wire_base.proofs.Agreement.{refused_alike_lemma}
use Rattle.wire_base.proofs.laws.refused_alike.Goals as goal

pub returns : goal.returns
returns c = refused_alike_lemma

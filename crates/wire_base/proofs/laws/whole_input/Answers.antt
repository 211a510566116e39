use Rattle.wire_base.proofs.Takes.{whole_input_lemma}
use Rattle.wire_base.proofs.laws.whole_input.Goals as goal

pub returns : goal.returns
returns c = whole_input_lemma

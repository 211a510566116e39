use Rattle.wire_base.proofs.DelimitedLaws.{one_delimited_lemma}
use Rattle.wire_base.proofs.laws.one_delimited.Goals as goal

pub returns : goal.returns
returns c = one_delimited_lemma

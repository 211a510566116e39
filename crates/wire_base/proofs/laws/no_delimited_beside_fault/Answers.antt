use Rattle.wire_base.proofs.DelimitedLaws.{no_delimited_beside_fault_lemma}
use Rattle.wire_base.proofs.laws.no_delimited_beside_fault.Goals as goal

pub returns : goal.returns
returns c = no_delimited_beside_fault_lemma

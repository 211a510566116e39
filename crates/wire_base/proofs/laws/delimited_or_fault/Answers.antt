use Rattle.wire_base.proofs.DelimitedLaws.{delimited_or_fault_lemma}
use Rattle.wire_base.proofs.laws.delimited_or_fault.Goals as goal

pub returns : goal.returns
returns c = delimited_or_fault_lemma

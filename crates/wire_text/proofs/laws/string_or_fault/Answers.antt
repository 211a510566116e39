use Rattle.wire_text.proofs.StringLaws.{string_or_fault_lemma}
use Rattle.wire_text.proofs.laws.string_or_fault.Goals as goal

pub returns : goal.returns
returns c = string_or_fault_lemma c.delimited_or_fault.ensures

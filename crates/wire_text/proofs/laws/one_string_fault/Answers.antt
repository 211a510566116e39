use Rattle.wire_text.proofs.StringLaws.{one_string_fault_lemma}
use Rattle.wire_text.proofs.laws.one_string_fault.Goals as goal

pub returns : goal.returns
returns c = one_string_fault_lemma c.no_delimited_beside_fault.ensures c.one_delimited_fault.ensures

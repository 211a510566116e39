use Rattle.wire_text.proofs.StringLaws.{no_string_beside_fault_lemma}
use Rattle.wire_text.proofs.laws.no_string_beside_fault.Goals as goal

pub returns : goal.returns
returns c = no_string_beside_fault_lemma c.one_delimited.ensures c.no_delimited_beside_fault.ensures

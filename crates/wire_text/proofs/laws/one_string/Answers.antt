use Rattle.wire_text.proofs.StringLaws.{one_string_lemma}
use Rattle.wire_text.proofs.laws.one_string.Goals as goal

pub returns : goal.returns
returns c = one_string_lemma c.one_delimited.ensures

use Rattle.wire_json.proofs.OneReading.{one_value_lemma}
use Rattle.wire_json.proofs.laws.one_value.Goals as goal

pub returns : goal.returns
returns c = one_value_lemma

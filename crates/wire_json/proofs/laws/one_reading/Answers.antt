use Rattle.wire_json.proofs.OneReading.{one_reading_lemma}
use Rattle.wire_json.proofs.laws.one_reading.Goals as goal

pub returns : goal.returns
returns c = one_reading_lemma

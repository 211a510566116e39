use Rattle.wire_base.proofs.Spans.{spans_charge_records_lemma}
use Rattle.wire_base.proofs.laws.spans_charge_records.Goals as goal

pub returns : goal.returns
returns c = spans_charge_records_lemma

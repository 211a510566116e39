use Rattle.wire_base.proofs.Spans.{one_spans_charge_lemma}
use Rattle.wire_base.proofs.laws.one_spans_charge.Goals as goal

pub returns : goal.returns
returns c = one_spans_charge_lemma

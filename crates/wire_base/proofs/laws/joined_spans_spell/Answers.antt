use Rattle.wire_base.proofs.Spans.{joined_spans_spell_lemma}
use Rattle.wire_base.proofs.laws.joined_spans_spell.Goals as goal

pub returns : goal.returns
returns c = joined_spans_spell_lemma

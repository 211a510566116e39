use Rattle.wire_base.proofs.Agreement.{body_where_decoded_lemma}
use Rattle.wire_base.proofs.laws.body_where_decoded.Goals as goal

pub returns : goal.returns
returns c = body_where_decoded_lemma

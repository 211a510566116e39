use Rattle.wire_base.proofs.Agreement.{skipped_where_decoded_lemma}
use Rattle.wire_base.proofs.laws.skipped_where_decoded.Goals as goal

pub returns : goal.returns
returns c = skipped_where_decoded_lemma

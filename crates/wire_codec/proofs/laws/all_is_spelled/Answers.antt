use Rattle.wire_codec.proofs.TakenAll.{all_is_spelled_lemma}
use Rattle.wire_codec.proofs.laws.all_is_spelled.Goals as goal

pub returns : goal.returns
returns g c = all_is_spelled_lemma g.M.Message.takes c.whole_input.ensures

use Rattle.wire_codec.proofs.DelimitedLists.{limit_is_the_lesser_lemma}
use Rattle.wire_codec.proofs.laws.limit_is_the_lesser.Goals as goal

pub returns : goal.returns
returns g c = limit_is_the_lesser_lemma g.M.Message.takes

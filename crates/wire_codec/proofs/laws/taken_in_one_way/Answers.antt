use Rattle.wire_codec.proofs.TakenAll.{taken_in_one_way_lemma}
use Rattle.wire_codec.proofs.laws.taken_in_one_way.Goals as goal

pub returns : goal.returns
returns g c = taken_in_one_way_lemma g.M.Message.takes c.one_list.ensures
    (g.met.M.Message.single c.one_reading.ensures)

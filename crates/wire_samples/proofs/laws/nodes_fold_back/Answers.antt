use Rattle.wire_samples.proofs.NodeFolds.{node_back}
use Rattle.wire_samples.proofs.NodeLists.{to_folds}
use Rattle.wire_samples.proofs.laws.nodes_fold_back.Goals as goal

pub returns : goal.returns
returns c = λ m h small.
    let back = node_back c.charges_add_up.ensures c.shortest_text_spells.ensures
    c.joined_records_add_up.ensures c.values_read_back.ensures.sint64
    c.fields_are_plain.ensures m h small in
    record {
      fitting = back.fitting;
      numbered = back.numbered;
      folded = to_folds back.folded;
    }

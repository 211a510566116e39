use Rattle.wire_protojson.proofs.ReadBack.{by_meaning}
use Rattle.wire_jsonfields.specs.Batch.{batch-back, batch-says}
use Rattle.wire_jsonfields.specs.ListsBack.{read_from}
use Rattle.wire_jsonfields.specs.Messages.{ObjectMeans}
use Rattle.wire_jsonfields.proofs.HandDepths.{batch_within}
use Rattle.wire_jsonfields.proofs.batch.batch_reads_back.Goals as goal

pub returns-clause-back : goal.returns-clause-back
returns-clause-back c = λ v json range tree.
    let b = batch-back v range json tree in
    by_meaning (ObjectMeans batch-says) v json b.lawful b.means

pub returns-clause-text : goal.returns-clause-text
returns-clause-text c = λ v json range tree.
    (read_from (ObjectMeans batch-says) json v (batch-back v range json tree) 3).0
    (batch_within v json tree)

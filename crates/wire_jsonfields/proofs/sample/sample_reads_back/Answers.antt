use Rattle.wire_protojson.proofs.ReadBack.{by_meaning}
use Rattle.wire_jsonfields.specs.Sample.{sample-back, sample-says}
use Rattle.wire_jsonfields.specs.ListsBack.{read_from}
use Rattle.wire_jsonfields.specs.Messages.{ObjectMeans}
use Rattle.wire_jsonfields.proofs.HandDepths.{sample_within}
use Rattle.wire_jsonfields.proofs.sample.sample_reads_back.Goals as goal

pub returns-clause-back : goal.returns-clause-back
returns-clause-back c = λ v json range tree.
    let b = sample-back v range json tree in
    by_meaning (ObjectMeans sample-says) v json b.lawful b.means

pub returns-clause-text : goal.returns-clause-text
returns-clause-text c = λ v json range tree.
    (read_from (ObjectMeans sample-says) json v (sample-back v range json tree) 1).0
    (sample_within v json tree)

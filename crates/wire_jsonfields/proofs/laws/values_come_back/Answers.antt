use Rattle.wire_protojson.proofs.ReadBack.{by_meaning}
use Rattle.wire_jsonfields.specs.ListsBack.{read_from}
use Rattle.wire_jsonfields.proofs.laws.values_come_back.Goals as goal

pub returns-clause-means : goal.returns-clause-means
returns-clause-means g c = g.V.JsonValue.back

pub returns-clause-text : goal.returns-clause-text
returns-clause-text g c = λ v json range tree.
    read_from g.V.JsonValue.means json v (g.V.JsonValue.back v range json tree)

pub returns-clause-front : goal.returns-clause-front
returns-clause-front g c = λ v json range tree.
    let b = g.V.JsonValue.back v range json tree in
    by_meaning g.V.JsonValue.means v json b.lawful b.means

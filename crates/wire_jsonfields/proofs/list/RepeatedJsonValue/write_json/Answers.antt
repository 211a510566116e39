use Rattle.std.proofs.Common.{map, subst}
use Rattle.std.proofs.lemmas.Result.{IfErr-weaker}
use Rattle.wire_jsonfields.specs.Lists.{IsListTree}
use Rattle.wire_jsonfields.specs.Told.{HasNoTree}
use Rattle.wire_jsonfields.proofs.list.RepeatedJsonValue.write_json.Goals as goal

pub returns-clause-no_text : goal.returns-clause-no_text
returns-clause-no_text g c =
    let tree = g.V.JsonValue.tree in
    let view = g.V.JsonValue.view in
    IfErr-weaker c.write_elements.result _ _ (λ e untold other.
    subst (λ l. HasNoTree (IsListTree tree) (map view l)) c.as_slice.ensures.value (untold other))
    c.write_elements.ensures.no_text

use Rattle.std.proofs.Common.{◌≢◌, List, Global, map, subst}
use Rattle.std.specs.Prelude.{IfErr, String, string_bytes}
use Rattle.wire_jsonfields.specs.Told.{HasNoTree}
use Rattle.wire_protojson.specs.declared.refusal.WriteError.TheVariants.{OutOfMemory}
use Rattle.wire_well_known_json.specs.Masks.{IsMaskTree}
use Rattle.wire_well_known_json.proofs.field_mask.FieldMaskJsonJsonValue.write_json.Goals as goal

pub returns-clause-no_text : goal.returns-clause-no_text
returns-clause-no_text c =
    subst
    (λ (paths : List (String Global)). IfErr c.write_mask.result
    (λ e. e ≢ OutOfMemory → HasNoTree IsMaskTree (map string_bytes paths)))
    c.deref.ensures.value c.write_mask.ensures.no_text

use Rattle.std.proofs.Common.{drop}
use Rattle.wire_jsonfields.specs.Objects.{IsNameOf}
use Rattle.wire_well_known_json.proofs.NullableReads.{no_value_read, several_said, value_said}
use Rattle.wire_well_known_json.proofs.nullable.read_nullable.Goals as goal

pub returns-in-Ok-clause-ok : goal.returns-in-Ok-clause-ok
returns-in-Ok-clause-ok g c = λ ms are.
    let text = c.args.text.now in
    let Named = IsNameOf c.args.field.now.name.now c.args.field.now.json_name.now in
    let only = rw c.in-Ok-Some.field-0-is at (c.in-Ok-Some.ensures.ok text ms are) in
    value_said g.V.JsonValue.means Named text ms c.in-Ok-Some.place only c.args.levels
    (g.V.JsonValue.view c.in-Ok.value) (drop c.in-Ok._after text) c.in-Ok.ensures.ok

pub returns-in-Err-read_json-clause-err : goal.returns-in-Err-read_json-clause-err
returns-in-Err-read_json-clause-err g c = λ other ms are fits.
    let text = c.args.text.now in
    let Named = IsNameOf c.args.field.now.name.now c.args.field.now.json_name.now in
    let only = rw c.in-Ok-Some.field-0-is at (c.in-Ok-Some.ensures.ok text ms are) in
    no_value_read g.V.JsonValue.means Named text ms c.in-Ok-Some.place only c.args.levels
    (c.in-Err-read_json.ensures.err other) fits

pub returns-in-Err-clause-err : goal.returns-in-Err-clause-err
returns-in-Err-clause-err g c = λ other ms are fits.
    let text = c.args.text.now in
    let Named = IsNameOf c.args.field.now.name.now c.args.field.now.json_name.now in
    several_said g.V.JsonValue.means Named text ms (c.in-Err.ensures.err text ms are)

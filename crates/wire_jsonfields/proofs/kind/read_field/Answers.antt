use Rattle.std.proofs.Common.{drop}
use Rattle.wire_jsonfields.specs.Objects.{IsNameOf}
use Rattle.wire_jsonfields.proofs.FieldReads.{found_means, found_nothing, several_nothing}
use Rattle.wire_jsonfields.proofs.kind.read_field.Goals as goal

pub returns-in-Ok-clause-ok : goal.returns-in-Ok-clause-ok
returns-in-Ok-clause-ok g c = λ ms are.
    let text = c.args.text.now in
    let Named = IsNameOf c.args.field.now.name.now c.args.field.now.json_name.now in
    let only = rw c.in-Ok-Some.field-0-is at (c.in-Ok-Some.ensures.ok text ms are) in
    found_means g.K.JsonValue.absent g.K.JsonValue.means Named text ms c.in-Ok-Some.place only
    c.if-is_null.ensures c.args.levels (g.K.JsonValue.view c.in-Ok.held) (drop c.in-Ok._after text)
    c.in-Ok.ensures.ok

pub returns-in-Err-read_json-clause-err : goal.returns-in-Err-read_json-clause-err
returns-in-Err-read_json-clause-err g c = λ other ms are fits.
    let text = c.args.text.now in
    let Named = IsNameOf c.args.field.now.name.now c.args.field.now.json_name.now in
    let only = rw c.in-Ok-Some.field-0-is at (c.in-Ok-Some.ensures.ok text ms are) in
    found_nothing g.K.JsonValue.absent g.K.JsonValue.means Named text ms c.in-Ok-Some.place only
    c.if-is_null.ensures c.args.levels (c.in-Err-read_json.ensures.err other) fits

pub returns-in-Err-clause-err : goal.returns-in-Err-clause-err
returns-in-Err-clause-err g c = λ other ms are fits.
    let text = c.args.text.now in
    let Named = IsNameOf c.args.field.now.name.now c.args.field.now.json_name.now in
    several_nothing g.K.JsonValue.absent g.K.JsonValue.means Named text ms
    (c.in-Err.ensures.err text ms are)

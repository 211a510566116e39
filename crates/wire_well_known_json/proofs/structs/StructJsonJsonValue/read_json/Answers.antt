use Rattle.std.proofs.Common.{drop}
use Rattle.wire_well_known_json.specs.Structs.{held_fields}
use Rattle.wire_well_known_json.proofs.StructReads.{fields_within, no_struct}
use Rattle.wire_well_known_json.proofs.structs.StructJsonJsonValue.read_json.Goals as goal

pub returns-in-Ok-clause-ok : goal.returns-in-Ok-clause-ok
returns-in-Ok-clause-ok c =
    let text = c.args.text.now in
    rw c.struct_with.ensures (fields_within (drop c.args.at text) c.args.levels
    (held_fields c.in-Ok.fields.items) (drop c.in-Ok.after text) c.in-Ok.ensures.ok)

pub returns-in-Err-clause-err : goal.returns-in-Err-clause-err
returns-in-Err-clause-err c = λ other.
    no_struct c.args.levels (drop c.args.at c.args.text.now) (c.in-Err.ensures.err other)

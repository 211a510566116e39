use Rattle.std.proofs.Common.{drop, map}
use Rattle.wire_well_known_json.specs.Structs.{value-plain}
use Rattle.wire_well_known_json.proofs.StructReads.{list_within, no_list_value}
use Rattle.wire_well_known_json.proofs.structs.ListValueJsonJsonValue.read_json.Goals as goal

pub returns-in-Ok-clause-ok : goal.returns-in-Ok-clause-ok
returns-in-Ok-clause-ok c =
    let text = c.args.text.now in
    rw c.list_with.ensures (list_within (drop c.args.at text) c.args.levels
    (map value-plain c.in-Ok.values.items) (drop c.in-Ok.after text) c.in-Ok.ensures.ok)

pub returns-in-Err-clause-err : goal.returns-in-Err-clause-err
returns-in-Err-clause-err c = λ other.
    no_list_value c.args.levels (drop c.args.at c.args.text.now) (c.in-Err.ensures.err other)

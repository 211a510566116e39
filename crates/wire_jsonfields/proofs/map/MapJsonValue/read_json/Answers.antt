use Rattle.std.proofs.Common.{[], drop}
use Rattle.wire_json.specs.Json.{object}
use Rattle.wire_jsonfields.specs.Maps.{MembersPut}
use Rattle.wire_jsonfields.proofs.MessageReads.{in_slice, no_object, none_said}
use Rattle.wire_jsonfields.proofs.map.MapJsonValue.read_json.Goals as goal

pub returns-in-Ok-read_map_entries-clause-ok : goal.returns-in-Ok-read_map_entries-clause-ok
returns-in-Ok-read_map_entries-clause-ok g c =
    let text = c.args.text.now in
    let (ms, reads, fits, are) = c.in-Ok.ensures.ok in
    let entries = in_slice text ms c.as_slice.result.now c.in-Ok.object.members.items
    c.as_slice.ensures.value are in
    (object ms, reads, fits, c.in-Ok-read_map_entries.ensures.ok ms entries)

pub returns-in-Ok-clause-err : goal.returns-in-Ok-clause-err
returns-in-Ok-clause-err g c = λ other.
    let text = c.args.text.now in
    let (ms, reads, fits, are) = c.in-Ok.ensures.ok in
    let entries = in_slice text ms c.as_slice.result.now c.in-Ok.object.members.items
    c.as_slice.ensures.value are in
    none_said (λ xs m. MembersPut g.K.JsonKey.order g.K.JsonKey.means g.V.JsonValue.means xs [] m)
    c.args.levels (drop c.args.at text) ms (drop c.in-Ok.object.after text) reads
    (λ m deep says. c.in-Err-read_map_entries.ensures.err other ms entries deep m says)

pub returns-clause-err : goal.returns-clause-err
returns-clause-err g c =
    let text = c.args.text.now in
    no_object (λ xs m. MembersPut g.K.JsonKey.order g.K.JsonKey.means g.V.JsonValue.means xs [] m)
    c.args.levels (drop c.args.at text) text c.in-Err.error c.in-Err.ensures.err

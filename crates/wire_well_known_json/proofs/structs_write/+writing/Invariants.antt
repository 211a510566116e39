-- A list and a struct nest one level deeper than what stands in them.
use Rattle.std.proofs.Common.{◌+◌, ◌*◌, map, drop}
use Rattle.wire_jsonfields.specs.Maps.{entries_seen}
use Rattle.wire_jsonfields.proofs.ListPuts.{ListPut}
use Rattle.wire_jsonfields.proofs.MapPuts.{MapPut}
use Rattle.wire_well_known_json.specs.Structs.{IsValueTree, entry-plain, fields_nesting, struct_fields, held_fields, nesting, value-plain, value_kind-plain, values_nesting, values_of}
use Rattle.wire_well_known_json.proofs.structs_write.+writing.Given as goal

abbrev pub decreases-write_value : goal.decreases-write_value
decreases-write_value l = 4 * nesting (value-plain l.value.now) + 1

abbrev pub decreases-write_kind : goal.decreases-write_kind
decreases-write_kind l = 4 * nesting (value_kind-plain l.kind.now)

abbrev pub decreases-write_values : goal.decreases-write_values
decreases-write_values l = 4 * values_nesting (values_of (map value-plain l.values.now)) + 3

abbrev pub decreases-write_fields : goal.decreases-write_fields
decreases-write_fields l = 4 * fields_nesting (struct_fields (held_fields l.entries.now)) + 3

abbrev pub decreases-write_entry : goal.decreases-write_entry
decreases-write_entry l = 4 * nesting (entry-plain l.entry.now).1 + 2

abbrev pub invariant-write_values-loop-value : goal.invariant-write_values-loop-value
invariant-write_values-loop-value l =
    ListPut IsValueTree (map value-plain l.values) (map value-plain (drop l.value-index l.values))
    l.fn.out.items l.out.items l.first

abbrev pub invariant-write_fields-loop-name : goal.invariant-write_fields-loop-name
invariant-write_fields-loop-name l =
    MapPut (λ k. k) IsValueTree (held_fields l.entries)
    (entries_seen (λ name. name.now) (λ entry. (entry-plain entry.now).1) l.name-iterator)
    l.fn.out.items l.out.items l.first

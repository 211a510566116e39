use Rattle.std.proofs.Common.{◌≡◌, map, drop}
use Rattle.wire_jsonfields.specs.Maps.{entries_seen}
use Rattle.wire_well_known_json.specs.Structs.{entry-plain, held_fields, put_fields}
use Rattle.wire_well_known_json.proofs.structs_write.last_entries.Given as goal

abbrev pub invariant-loop-entry : goal.invariant-loop-entry
invariant-loop-entry l =
    put_fields (entries_seen (λ name. name.now) (λ entry. (entry-plain entry.now).1) l.last.entries)
    (map entry-plain (drop l.entry-index l.entries))
    ≡ held_fields l.entries

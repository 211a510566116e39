use Rattle.std.proofs.Common.{◌+◌, map, drop, sym, ap, ◌∙◌}
use Rattle.wire_jsonfields.proofs.ListPuts.{none_left, value_next}
use Rattle.wire_well_known_json.specs.Structs.{Plain-Fields, entry-plain, put_fields}
use Rattle.wire_well_known_json.proofs.structs_write.last_entries.Goals as goal

pub loop-entry-preserved : goal.loop-entry-preserved
loop-entry-preserved c =
    let entries = c.args.entries.now in
    let i = c.loop-entry.entry-index in
    let next = value_next entry-plain entries i c.entry-item.result c.loop-entry-test.true
    c.entry-item.is in
    let left = map entry-plain (drop (i + 1) entries) in
    ap (λ (l : Plain-Fields). put_fields l left) c.in_ok-put_entry.ensures
    ∙ sym (ap (put_fields _) next) ∙ c.loop-entry.invariant

pub returns : goal.returns
returns c =
    let entries = c.args.entries.now in
    let none = none_left entry-plain entries c.loop-entry.entry-index c.loop-entry-test.false in
    sym (ap (put_fields _) none) ∙ c.loop-entry.invariant

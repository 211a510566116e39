use Rattle.std.proofs.Common.{List, ℕ, refl, ap, ◌∙◌}
use Rattle.std.specs.BTreeMap.{insert_entry}
use Rattle.wire_jsonfields.specs.Maps.{entries_seen}
use Rattle.wire_jsonfields.proofs.MapReads.{seen_insert}
use Rattle.wire_well_known_json.specs.Structs.{entry-plain, name_order}
use Rattle.wire_well_known_json.proofs.structs_write.put_entry.Goals as goal

pub returns-in-Ok : goal.returns-in-Ok
returns-in-Ok c =
    let seen = entries_seen (λ name. name.now) (λ entry. (entry-plain entry.now).1) in
    let old = c.args.last.now.entries in
    ap seen c.in-Ok.ensures.entries
    ∙ seen_insert (λ name. name.now) (λ entry. (entry-plain entry.now).1) _ name_order
    (λ x y. refl) old c.name_of.result c.args.entry
    ∙ ap (λ (n : List ℕ). insert_entry name_order (seen old) n (entry-plain c.args.entry.now).1)
    c.name_of.ensures

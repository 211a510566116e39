use Rattle.std.proofs.Common.{ap}
use Rattle.std.proofs.lemmas.Map.Iter.{rest_all, rest_more}
use Rattle.std.proofs.lemmas.Result.{err_from_is_err_and}
use Rattle.std.specs.Map.Iter.{deref_pair}
use Rattle.wire_json.specs.Compact.{Extends}
use Rattle.wire_jsonfields.specs.Maps.{entries_seen}
use Rattle.wire_jsonfields.proofs.ListPuts.{extends_more}
use Rattle.wire_jsonfields.proofs.MapPuts.{map_begun, map_more, map_whole}
use Rattle.wire_jsonfields.proofs.Untold.{map_untold}
use Rattle.wire_jsonfields.proofs.map.write_map.Goals as goal

pub loop-key-init : goal.loop-key-init
loop-key-init g c =
    rw c.into_iter-key-iterator.ensures.into_iter_gives.0
    (map_begun g.K.JsonKey.name g.V.JsonValue.tree
    (entries_seen g.K.JsonKey.view g.V.JsonValue.view c.args.map.now.entries) c.args.out.now.items
    c.write_mark.new.out.items c.in_ok-write_mark.ensures.ok)

pub returns-in_err-write_entry-clause-err : goal.returns-in_err-write_entry-clause-err
returns-in_err-write_entry-clause-err g c =
    let r = c.from_residual-in_err-write_entry in
    let p = err_from_is_err_and r.result r.ensures.1 in
    let begun : Extends c.args.out.now.items c.loop-key.out.items =
    (_, c.loop-key.invariant.text.text) in
    rw p.1 (extends_more c.args.out.now.items c.loop-key.out.items c.write_entry.new.out.items begun
    c.in_err-write_entry.ensures.err)

pub returns-in_err-write_entry-clause-no_text : goal.returns-in_err-write_entry-clause-no_text
returns-in_err-write_entry-clause-no_text g c =
    let r = c.from_residual-in_err-write_entry in
    let p = err_from_is_err_and r.result r.ensures.1 in
    let seen = entries_seen g.K.JsonKey.view g.V.JsonValue.view in
    rw (p.1, p.2) (λ other. map_untold g.K.JsonKey.name g.V.JsonValue.tree
    (seen c.args.map.now.entries) _ _ _ c.args.out.now.items c.loop-key.out.items c.loop-key.first
    c.loop-key.invariant
    (ap seen (rest_more deref_pair _ _ _ _ c.in-Some.is c.next.ensures.steps))
    (c.in_err-write_entry.ensures.no_text other))

pub loop-key-preserved : goal.loop-key-preserved
loop-key-preserved g c =
    let seen = entries_seen g.K.JsonKey.view g.V.JsonValue.view in
    let (json, tree, put) = c.in_ok-write_entry.ensures.ok in
    map_more g.K.JsonKey.name g.V.JsonValue.tree (seen c.args.map.now.entries)
    c.args.out.now.items _ _ _ c.loop-key.out.items c.loop-key.first c.loop-key.invariant
    (ap seen (rest_more deref_pair _ _ _ _ c.in-Some.is c.next.ensures.steps)) json tree
    c.write_entry.new.out.items put

pub returns-clause-ok : goal.returns-clause-ok
returns-clause-ok g c =
    let seen = entries_seen g.K.JsonKey.view g.V.JsonValue.view in
    map_whole g.K.JsonKey.name g.V.JsonValue.tree (seen c.args.map.now.entries)
    c.args.out.now.items (seen c.loop-key.key-iterator) c.loop-key.out.items c.loop-key.first
    c.loop-key.invariant
    (ap seen (rest_all deref_pair c.loop-key.key-iterator _ _ c.in-None.is c.next.ensures.steps))
    c.write_mark-2.new.out.items c.in_ok-write_mark-2.ensures.ok

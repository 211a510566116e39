use Rattle.std.proofs.Common.{◌+◌, map, drop, refl}
use Rattle.std.proofs.lemmas.Result.{err_from_is_err_and}
use Rattle.wire_json.specs.Compact.{Extends}
use Rattle.wire_jsonfields.proofs.ListPuts.{extends_more, list_begun, list_whole, none_left, put_one, value_next}
use Rattle.wire_jsonfields.proofs.Untold.{list_untold}
use Rattle.wire_jsonfields.proofs.list.write_elements.Goals as goal

pub loop-held-init : goal.loop-held-init
loop-held-init g c =
    list_begun g.V.JsonValue.tree (map g.V.JsonValue.view c.args.list.now) c.args.out.now.items
    c.write_mark.new.out.items c.in_ok-write_mark.ensures.ok

pub returns-in_err-write_json-clause-err : goal.returns-in_err-write_json-clause-err
returns-in_err-write_json-clause-err g c =
    let r = c.from_residual-in_err-write_json in
    let p = err_from_is_err_and r.result r.ensures.1 in
    let old = c.args.out.now.items in
    let out = c.loop-held.out.items in
    let mid = c.write_comma.new.out.items in
    let begun : Extends old out = (_, c.loop-held.invariant.text) in
    let comma : Extends out mid = (_, c.in_ok-write_comma.ensures.ok) in
    rw p.1 (extends_more old mid c.write_json.new.out.items (extends_more old out mid begun comma)
    c.in_err-write_json.ensures.err)

pub returns-in_err-write_json-clause-no_text : goal.returns-in_err-write_json-clause-no_text
returns-in_err-write_json-clause-no_text g c =
    let r = c.from_residual-in_err-write_json in
    let p = err_from_is_err_and r.result r.ensures.1 in
    let view = g.V.JsonValue.view in
    let list = c.args.list.now in
    let i = c.loop-held.held-index in
    let item = c.held-item.result in
    let next = value_next view list i item c.loop-held-test.true c.held-item.is in
    let here = rw next at c.loop-held.invariant in
    rw (p.1, p.2) (λ other. list_untold g.V.JsonValue.tree (map view list)
    (map view (drop (i + 1) list)) (view item) c.args.out.now.items c.loop-held.out.items
    c.loop-held.first here (c.in_err-write_json.ensures.no_text other))

pub loop-held-preserved : goal.loop-held-preserved
loop-held-preserved g c =
    let tree = g.V.JsonValue.tree in
    let view = g.V.JsonValue.view in
    let list = c.args.list.now in
    let i = c.loop-held.held-index in
    let item = c.held-item.result in
    let left = map view (drop (i + 1) list) in
    let out = c.loop-held.out.items in
    let first = c.loop-held.first in
    let next = value_next view list i item c.loop-held-test.true c.held-item.is in
    let here = rw next at c.loop-held.invariant in
    let (e, is, put) = c.in_ok-write_json.ensures.ok in
    put_one tree (map view list) c.args.out.now.items left (view item) out first here e is
    c.write_comma.new.out.items c.write_json.new.out.items put first refl
    c.in_ok-write_comma.ensures.ok

pub returns-clause-ok : goal.returns-clause-ok
returns-clause-ok g c =
    let view = g.V.JsonValue.view in
    let list = c.args.list.now in
    let none = none_left view list c.loop-held.held-index c.loop-held-test.false in
    let whole = rw none at c.loop-held.invariant in
    list_whole g.V.JsonValue.tree (map view list) c.args.out.now.items c.loop-held.out.items
    c.loop-held.first c.write_mark-2.new.out.items whole c.in_ok-write_mark-2.ensures.ok

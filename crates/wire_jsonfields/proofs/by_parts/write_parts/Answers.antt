use Rattle.std.proofs.Common.{true}
use Rattle.wire_json.specs.Json.{no_member}
use Rattle.wire_jsonfields.proofs.Membering.{begun, with_field, written_whole}
use Rattle.wire_jsonfields.proofs.by_parts.write_parts.Goals as goal

pub returns-clause-ok : goal.returns-clause-ok
returns-clause-ok g c =
    let old = c.args.out.now.items in
    let open_ = c.write_mark.new.out.items in
    let body = c.write.new.out.items in
    let (ms, trees, put, next) = c.in_ok-write.ensures.ok in
    let start = begun old open_ c.in_ok-write_mark.ensures.ok in
    let all = with_field old open_ true no_member body _ ms start put next in
    written_whole g.P.JsonPart.trees (g.P.JsonPart.seen c.args.message.now) old body _ ms all trees
    c.write_mark-2.new.out.items c.in_ok-write_mark-2.ensures.ok

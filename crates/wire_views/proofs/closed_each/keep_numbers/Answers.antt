use Rattle.std.proofs.Common.{◌≡◌, ◌<◌, length, rules}
use Rattle.wire_views.proofs.ClosedNumbers.{number_kept, no_number, all_kept}
use Rattle.wire_views.proofs.closed_each.keep_numbers.Goals as goal

pub returns-in_err-x-clause-err : goal.returns-in_err-x-clause-err
returns-in_err-x-clause-err g c =
    let some : 0 < length c.loop-rest.rest.now = search rules in
    λ xs spelled. absurd (no_number g.E.Enumeration.of_number c.args.number _ _ xs _
    (c.loop-rest.invariant xs spelled) c.no_varint_beside_fault.ensures some _
    c.in_err-x.ensures.fault)

pub loop-rest-preserved : goal.loop-rest-preserved
loop-rest-preserved g c =
    let some : 0 < length c.loop-rest.rest.now = search rules in
    λ xs spelled. number_kept g.E.Enumeration.of_number c.args.number _ _ xs _
    (c.loop-rest.invariant xs spelled) c.one_varint.ensures some _ _ c.in_ok-x.ensures.ok _
    c.new-tag.ensures.number _ c.in_ok-keep_number.ensures.ok

pub returns-clause-ok : goal.returns-clause-ok
returns-clause-ok g c =
    let none : length c.loop-rest.rest.now ≡ 0 = search rules in
    λ xs spelled. all_kept g.E.Enumeration.of_number c.args.number _ _ xs _
    (c.loop-rest.invariant xs spelled) none

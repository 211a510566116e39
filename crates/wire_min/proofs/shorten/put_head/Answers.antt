use Rattle.std.proofs.Common.{rules, subst}
use Rattle.wire_base.specs.WriteLaws.{FillsSlice}
use Rattle.wire_min.specs.Shorten.{head_text}
use Rattle.wire_min.proofs.shorten.put_head.Goals as goal

pub returns : goal.returns
returns c =
    let law = c.what_fits_is_written.ensures in
    let sink = c.put.new.sink in
    let room = c.args.bytes.now in
    let place = c.args.place in
    let text = head_text c.args.number c.args.kind in
    let written = c.put_is_a_write.ensures _ _ _ _ c.put.ensures in
    let done = law.succeeds text room _ place _ c.put.result c.requires written in
    let is = rw done at written.ok in
    let same = law.same_slice text room sink.room.now _ sink.room.ghost_name place sink.place is in
    subst (λ new. FillsSlice text place room new sink.place) (search (rules, same))
    (law.fills text room sink.room.now _ _ place sink.place c.requires sink.within is)

use Rattle.std.proofs.Common.{◌+◌, ◌≤◌, length, ap, subst, rules, arith}
use Rattle.wire_base.specs.Text.{size, text_of}
use Rattle.wire_base.specs.WriteLaws.{FillsSlice}
use Rattle.wire_write.proofs.shortest.write_all.Goals as goal

pub returns : goal.returns
returns c =
    let law = c.what_fits_is_written.ensures in
    let sink = c.put_all.new.sink in
    let room = c.args.room.now in
    let (fs, decodes, written) = c.put_all.ensures in
    let (gs, there, short) = c.requires in
    let one = c.one_spelled.ensures fs gs _ decodes.spelled there.spelled in
    let fits : 0 + length (text_of fs) ≤ length room = omega (arith, ap size one, short) in
    let done = law.succeeds (text_of fs) room _ 0 _ c.put_all.result fits written in
    let is = rw done at written.ok in
    let same = law.same_slice (text_of fs) room sink.room.now _ sink.room.ghost_name 0 sink.place is in (
      fs,
      decodes,
      subst (λ new. FillsSlice (text_of fs) 0 room new sink.place) (search (rules, same))
          (law.fills (text_of fs) room sink.room.now _ _ 0 sink.place fits sink.within is),
    )

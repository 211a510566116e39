use Rattle.std.proofs.Common.{◌≡◌, refl, rules, subst, arith}
use Rattle.wire_base.specs.WriteLaws.{FillsSlice}
use Rattle.wire_read.specs.Reading.{item}
use Rattle.wire_write.specs.Put.{no_number, no_room}
use Rattle.wire_write.specs.Shortest.{item_text}
use Rattle.wire_write.proofs.put.put.Goals as goal
use Rattle.wire_write.proofs.put.put.Goals.{then-number-eq0-via-then-number-eq0, then-number-eq0-via-else-number-eq0+then-number-gt-MAX_FIELD_NUMBER}

pub returns-then-number-eq0 : goal.returns-then-number-eq0
returns-then-number-eq0 c = record {
  ok = tt;
  valid = tt;
  err = no_number (λ h. elim c.then-number-eq0.branch [
    | then-number-eq0-via-then-number-eq0 w ↦ omega (arith, h.0, w.if-number-eq0)
    | then-number-eq0-via-else-number-eq0+then-number-gt-MAX_FIELD_NUMBER w ↦
        omega (arith, h.1, w.if-number-gt-MAX_FIELD_NUMBER)
  ]);
  unchanged = refl;
}

pub returns-then-place-room : goal.returns-then-place-room
returns-then-place-room c = record {
  ok = tt;
  valid = tt;
  err = no_room _ (omega arith, omega arith) (omega arith) c.item_len.ensures;
  unchanged = refl;
}

pub returns-in-Ok : goal.returns-in-Ok
returns-in-Ok c =
    let room = c.args.room in
    let sink = c.put.new.sink in
    let text = item_text (item c.args.number c.args.value) in
    let put = rw c.in-Ok.is at c.put.ensures in
    let (fills, same) = c.put_fills_a_slice.ensures.fills text room.now sink.room.now _ _
    c.args.place sink.place _ (omega arith) sink.within put in
    record {
      ok = subst (λ new. FillsSlice text c.args.place room.now new sink.place)
          (search (rules, same)) fills;
      valid = (omega arith, omega arith);
      err = tt;
      unchanged = tt;
    }

pub returns-in-Err : goal.returns-in-Err
returns-in-Err c =
    let law = c.put_fills_a_slice.ensures in
    let room = c.args.room in
    let sink = c.put.new.sink in
    let text = item_text (item c.args.number c.args.value) in
    let put = rw c.in-Err.is at c.put.ensures in
    let (stays, same) = law.stays room.now sink.room.now _ _ c.args.place sink.place put.err in
    record {
      ok = tt;
      valid = tt;
      err = no_room _ (omega arith, omega arith)
          (law.lacks text room.now _ c.args.place _ _ (omega arith) put) c.item_len-in-Err.ensures;
      unchanged = subst (λ new. new ≡ room.now) (search (rules, same)) stays;
    }

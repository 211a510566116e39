use Rattle.std.proofs.Common.{◌+◌, length-set, refl, sym, arith}
use Rattle.std.proofs.lemmas.List.{drop-set-lt, drop-drop, take_more_set}
use Rattle.wire_base.proofs.room.Room.fill_u8.Goals as goal

pub returns-clause-held : goal.returns-clause-held
returns-clause-held c =
    let sink = c.args.self.now in
    rw (
      take_more_set sink.room.now sink.place c.args.value c.requires,
      length-set sink.room.now sink.place c.args.value,
      drop-set-lt (sink.place + 1) sink.room.now sink.place c.args.value (omega arith),
      sym (drop-drop 1 sink.place sink.room.now),
    ) refl

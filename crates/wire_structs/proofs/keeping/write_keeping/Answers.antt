use Rattle.std.proofs.Common.{◌≡◌, arith, subst}
use Rattle.wire_base.proofs.FieldLaws.{one_spelled_lemma}
use Rattle.wire_base.specs.WriteLaws.{FillsSlice}
use Rattle.wire_codec.specs.Records.{text, text_size}
use Rattle.wire_structs.proofs.KeptTexts.{counted_with}
use Rattle.wire_structs.specs.Unknown.{unowned, with_fields}
use Rattle.wire_structs.proofs.keeping.write_keeping.Goals as goal

pub returns-then-len-room-clause-no_room : goal.returns-then-len-room-clause-no_room
returns-then-len-room-clause-no_room g c = λ done.
    let (fs, records, unknown) = c.in-Ok.ensures.ok in
    let counted = counted_with _ _ _ _ _ c.len.ensures unknown c.saturating_add.ensures in
    (fs, records, (counted, omega (arith, counted, c.if-len-room.true)))

pub fill_keeping-requires-clause-there : goal.fill_keeping-requires-clause-there
fill_keeping-requires-clause-there g c =
    let (fs, records, unknown) = c.in-Ok.ensures.ok in
    let counted = counted_with _ _ _ _ _ c.len.ensures unknown c.saturating_add.ensures in
    (fs, records, omega (arith, counted, c.if-len-room.false))

pub returns-else-len-room-clause-ok : goal.returns-else-len-room-clause-ok
returns-else-len-room-clause-ok g c = λ done.
    let (fs, records, unknown) = c.in-Ok.ensures.ok in
    let counted = counted_with _ _ _ _ _ c.len.ensures unknown c.saturating_add.ensures in
    let (gs, others, filled) = c.fill_keeping.ensures in
    let same = one_spelled_lemma gs fs _ others.spelled records.spelled in
    let all = with_fields (g.P.StructPart.records c.args.parts)
    (unowned g.M.FieldNumbers.owns fs) in
    let moved : text_size all ≡ c.saturating_add.result =
    omega (arith, counted, c.if-len-room.false) in (
      fs,
      records,
      subst (λ at. FillsSlice (text all) 0 c.args.room.now c.fill_keeping.new.room at) moved
          (rw same at filled),
    )

use Rattle.std.proofs.Common.{◌∙◌, sym, arith}
use Rattle.wire_views.proofs.FixedRecords.{fixed64_len, fixed32_len}
use Rattle.wire_views.proofs.fixed_written.texts_len.Goals as goal

pub returns-in-Fixed64 : goal.returns-in-Fixed64
returns-in-Fixed64 g c =
    rw (sym c.requires ∙ c.in-Fixed64.is)
    (omega (arith, fixed64_len g.N.Number.map c.args.payload.now))

pub returns-in-Fixed32 : goal.returns-in-Fixed32
returns-in-Fixed32 g c =
    rw (sym c.requires ∙ c.in-Fixed32.is)
    (omega (arith, fixed32_len g.N.Number.map c.args.payload.now))

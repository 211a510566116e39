use Rattle.wire_fields.proofs.Measuring.{embedded_measured}
use Rattle.wire_views.proofs.encoding.LengthPrefixedViewEncoding.len.Goals as goal

pub returns-clause-ok : goal.returns-clause-ok
returns-clause-ok g c =
    embedded_measured c.args.number _ _ _ _ _ _ _ _ _ c.in_ok-slot.ensures.index
    c.in_ok-slot.ensures.slot c.in_ok-len.ensures.sizes c.in_ok-len.ensures.size c.set.ensures
    c.from.ensures c.delimited_len.ensures

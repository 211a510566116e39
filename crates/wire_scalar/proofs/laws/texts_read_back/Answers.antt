use Rattle.wire_scalar.proofs.FixedTexts.{wrapped-below_32, wrapped-below_64, four_bytes, eight_bytes}
use Rattle.wire_scalar.specs.ValueMap.{fixed32, fixed64, sfixed32, sfixed64}
use Rattle.wire_scalar.proofs.laws.texts_read_back.Goals as goal

pub returns-clause-fixed32 : goal.returns-clause-fixed32
returns-clause-fixed32 c =
    λ value rest h. four_bytes fixed32 value rest (c.values_read_back.ensures.fixed32 value h) h

pub returns-clause-fixed64 : goal.returns-clause-fixed64
returns-clause-fixed64 c =
    λ value rest h. eight_bytes fixed64 value rest (c.values_read_back.ensures.fixed64 value h) h

pub returns-clause-sfixed32 : goal.returns-clause-sfixed32
returns-clause-sfixed32 c =
    λ value rest h. four_bytes sfixed32 value rest (c.values_read_back.ensures.sfixed32 value h)
    (wrapped-below_32 value h)

pub returns-clause-sfixed64 : goal.returns-clause-sfixed64
returns-clause-sfixed64 c =
    λ value rest h. eight_bytes sfixed64 value rest (c.values_read_back.ensures.sfixed64 value h)
    (wrapped-below_64 value h)

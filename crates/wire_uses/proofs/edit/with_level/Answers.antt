use Rattle.std.proofs.Common.{arith}
use Rattle.wire_uses.proofs.edit.with_level.Goals as goal

pub returns-clause-fault : goal.returns-clause-fault
returns-clause-fault c =
    let why = c.in-Err-try_encode_to_vec.ensures in (
      c.in-Ok.report,
      c.in-Ok.ensures.ok,
      λ other. grind (arith, why.fits, why.too_large, other),
    )

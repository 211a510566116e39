use Rattle.std.proofs.Common.{arith}
use Rattle.wire_base.proofs.VarintLaws.{IsSpelling-shortest_varint}
use Rattle.wire_base.proofs.room.Room.fits.Goals as goal

pub returns-then-left-behind-ge-MOST_DIGITS-clause-fits : goal.returns-then-left-behind-ge-MOST_DIGITS-clause-fits
returns-then-left-behind-ge-MOST_DIGITS-clause-fits c =
    let few = (IsSpelling-shortest_varint c.args.value (omega arith)).at_most_ten in
    λ _. omega (arith, few, c.left-left.ensures)

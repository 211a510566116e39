use Rattle.std.proofs.Common.{arith}
use Rattle.wire_codec.specs.Records.{text_size}
use Rattle.wire_codec.proofs.SizesLaws.{sizes_below, cut_sizes-below}
use Rattle.wire_codec.proofs.Measured.{next_are_sizes}
use Rattle.wire_codec.proofs.laws.sizes_fit.Goals as goal

pub returns-clause-above : goal.returns-clause-above
returns-clause-above c = λ rs. sizes_below rs (text_size rs) (omega arith)

pub returns-clause-uncut : goal.returns-clause-uncut
returns-clause-uncut c = cut_sizes-below

pub returns-clause-next : goal.returns-clause-next
returns-clause-next c = next_are_sizes

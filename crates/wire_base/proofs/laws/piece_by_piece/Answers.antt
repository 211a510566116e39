use Rattle.wire_base.proofs.Sinks.{piece_by_piece}
use Rattle.wire_base.proofs.laws.piece_by_piece.Goals as goal

pub returns : goal.returns
returns c = piece_by_piece

use Rattle.std.proofs.Common.{length}
use Rattle.wire_structs.proofs.FirstRefused.{TakenSoFar}
use Rattle.wire_structs.proofs.refusing.refused_status.Given as goal

abbrev pub invariant-loop-message : goal.invariant-loop-message
invariant-loop-message g l = TakenSoFar g.M.MessageStruct.takes l.fn.context
    g.M.MessageStruct.default (g.M.Source.Buf.unread l.fn.source) l.context
    (g.M.MessageStruct.view l.message) (g.M.Source.Buf.unread l.buf) l.whole l.place

abbrev pub decreases-loop-message : goal.decreases-loop-message
decreases-loop-message g l = length (g.M.Source.Buf.unread l.buf)

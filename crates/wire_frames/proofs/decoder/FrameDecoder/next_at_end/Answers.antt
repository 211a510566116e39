use Rattle.std.proofs.Common.{◌≡◌, Bool, true, false, [], refl, subst}
use Rattle.std.proofs.lemmas.Result.{err_from_is_err_and}
use Rattle.std.specs.Prelude.{IsTrue}
use Rattle.wire_frames.specs.Frames.{next, cut_short}
use Rattle.wire_frames.specs.Stream.{Stream, unread}
use Rattle.wire_frames.proofs.decoder.FrameDecoder.next_at_end.Goals as goal

pub returns-in_err-frame-clause-refused : goal.returns-in_err-frame-clause-refused
returns-in_err-frame-clause-refused c =
    let p = err_from_is_err_and c.from_residual.result c.from_residual.ensures.1 in
    rw (p.1, p.2) (next c.in_err-frame.ensures.refused)

pub returns-in-None-2-clause-refused : goal.returns-in-None-2-clause-refused
returns-in-None-2-clause-refused c =
    let unfinished = rw c.in-None.is at c.in_ok-frame.ensures.none in
    let same = rw c.in-None.is at c.in_ok-frame.ensures.unmoved in
    let some = λ (none : unread c.next.new.self ≡ []).
    let no : false ≡ true = subst (λ (b : Bool). IsTrue b) c.if-is_empty.false
    (c.is_empty.ensures.1 none) in absurd cc in
    cut_short unfinished (subst (λ (s : Stream). unread s ≡ [] → ⊥) same some) refl

use Rattle.std.proofs.Common.{◌<◌, arith, ap, ◌∙◌, length, drop, length-drop}
use Rattle.std.proofs.lemmas.List.Elements.{All-same}
use Rattle.std.specs.List.{concat}
use Rattle.wire_base.proofs.RopeReads.{concat-left_segments, AllFilled-left_segments}
use Rattle.wire_base.proofs.rope.buf.RopeBufBuf.advance.Goals as goal

pub invariant_of-self : goal.invariant_of-self
invariant_of-self c =
    let old = c.self.inside.segments.items in
    let left = ap concat c.drop_front.ensures ∙ concat-left_segments c.args.cnt old in
    let sizes = ap length left ∙ length-drop c.args.cnt (concat old) in (
      omega arith,
      All-same (λ s. 0 < length s) _ _ c.drop_front.ensures
          (AllFilled-left_segments c.args.cnt old c.self.invariant.1),
    )

pub returns-clause-value : goal.returns-clause-value
returns-clause-value c =
    ap concat c.drop_front.ensures ∙ concat-left_segments c.args.cnt c.self.inside.segments.items
    ∙ ap (λ l. drop c.args.cnt (concat l)) c.self.view_is

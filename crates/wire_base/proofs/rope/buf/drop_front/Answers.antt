use Rattle.std.proofs.Common.{arith, ap, sym, refl, ◌∙◌, ◌∷◌}
use Rattle.wire_base.proofs.RopeReads.{LeftToDrop-past, LeftToDrop-none, first_looked_at}
use Rattle.wire_base.proofs.rope.buf.drop_front.Goals as goal

pub loop-left-preserved : goal.loop-left-preserved
loop-left-preserved c =
    let first = c.in-Some.first.now in
    LeftToDrop-past _ _ c.loop-left.left c.len-len.result _ c.loop-left.segments.items
    c.pop_front.new.self.items first c.loop-left.invariant
    (first_looked_at _ first c.in-Some.ensures.item.3.0 c.in-Some.ensures.value
    ∙ ap (λ rest. first ∷ rest) (sym c.pop_front.ensures.rest))
    c.len-len.ensures.value c.if-left-len.false refl

pub returns : goal.returns
returns c = LeftToDrop-none _ _ c.loop-left.left _ c.loop-left.invariant (omega arith)

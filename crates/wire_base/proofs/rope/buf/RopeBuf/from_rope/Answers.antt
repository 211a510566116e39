use Rattle.std.proofs.Common.{◌<◌, sym, ap, ◌∙◌, length}
use Rattle.std.proofs.lemmas.List.Elements.{All-same}
use Rattle.std.specs.List.{concat}
use Rattle.wire_base.proofs.Ropes.{concat-all_segments}
use Rattle.wire_base.proofs.rope.buf.RopeBuf.from_rope.Goals as goal

pub returns-clause-bytes : goal.returns-clause-bytes
returns-clause-bytes c =
    ap concat (c.from_vec.ensures.items ∙ c.in_ok-segments.ensures.ok)
    ∙ concat-all_segments c.args.rope.segments c.args.rope.tail

pub invariant_of-result : goal.invariant_of-result
invariant_of-result c = (
  c.len-remaining.ensures
      ∙ ap length (sym (ap concat (c.from_vec.ensures.items ∙ c.in_ok-segments.ensures.ok)
      ∙ concat-all_segments c.args.rope.segments c.args.rope.tail)),
  All-same (λ s. 0 < length s) _ _ c.from_vec.ensures.items c.in_ok-segments.ensures.filled,
)

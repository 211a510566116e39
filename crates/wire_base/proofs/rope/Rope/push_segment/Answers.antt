use Rattle.std.proofs.Common.{rules, ◌++◌, ◌∷◌, [], ◌≡◌, sym, ◌∙◌}
use Rattle.wire_base.specs.Rope.{tail_segments}
use Rattle.wire_base.proofs.Ropes.{length-with_segment, AllFilled-with_segment}
use Rattle.wire_base.proofs.rope.Rope.push_segment.Goals as goal

pub invariant_of-self-2 : goal.invariant_of-self-2
invariant_of-self-2 c =
    let old = c.self.inside.finished.items in
    let tail = c.self.inside.tail.items in
    let is : c.push.new.self.items ≡
    (old ++ tail_segments tail) ++ c.args.bytes ∷ [] = search rules in (
      search rules ∙ sym (length-with_segment old _ tail _ c.args.bytes is (search rules)),
      AllFilled-with_segment old _ tail c.args.bytes is c.self.invariant.1 c.requires,
      c.self.invariant.2,
    )

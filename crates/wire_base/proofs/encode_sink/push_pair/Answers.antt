use Rattle.std.proofs.Common.{[], ◌∷◌, ◌++◌, List, ℕ, ◌∙◌, ap}
use Rattle.wire_base.proofs.Varints.{shortest_varint-last}
use Rattle.wire_base.proofs.encode_sink.push_pair.Goals as goal

pub returns : goal.returns
returns c =
    let a = c.args.first in
    let b = c.args.second in
    rw (shortest_varint-last a c.requires.first, shortest_varint-last b c.requires.second)
    (c.push_reserved-2.ensures.items
    ∙ ap (λ (t : List ℕ). t ++ b ∷ []) c.push_reserved.ensures.items)

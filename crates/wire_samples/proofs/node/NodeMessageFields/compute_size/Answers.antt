use Rattle.std.proofs.Common.{◌≡◌, subst}
use Rattle.std.specs.Prelude.{IfOk, OnOk}
use Rattle.wire_codec.specs.Records.{text_size}
use Rattle.wire_codec.specs.Sizes.{cut, cut_sizes}
use Rattle.wire_codec.specs.Tape.{recorded}
use Rattle.wire_samples.proofs.NodeNests.{same_records}
use Rattle.wire_samples.specs.Node.{node_value}
use Rattle.wire_samples.proofs.node.NodeMessageFields.compute_size.Goals as goal

pub returns-clause-size : goal.returns-clause-size
returns-clause-size c =
    subst (λ rs. IfOk c.slice_size.result (λ answer. answer ≡ cut (text_size rs)))
    (same_records (node_value c.args.self.now)) (rw c.from_ref.ensures.value at c.slice_size.ensures.size)

pub returns-clause-sizes : goal.returns-clause-sizes
returns-clause-sizes c =
    subst (λ rs. OnOk c.slice_size.result (c.slice_size.new.cache
    ≡ recorded c.args.cache.now (cut_sizes rs)))
    (same_records (node_value c.args.self.now)) (rw c.from_ref.ensures.value at c.slice_size.ensures.sizes)

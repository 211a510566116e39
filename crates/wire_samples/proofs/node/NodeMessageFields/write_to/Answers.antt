use Rattle.std.proofs.Common.{◌≡◌, ◌≤◌, length, subst, sym}
use Rattle.std.specs.Prelude.{OnOk}
use Rattle.wire_codec.specs.Records.{text, text_size}
use Rattle.wire_codec.specs.Sizes.{sizes}
use Rattle.wire_codec.specs.Tape.{NextAre, advanced}
use Rattle.wire_codec.specs.Writes.{Writes}
use Rattle.wire_samples.proofs.NodeNests.{same_records}
use Rattle.wire_samples.specs.Node.{node_value}
use Rattle.wire_samples.proofs.node.NodeMessageFields.write_to.Goals as goal

pub write_slice-requires-clause-sizes : goal.write_slice-requires-clause-sizes
write_slice-requires-clause-sizes g c =
    rw c.from_ref.ensures.value (subst (λ rs. NextAre (sizes rs) c.args.cache.now)
    (sym (same_records (node_value c.args.self.now))) c.requires.sizes)

pub write_slice-requires-clause-size : goal.write_slice-requires-clause-size
write_slice-requires-clause-size g c =
    rw c.from_ref.ensures.value (subst (λ rs. text_size rs ≤ 2147483647)
    (sym (same_records (node_value c.args.self.now))) c.requires.size)

pub returns-clause-written : goal.returns-clause-written
returns-clause-written g c =
    subst (λ rs. Writes (text rs) (g.S.EncodeSink.held c.args.sink.now)
    (g.S.EncodeSink.held c.write_slice.new.sink) c.write_slice.result)
    (same_records (node_value c.args.self.now)) (rw c.from_ref.ensures.value at c.write_slice.ensures.written)

pub returns-clause-read : goal.returns-clause-read
returns-clause-read g c =
    subst (λ rs. OnOk c.write_slice.result (c.write_slice.new.cache
    ≡ advanced c.args.cache.now (length (sizes rs))))
    (same_records (node_value c.args.self.now)) (rw c.from_ref.ensures.value at c.write_slice.ensures.read)

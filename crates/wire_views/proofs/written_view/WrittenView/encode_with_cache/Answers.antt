use Rattle.wire_codec.proofs.Measured.{next_are_sizes, all_read}
use Rattle.wire_views.proofs.written_view.WrittenView.encode_with_cache.Goals as goal

pub write_to-requires-clause-sizes : goal.write_to-requires-clause-sizes
write_to-requires-clause-sizes g c =
    let measured = rw c.clear.ensures at c.in_ok-compute_size.ensures.sizes in
    next_are_sizes _ _ measured c.requires

pub returns-clause-read : goal.returns-clause-read
returns-clause-read g c =
    let measured = rw c.clear.ensures at c.in_ok-compute_size.ensures.sizes in
    all_read _ _ _ c.write_to.result measured c.requires c.write_to.ensures.read

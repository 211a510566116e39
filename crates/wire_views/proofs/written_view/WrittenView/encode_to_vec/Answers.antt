use Rattle.wire_codec.proofs.Measured.{next_are_sizes}
use Rattle.wire_views.proofs.written_view.WrittenView.encode_to_vec.Goals as goal

pub write_to-requires-clause-sizes : goal.write_to-requires-clause-sizes
write_to-requires-clause-sizes g c =
    next_are_sizes _ _ (rw c.new-cache.ensures at c.in_ok-len.ensures.sizes) c.requires

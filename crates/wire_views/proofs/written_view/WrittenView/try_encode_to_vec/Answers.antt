use Rattle.wire_codec.proofs.Measured.{next_are_sizes}
use Rattle.wire_codec.proofs.SizesLaws.{uncut_size}
use Rattle.wire_views.proofs.written_view.WrittenView.try_encode_to_vec.Goals as goal

pub write_to-requires-clause-sizes : goal.write_to-requires-clause-sizes
write_to-requires-clause-sizes g c =
    next_are_sizes _ _ (rw c.new-cache.ensures at c.in_ok-compute_size.ensures.sizes)
    (uncut_size _ _ c.in_ok-compute_size.ensures.size c.in_ok-len.ensures.within)

use Rattle.std.specs.Prelude.{string_bytes}
use Rattle.wire_jsonfields.specs.Batch.{FileTrees}
use Rattle.wire_jsonfields.proofs.Untold.{chosen_untold}
use Rattle.wire_jsonfields.proofs.origin.OriginFileJsonChoice.write.Goals as goal

pub returns-clause-no_text : goal.returns-clause-no_text
returns-clause-no_text c =
    chosen_untold FileTrees (λ h. h.now) (λ s. string_bytes s) _ _ c.file_of.ensures
    c.write_chosen.result c.write_chosen.ensures.no_text

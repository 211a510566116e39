use Rattle.wire_structs.proofs.KeptTexts.{counted_with}
use Rattle.wire_structs.proofs.keeping.size_keeping.Goals as goal

pub returns-in-Ok-clause-ok : goal.returns-in-Ok-clause-ok
returns-in-Ok-clause-ok g c = λ done.
    let (fs, records, unknown) = c.in-Ok.ensures.ok in
    (fs, records, counted_with _ _ _ _ _ c.len.ensures unknown c.saturating_add.ensures)

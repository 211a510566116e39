use Rattle.wire_uses.proofs.Entries.{insert-seen}
use Rattle.wire_uses.proofs.labels.put_label.Goals as goal

pub returns-clause-ok : goal.returns-clause-ok
returns-clause-ok c =
    insert-seen _ _ _ _ _ _ c.in_ok-insert.ensures.entries c.in_ok-key.ensures.ok
    c.in_ok-text.ensures.ok

use Rattle.std.proofs.Common.{inl, inr, ◌∙◌}
use Rattle.wire_samples.proofs.Repeats.{extra_size, repeat_size, sizes-repeat}
use Rattle.wire_samples.specs.Repeat.{repeat_records}
use Rattle.wire_samples.proofs.repeat.RepeatMessageFields.compute_size.Goals as goal
use Rattle.wire_samples.proofs.repeat.RepeatMessageFields.compute_size.Goals.{then-self, else-self}

pub returns-clause-size : goal.returns-clause-size
returns-clause-size c =
    let m = c.args.self.now in
    let extra = extra_size m.extra c.if-self.extra
    (elim c.if-self.branch [
      | then-self w ↦ inl (w.if-self.true, w.extra-is)
      | else-self w ↦ inr
          (w.if-self.false, w.extra-is)
    ]) in
    c.saturate_size.ensures ∙ repeat_size m.times c.if-self.extra c.saturating_add.result m.extra
    extra (rw c.saturating_mul.ensures at c.saturating_add.ensures)

pub returns-clause-sizes : goal.returns-clause-sizes
returns-clause-sizes c =
    let m = c.args.self.now in
    c.flat_messages_have_no_sizes.ensures.measured (repeat_records m) _
    (sizes-repeat m.times m.extra)

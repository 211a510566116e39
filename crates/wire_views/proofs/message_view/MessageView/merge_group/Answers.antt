use Rattle.std.proofs.Common.{◌∙◌, refl}
use Rattle.std.proofs.lemmas.Result.{err_from_is_err_and}
use Rattle.wire_base.specs.Ending.{by_tag}
use Rattle.wire_codec.proofs.Lists.{at_start, at_none, no_record, one_more, not_ended}
use Rattle.wire_codec.proofs.Lists.{no_next_tag, group_end}
use Rattle.wire_views.proofs.message_view.MessageView.merge_group.Goals as goal

pub loop-tag-init : goal.loop-tag-init
loop-tag-init g c = record {
  follows = rw (c.in_ok-descend.ensures.ok) (at_start c.records_in_order.ensures
      g.Self.MessageView.takes (by_tag c.args.number) _ _ _);
  kept = refl;
}

pub returns-in_err-tag-clause-err : goal.returns-in_err-tag-clause-err
returns-in_err-tag-clause-err g c =
    let p = err_from_is_err_and c.from_residual-in_err-tag.result
    c.from_residual-in_err-tag.ensures.1 in
    rw (p.1, p.2) (λ other. λ charge z new h. no_next_tag c.records_in_order.ensures
    g.Self.MessageView.takes c.args.number _ _ _ _ _ _ _ c.loop-tag.invariant.follows
    c.in_err-tag.ensures.fault charge z new h.taken)

pub loop-tag-preserved : goal.loop-tag-preserved
loop-tag-preserved g c =
    let taken = c.in_ok-merge_field.ensures.ok in
    record {
      follows = one_more c.records_in_order.ensures g.Self.MessageView.takes
          (g.met.Self.MessageView.single c.records_in_order.ensures.reading) (by_tag c.args.number)
          _ _ _ _ _ _ _ _ _ _ _ _ _ c.loop-tag.invariant.follows tt
          (rw c.in-Some.is at c.in_ok-tag.ensures.record)
          (rw c.in-Some.is at c.in_ok-tag.ensures.inside) taken.taken taken.left;
      kept = c.in_ok-merge_field.ensures.kept ∙ c.in_ok-tag.ensures.kept
          ∙ c.loop-tag.invariant.kept;
    }

pub returns-in_err-merge_field-clause-err : goal.returns-in_err-merge_field-clause-err
returns-in_err-merge_field-clause-err g c =
    let p = err_from_is_err_and c.from_residual-in_err-merge_field.result
    c.from_residual-in_err-merge_field.ensures.1 in
    let tag = rw c.in-Some.is at c.in_ok-tag.ensures.record in
    rw (p.1, p.2) (λ other. λ charge z new h. no_record c.records_in_order.ensures
    g.Self.MessageView.takes (by_tag c.args.number) _ _ _ _ _ _ _ _ _ c.loop-tag.invariant.follows
    tag
    (not_ended c.records_in_order.ensures (by_tag c.args.number) _ _ _ _ tt tag
    (rw c.in-Some.is at c.in_ok-tag.ensures.inside))
    (c.in_err-merge_field.ensures.err other) charge z new h.taken)

pub returns-clause-ok : goal.returns-clause-ok
returns-clause-ok g c =
    rw (c.ascend.ensures) (group_end c.records_in_order.ensures g.Self.MessageView.takes
    c.levels_and_counts.ensures.levels c.args.number _ _ _ _ _ _ _ c.in_ok-descend.ensures.taken
    c.loop-tag.invariant.follows
    (at_none _ _ c.in_default.not-Some c.in_ok-tag.ensures.end))

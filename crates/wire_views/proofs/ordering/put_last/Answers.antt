use Rattle.std.proofs.Common.{◌∙◌, ap, sym}
use Rattle.std.specs.Ordering.{is_eq}
use Rattle.wire_views.proofs.InOrder.{put_in_last, put_after_last}
use Rattle.wire_views.proofs.ordering.put_last.Goals as goal

pub returns-then-is_eq : goal.returns-then-is_eq
returns-then-is_eq g c =
    put_in_last g.K.Ord.cmp c.pop.new.self.items c.args.kept.now.items
    c.push-then-is_eq.new.self.items (c.in-Some.last, c.in-Some.old) c.args.entry.0 c.args.entry.1
    c.in-Some.ensures.items
    (ap is_eq (sym c.cmp.ensures) ∙ sym c.is_eq.ensures ∙ c.if-is_eq.true)
    c.in_ok-push-2.ensures.items

pub returns : goal.returns
returns g c =
    put_after_last g.K.Ord.cmp c.pop.new.self.items c.args.kept.now.items c.push-2.new.self.items
    c.push-3.new.self.items (c.in-Some.last, c.in-Some.old) c.args.entry.0 c.args.entry.1
    c.in-Some.ensures.items
    (ap is_eq (sym c.cmp.ensures) ∙ sym c.is_eq.ensures ∙ c.if-is_eq.false)
    c.in_ok-push-3.ensures.items c.in_ok-push-4.ensures.items

use Rattle.std.proofs.Common.{List, ap, ◌∙◌, subst, sym}
use Rattle.std.specs.Ordering.{is_lt}
use Rattle.std.proofs.lemmas.List.Sorted.{ranks_by, answers_always}
use Rattle.std.proofs.lemmas.Result.{IfOk-weaker}
use Rattle.wire_views.specs.Entries.{Rises}
use Rattle.wire_views.proofs.InOrder.{map_rises, rising_are_map, runs_are_map, stable_map}
use Rattle.wire_views.proofs.ordering.in_order.Goals as goal

pub returns-then-rise-clause-map : goal.returns-then-rise-clause-map
returns-then-rise-clause-map g c =
    sym (rising_are_map g.met.K.Ord.total _ (rw c.deref.ensures.value at (c.rise.ensures c.if-rise.true)))

pub returns-then-rise-clause-rises : goal.returns-then-rise-clause-rises
returns-then-rise-clause-rises g c = rw c.deref.ensures.value at (c.rise.ensures c.if-rise.true)

pub returns-clause-map : goal.returns-clause-map
returns-clause-map g c =
    let sorted = c.in_ok-sort_by.ensures in
    let ranks = ranks_by g.met.K.Ord.total (λ (p : g.row.K.Denot × g.row.V.Denot). p.0) in
    IfOk-weaker c.last_of_each.result _ _ (λ kept runs. runs
    ∙ runs_are_map g.met.K.Ord.total c.sort_by.new.self.items
    (sorted.sorted _ ranks (answers_always _ _ _ (λ f a r f' k. ap is_lt k.met)))
    ∙ stable_map g.met.K.Ord.total c.args.entries.items c.sort_by.new.self.items
    (sorted.stable _ ranks (answers_always _ _ _ (λ f a r f' k. ap is_lt k.met)))) c.last_of_each.ensures

pub returns-clause-rises : goal.returns-clause-rises
returns-clause-rises g c =
    let sorted = c.in_ok-sort_by.ensures in
    let ranks = ranks_by g.met.K.Ord.total (λ (p : g.row.K.Denot × g.row.V.Denot). p.0) in
    IfOk-weaker c.last_of_each.result _ _ (λ kept runs.
    subst (λ (es : List (g.row.K.Denot × g.row.V.Denot)). Rises g.K.Ord.cmp es) (sym (runs
    ∙ runs_are_map g.met.K.Ord.total c.sort_by.new.self.items
    (sorted.sorted _ ranks (answers_always _ _ _ (λ f a r f' k. ap is_lt k.met)))))
    (map_rises g.met.K.Ord.total c.sort_by.new.self.items)) c.last_of_each.ensures

use Rattle.std.proofs.Common.{rules, ◌≡◌, ◌<◌, ◌^◌}
use Rattle.std.proofs.lemmas.Result.{IfErr-weaker, IfOk-weaker}
use Rattle.wire_codec.specs.Limits.{uncounted}
use Rattle.wire_codec.specs.Records.{text}
use Rattle.wire_callers.proofs.Counters.{read_back}
use Rattle.wire_callers.specs.Counter.{counter_records}
use Rattle.wire_callers.proofs.messages.copied.Goals as goal

pub returns-clause-same : goal.returns-clause-same
returns-clause-same c =
    let m = c.args.counter.now in
    let fits : m.value < 2 ^ 64 = search rules in
    let is : c.deref.result.now ≡ text (counter_records m) = search rules in
    IfOk-weaker c.decode_from_slice.result _ _ (λ copy read. (c.taken_in_one_way.ensures _ _ _ _ _ _
    _ _ _ _ _ (rw is at read.1) (read_back c.text_decodes.ensures c.records_in_order.ensures
    (uncounted 0) _ fits)).1) c.decode_from_slice.ensures.ok

pub returns-clause-memory : goal.returns-clause-memory
returns-clause-memory c =
    let m = c.args.counter.now in
    let fits : m.value < 2 ^ 64 = search rules in
    let is : c.deref.result.now ≡ text (counter_records m) = search rules in
    IfErr-weaker c.decode_from_slice.result _ _ (λ e none other. none other m (rw is (
      _,
      read_back
          c.text_decodes.ensures c.records_in_order.ensures _ _ fits,
    ))) c.decode_from_slice.ensures.err

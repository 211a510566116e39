use Rattle.std.proofs.Common.{arith}
use Rattle.wire_structs.proofs.FirstRefused.{from_start, from_next, next_shorter, first_refused, not_decoded, all_taken}
use Rattle.wire_structs.proofs.refusing.refused_status.Goals as goal

pub loop-message-init : goal.loop-message-init
loop-message-init g c = record {
  follows = rw c.zero-message.ensures.value
      (from_start c.records_in_order.ensures g.M.MessageStruct.takes _ _ _);
  within = omega arith;
  all = c.remaining-whole.ensures;
  begins = omega arith;
}

pub returns-in-Err-clause-err : goal.returns-in-Err-clause-err
returns-in-Err-clause-err g c = λ is.
    not_decoded c.records_in_order.ensures g.M.MessageStruct.takes _ _ _ _ _ _
    c.loop-message.invariant.follows
    (omega (arith, c.remaining.ensures, c.loop-message-test.true)) c.in-Err.ensures.err

pub returns-in-Err-clause-refused : goal.returns-in-Err-clause-refused
returns-in-Err-clause-refused g c = λ is.
    first_refused c.records_in_order.ensures g.M.MessageStruct.takes _ _ _ _ _ _ _
    c.loop-message.invariant.follows
    (omega (arith, c.remaining.ensures, c.loop-message-test.true)) c.in-Err.ensures.err
    c.loop-message.invariant.begins

pub overflow_sub-place : goal.overflow_sub-place
overflow_sub-place g c =
    let shorter = next_shorter g.M.MessageStruct.takes _ _ _ _ _ _ c.in-Ok.ensures.ok.taken in
    omega (
      arith,
      shorter,
      c.remaining-in-Ok.ensures,
      c.loop-message.invariant.within,
      c.loop-message.invariant.all,
    )

pub loop-message-preserved : goal.loop-message-preserved
loop-message-preserved g c =
    let so_far = c.loop-message.invariant in
    let taken = c.in-Ok.ensures.ok in
    let shorter = next_shorter g.M.MessageStruct.takes _ _ _ _ _ _ taken.taken in
    record {
      follows = from_next c.records_in_order.ensures g.M.MessageStruct.takes
          (g.met.M.MessageStruct.single c.records_in_order.ensures.reading) _ _ _ _ _ _ _ _ _ _
          so_far.follows taken.taken taken.left;
      within = omega (arith, shorter, so_far.within);
      all = so_far.all;
      begins = omega (arith, c.remaining-in-Ok.ensures, so_far.all);
    }

pub returns-clause-ok : goal.returns-clause-ok
returns-clause-ok g c = λ is. (
  _,
  all_taken c.records_in_order.ensures g.M.MessageStruct.takes
      _ _ _ _ _ _ c.loop-message.invariant.follows
      (omega (arith, c.remaining.ensures, c.loop-message-test.false)),
)

pub returns-clause-behind : goal.returns-clause-behind
returns-clause-behind g c = λ is. omega (
  arith,
  c.loop-message.invariant.begins,
  c.remaining.ensures,
  c.loop-message-test.false,
)

use Rattle.std.proofs.Common.{◌-◌, ◌∙◌, sym, ap, arith, take, take-append-drop, length-drop}
use Rattle.std.proofs.lemmas.Result.{err_from_is_err_and}
use Rattle.wire_codec.proofs.DelimitedLists.{limit_is_whole, no_payload, ran_past, no_delimited}
use Rattle.wire_codec.proofs.DelimitedLists.{take_short}
use Rattle.wire_structs.proofs.message.MessageStruct.merge_delimited.Goals as goal

pub returns-in_err-len-clause-err : goal.returns-in_err-len-clause-err
returns-in_err-len-clause-err g c =
    let p = err_from_is_err_and c.from_residual.result c.from_residual.ensures.1 in
    rw p.1 (no_delimited c.delimited_is_read.ensures g.Self.MessageStruct.takes _ _ _ _ _
    c.in_err-len.ensures.fault)

pub returns-in_err-merge_to_limit-clause-err : goal.returns-in_err-merge_to_limit-clause-err
returns-in_err-merge_to_limit-clause-err g c =
    let p = err_from_is_err_and c.from_residual-in_err-merge_to_limit.result
    c.from_residual-in_err-merge_to_limit.ensures.1 in
    rw p.1 (no_payload c.delimited_is_read.ensures g.Self.MessageStruct.takes _ _ _ _ _ _
    c.in_ok-len.ensures.payload _ _ (sym (take-append-drop c.in_ok-len.len _))
    (ap (λ n. n - c.in_ok-len.len) c.remaining.ensures
    ∙ sym (length-drop c.in_ok-len.len _))
    c.in_err-merge_to_limit.ensures.err)

pub returns-then-remaining-rest-clause-err : goal.returns-then-remaining-rest-clause-err
returns-then-remaining-rest-clause-err g c =
    ran_past c.delimited_is_read.ensures g.Self.MessageStruct.takes _ _ _ _ _ _
    c.in_ok-len.ensures.payload _ _ _ _ _ (sym (take-append-drop c.in_ok-len.len _))
    (ap (λ n. n - c.in_ok-len.len) c.remaining.ensures
    ∙ sym (length-drop c.in_ok-len.len _))
    (omega (
      arith,
      length-drop c.in_ok-len.len (g.Self.Source.Buf.unread c.decode_length.new.buf),
      c.remaining.ensures,
      c.remaining-2.ensures,
      c.if-remaining-rest.true,
    ))
    c.in_ok-merge_to_limit.ensures.ok.taken

pub returns-clause-ok : goal.returns-clause-ok
returns-clause-ok g c =
    let taken = c.in_ok-merge_to_limit.ensures.ok in
    let whole = limit_is_whole c.delimited_is_read.ensures g.Self.MessageStruct.takes _ _ _ _ _ _ _
    _ _
    (sym (take-append-drop c.in_ok-len.len _))
    (ap (λ n. n - c.in_ok-len.len) c.remaining.ensures
    ∙ sym (length-drop c.in_ok-len.len _))
    (omega (
      arith,
      length-drop c.in_ok-len.len (g.Self.Source.Buf.unread c.decode_length.new.buf),
      c.remaining.ensures,
      c.remaining-2.ensures,
      c.if-remaining-rest.false,
    )) taken.taken in
    record {
      charge = taken.charge;
      taken = record {
        payload = take c.in_ok-len.len (g.Self.Source.Buf.unread c.decode_length.new.buf);
        read = rw (whole.0) c.in_ok-len.ensures.payload;
        short = take_short c.in_ok-len.len c.args.max _ c.in_ok-len.ensures.within;
        taken = whole.1;
      };
      left = taken.left;
    }

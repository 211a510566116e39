use Rattle.std.proofs.Common.{◌≡◌, ◌<◌, ◌≤◌, length, take, drop, refl, sym, subst, ◌∙◌, rules, arith}
use Rattle.wire_base.specs.Field as fields
use Rattle.wire_base.specs.Limits.{HasRoom}
use Rattle.wire_read.specs.Budget.{budget, Spends}
use Rattle.wire_read.specs.PartFault.{PayloadPart}
use Rattle.wire_read.proofs.Budgets.{less_none}
use Rattle.wire_read.proofs.Payloads.{delimited_there, payload_length}
use Rattle.wire_read.proofs.payload.read_bytes.Goals as goal

pub returns-in-Err-clause-fault : goal.returns-in-Err-clause-fault
returns-in-Err-clause-fault c l same = PayloadPart.bad_length c.in-Err.ensures.fault

pub returns-then-place-len-clause-fault : goal.returns-then-place-len-clause-fault
returns-then-place-len-clause-fault c l same =
    let short : length c.decode_varint.new.buf.now < c.in-Ok.len = search (rules, arith) in
    PayloadPart.short_payload c.in-Ok.len c.decode_varint.new.buf.now c.in-Ok.ensures.ok short

pub returns-in-None-clause-fault : goal.returns-in-None-clause-fault
returns-in-None-clause-fault c l same =
    let few : c.in-Ok.len ≤ length c.decode_varint.new.buf.now = search (rules, arith) in
    let no : ¬ HasRoom (budget c.args.left) c.in-Ok.len = search rules in
    PayloadPart.no_room c.in-Ok.len c.decode_varint.new.buf.now c.in-Ok.ensures.ok few
    (λ fits. no (subst (λ b. HasRoom b c.in-Ok.len) (less_none _ ∙ same) fits.counts.unknown_bytes))

pub returns-in-Some-clause-ok : goal.returns-in-Some-clause-ok
returns-in-Some-clause-ok c =
    let len = c.in-Ok.len in
    let mid = c.decode_varint.new.buf.now in
    let few : len ≤ length mid = search (rules, arith) in
    let front : c.split_at.result.0.now ≡ take len mid = search rules in
    let back : c.split_at.result.1.now ≡ drop len mid = search rules in
    let spent : Spends len c.args.left c.in-Some.unknown_bytes = search rules in
    record {
      payload = fields.bytes c.split_at.result.0.now;
      is = λ n. refl;
      kind = refl;
      read = λ n. delimited_there len c.args.bytes.now mid _ _ c.in-Ok.ensures.ok few front back;
      spent = subst (λ k. Spends k c.args.left c.in-Some.unknown_bytes)
          (sym (payload_length len mid _ few front)) spent;
    }

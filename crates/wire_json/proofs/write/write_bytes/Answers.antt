use Rattle.std.proofs.Common.{ℕ, ◌+◌, ◌++◌, ◌-◌, ◌∙◌, List, take, drop, ap, append_assoc, arith}
use Rattle.wire_json.specs.Written.{written_byte, written_bytes}
use Rattle.wire_json.proofs.Writing.{escape_next, goes_on, ends}
use Rattle.wire_json.proofs.write.write_bytes.Goals as goal

pub write_escape-requires : goal.write_escape-requires
write_escape-requires c =
    escape_next c.args.bytes.now c.loop-byte.place c.plain_end-end.result c.in-Some.byte
    c.plain_end-end.ensures.plain c.in-Some.ensures.0

pub loop-byte-preserved : goal.loop-byte-preserved
loop-byte-preserved c =
    let bytes = c.args.bytes.now in
    let place = c.loop-byte.place in
    let end = c.plain_end-end.result in
    let old = c.args.out.now.items in
    let now = c.loop-byte.out.items in
    let byte = c.in-Some.byte in
    let run = take (end - place) (drop place bytes) in
    let order = c.plain_end-end.ensures.onward.forward in
    let is = c.in_ok-write_escape-in-Some.ensures.ok ∙ ap (λ (l : List ℕ). l ++ written_byte byte)
    c.in_ok-extend_from_slice.ensures.items in
    let (front, begun) = c.loop-byte.invariant.front in
    record {
      all = ap (λ (l : List ℕ). l ++ written_bytes (drop (end + 1) bytes)) is
          ∙ goes_on bytes old now place end byte order c.plain_end-end.ensures.plain
          c.in-Some.ensures.0 c.loop-byte.invariant.all;
      front = (
        (front ++ run) ++ written_byte byte,
        is ∙ ap (λ (l : List ℕ). (l ++ run) ++ written_byte byte) begun
            ∙ ap (λ (l : List ℕ). l ++ written_byte byte) (append_assoc old front run)
            ∙ append_assoc old (front ++ run) (written_byte byte),
      );
      within = omega (arith, c.in-Some.ensures.1);
    }

pub returns-in-None-clause-ok : goal.returns-in-None-clause-ok
returns-in-None-clause-ok c =
    c.in_ok-extend_from_slice.ensures.items
    ∙ ends c.args.bytes.now c.args.out.now.items c.loop-byte.out.items c.loop-byte.place
    c.plain_end-end.result c.plain_end-end.ensures.onward.forward c.plain_end-end.ensures.plain
    c.in-None.ensures c.loop-byte.invariant.all

use Rattle.std.proofs.Common.{◌++◌, drop, arith}
use Rattle.std.specs.Prelude.{encode_utf8}
use Rattle.wire_json.proofs.Chars.{part_ends, part_more}
use Rattle.wire_json.proofs.text.skip_chars.Goals as goal

pub returns-in-None-clause-ok : goal.returns-in-None-clause-ok
returns-in-None-clause-ok c =
    let text = c.args.text.now in
    let (bytes, sofar) = c.loop-part.invariant.sofar in
    let part = c.in_ok-part.part in
    let read = rw c.in-None.is at c.in_ok-part.ensures.ok in
    let (chars, reads, is) = part_ends (drop c.args.at text) (drop c.loop-part.place text) bytes
    part.run.now (drop part.after text) sofar read in
    (chars, reads)

pub loop-part-preserved : goal.loop-part-preserved
loop-part-preserved c =
    let text = c.args.text.now in
    let (bytes, sofar) = c.loop-part.invariant.sofar in
    let part = c.in_ok-part.part in
    let read = rw c.in-Some.is at c.in_ok-part.ensures.ok in
    record {
      sofar = (
        (bytes ++ part.run.now) ++ encode_utf8 c.in-Some.field-0,
        part_more (drop c.args.at text) (drop c.loop-part.place text) bytes part.run.now
            c.in-Some.field-0 (drop part.after text) sofar read,
      );
      onward = omega (arith, c.in_ok-part.ensures.behind.forward);
      within = c.in_ok-part.ensures.behind.within;
    }

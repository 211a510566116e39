use Rattle.std.proofs.Common.{ℕ, List, ◌++◌, drop, sym, ap, ◌∙◌, arith}
use Rattle.std.specs.Prelude.{encode_utf8}
use Rattle.wire_json.specs.Written.{written_bytes}
use Rattle.wire_json.proofs.Chars.{part_ends, part_more}
use Rattle.wire_json.proofs.Writing.{char_more, run_more}
use Rattle.wire_json.proofs.transcribe.copy_chars.Goals as goal

pub returns-in-None-clause-ok : goal.returns-in-None-clause-ok
returns-in-None-clause-ok c =
    let text = c.args.text.now in
    let (bytes, sofar, put) = c.loop-part.invariant.sofar in
    let part = c.in_ok-part.part in
    let run = part.run.now in
    let old = c.args.out.now.items in
    let read = rw c.in-None.is at c.in_ok-part.ensures.ok in
    let (chars, reads, is) = part_ends (drop c.args.at text) (drop c.loop-part.place text) bytes
    run (drop part.after text) sofar read in (
      chars,
      reads,
      c.in_ok-extend_from_slice.ensures.items
          ∙ ap (λ (l : List ℕ). c.loop-part.out.items ++ l) c.as_bytes.ensures.value
          ∙ ap (λ (l : List ℕ). l ++ run) put
          ∙ run_more old bytes run read.reads_run.plain
          ∙ ap (λ (l : List ℕ). old ++ written_bytes l) (sym is),
    )

pub loop-part-preserved : goal.loop-part-preserved
loop-part-preserved c =
    let text = c.args.text.now in
    let (bytes, sofar, put) = c.loop-part.invariant.sofar in
    let part = c.in_ok-part.part in
    let run = part.run.now in
    let char = encode_utf8 c.in-Some.character in
    let read = rw c.in-Some.is at c.in_ok-part.ensures.ok in
    record {
      sofar = (
        (bytes ++ run) ++ char,
        part_more (drop c.args.at text) (drop c.loop-part.place text) bytes run
            c.in-Some.character (drop part.after text) sofar read,
        c.in_ok-write_char-in-Some.ensures.ok
            ∙ ap (λ (l : List ℕ). l ++ written_bytes char)
            (c.in_ok-extend_from_slice.ensures.items
            ∙ ap (λ (l : List ℕ). c.loop-part.out.items ++ l) c.as_bytes.ensures.value)
            ∙ char_more c.args.out.now.items c.loop-part.out.items bytes run char
            read.reads_run.plain put,
      );
      onward = omega (arith, c.in_ok-part.ensures.behind.forward);
      within = c.in_ok-part.ensures.behind.within;
    }

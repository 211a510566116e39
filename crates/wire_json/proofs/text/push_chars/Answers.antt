use Rattle.std.proofs.Common.{List, ℕ, ◌++◌, drop, sym, ap, ◌∙◌, append_assoc, arith}
use Rattle.std.specs.Prelude.{encode_utf8, string_bytes}
use Rattle.wire_json.proofs.Chars.{part_ends, part_more}
use Rattle.wire_json.proofs.text.push_chars.Goals as goal

pub returns-in-None-clause-ok : goal.returns-in-None-clause-ok
returns-in-None-clause-ok c =
    let text = c.args.text.now in
    let (bytes, sofar, put) = c.loop-part.invariant.sofar in
    let part = c.in_ok-part.part in
    let read = rw c.in-None.is at c.in_ok-part.ensures.ok in
    let (chars, reads, is) = part_ends (drop c.args.at text) (drop c.loop-part.place text) bytes
    part.run.now (drop part.after text) sofar read in
    let old = string_bytes c.args.out.now in (
      chars,
      reads,
      c.in_ok-push_str.ensures.bytes ∙ ap (λ (l : List ℕ). l ++ part.run.now) put
          ∙ append_assoc old bytes part.run.now ∙ ap (λ (l : List ℕ). old ++ l) (sym is),
    )

pub loop-part-preserved : goal.loop-part-preserved
loop-part-preserved c =
    let text = c.args.text.now in
    let (bytes, sofar, put) = c.loop-part.invariant.sofar in
    let part = c.in_ok-part.part in
    let read = rw c.in-Some.is at c.in_ok-part.ensures.ok in
    let old = string_bytes c.args.out.now in
    let run = part.run.now in
    let char = encode_utf8 c.in-Some.character in
    record {
      sofar = (
        (bytes ++ run) ++ char,
        part_more (drop c.args.at text) (drop c.loop-part.place text) bytes run
            c.in-Some.character (drop part.after text) sofar read,
        c.in_ok-push-in-Some.ensures.bytes ∙ ap (λ (l : List ℕ). l ++ char)
            (c.in_ok-push_str.ensures.bytes ∙ ap (λ (l : List ℕ). l ++ run) put
            ∙ append_assoc old bytes run) ∙ append_assoc old (bytes ++ run) char,
      );
      onward = omega (arith, c.in_ok-part.ensures.behind.forward);
      within = c.in_ok-part.ensures.behind.within;
    }

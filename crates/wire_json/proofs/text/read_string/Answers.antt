use Rattle.std.proofs.Common.{◌+◌, ◌++◌, ℕ, List, [], drop, sym, ap, ◌∙◌}
use Rattle.std.proofs.lemmas.Result.{err_from_is_err_and}
use Rattle.std.specs.Prelude.{encode_utf8, encode_utf8_all, string_bytes}
use Rattle.wire_json.specs.Fault.{no_quote, in_string}
use Rattle.wire_json.proofs.Chars.{no_chars, part_ends, part_more, fault_behind, fault_in_string, string_of}
use Rattle.wire_json.proofs.text.read_string.Goals as goal

pub returns-then-not-stands-clause-fault : goal.returns-then-not-stands-clause-fault
returns-then-not-stands-clause-fault c =
    rw c.syntax.ensures (no_quote (sym c.if-not-stands.ensures.test))

pub returns-in_err-part-clause-fault : goal.returns-in_err-part-clause-fault
returns-in_err-part-clause-fault c =
    let p = err_from_is_err_and c.from_residual.result c.from_residual.ensures.1 in
    rw (p.1, p.2) (in_string (drop (c.args.at + 1) c.args.text.now) c.if-not-stands.ensures.here
    c.in_err-part.ensures.fault)

pub returns-in-None-clause-ok : goal.returns-in-None-clause-ok
returns-in-None-clause-ok c =
    let text = c.args.text.now in
    let inside = drop (c.args.at + 1) text in
    let part = c.in_ok-part.part in
    let read = rw c.in-None.is at c.in_ok-part.ensures.ok in
    let (chars, reads, is) =
    part_ends inside inside [] part.run.now (drop part.after text) (no_chars inside) read in
    string_of part.run.now (drop c.args.at text) inside (drop part.after text)
    c.if-not-stands.ensures.here chars reads (sym is)

pub returns-in_err-after-in-Some-clause-fault : goal.returns-in_err-after-in-Some-clause-fault
returns-in_err-after-in-Some-clause-fault c =
    let p = err_from_is_err_and c.from_residual-in_err-after-in-Some.result
    c.from_residual-in_err-after-in-Some.ensures.1 in
    let text = c.args.text.now in
    let inside = drop (c.args.at + 1) text in
    let part = c.in_ok-part.part in
    let read = rw c.in-Some.is at c.in_ok-part.ensures.ok in
    let behind = drop part.after text in
    let sofar = part_more inside inside [] part.run.now c.in-Some.character behind
    (no_chars inside) read in
    let e = c.in_err-after-in-Some.field-0.0 in
    rw (p.1, p.2) (fault_in_string text (drop c.args.at text) inside
    c.if-not-stands.ensures.here e (fault_behind text inside behind _ sofar e
    c.in_err-after-in-Some.ensures.fault))

pub returns-in_ok-after-in-Some-clause-ok : goal.returns-in_ok-after-in-Some-clause-ok
returns-in_ok-after-in-Some-clause-ok c =
    let text = c.args.text.now in
    let inside = drop (c.args.at + 1) text in
    let part = c.in_ok-part.part in
    let run = part.run.now in
    let char = encode_utf8 c.in-Some.character in
    let read = rw c.in-Some.is at c.in_ok-part.ensures.ok in
    let sofar = part_more inside inside [] run c.in-Some.character (drop part.after text)
    (no_chars inside) read in
    let after = drop c.in_ok-after-in-Some.after text in
    let (more, reads, put) = c.in_ok-after-in-Some.ensures.ok in
    let (chars, all, is) = sofar.read more after reads in
    string_of (string_bytes c.push_chars.new.out) (drop c.args.at text) inside after
    c.if-not-stands.ensures.here chars all
    (put ∙ ap (λ (l : List ℕ). l ++ encode_utf8_all more)
    (c.in_ok-push-in-Some.ensures.bytes ∙ ap (λ (l : List ℕ). l ++ char)
    c.in_ok-value-in-Some.ensures.ok) ∙ sym is)

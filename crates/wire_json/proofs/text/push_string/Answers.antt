use Rattle.std.proofs.Common.{◌≡◌, ◌+◌, ◌++◌, ℕ, List, drop, refl, sym}
use Rattle.std.proofs.lemmas.Result.{IfOk-weaker, IfErr-weaker}
use Rattle.std.specs.Prelude.{encode_utf8_all, string_bytes}
use Rattle.wire_json.specs.declared.fault.JsonError.{JsonError}
use Rattle.wire_json.specs.Answer.{FaultAt, IfRefused}
use Rattle.wire_json.specs.Fault.{CharsFault, QuoteFault, no_quote}
use Rattle.wire_json.specs.Text.{ReadsChars, ReadsString}
use Rattle.wire_json.proofs.Chars.{fault_in_string, string_of}
use Rattle.wire_json.proofs.text.push_string.Goals as goal

pub returns-then-not-stands-clause-fault : goal.returns-then-not-stands-clause-fault
returns-then-not-stands-clause-fault c =
    rw c.syntax.ensures (no_quote (sym c.if-not-stands.ensures.test))

pub returns-clause-ok : goal.returns-clause-ok
returns-clause-ok c =
    let text = c.args.text.now in
    let old = drop c.args.at text in
    let inside = drop (c.args.at + 1) text in
    let before = string_bytes c.args.out.now in
    let after = string_bytes c.push_chars.new.out in
    let P : ℕ → Type 0 = λ end. (chars : List ℕ) × ReadsChars chars inside (drop end text)
    × (after ≡ before ++ encode_utf8_all chars) in
    let Q : ℕ → Type 0 = λ end. (bytes : List ℕ) × ReadsString bytes old (drop end text)
    × (after ≡ before ++ bytes) in
    let whole : (end : ℕ) → P end → Q end = λ end h. (
      encode_utf8_all h.0,
      string_of (encode_utf8_all h.0) old inside (drop end text) c.if-not-stands.ensures.here
          h.0 h.1 refl,
      h.2,
    ) in
    IfOk-weaker c.push_chars.result P Q whole c.push_chars.ensures.ok

pub returns-clause-fault : goal.returns-clause-fault
returns-clause-fault c =
    let text = c.args.text.now in
    let old = drop c.args.at text in
    let inside = drop (c.args.at + 1) text in
    let P : JsonError → Type 0 = λ e. IfRefused e
    (λ fault. FaultAt text fault (CharsFault inside)) in
    let Q : JsonError → Type 0 = λ e. IfRefused e
    (λ fault. FaultAt text fault (QuoteFault old)) in
    let whole : (e : JsonError) → P e → Q e =
    fault_in_string text old inside c.if-not-stands.ensures.here in
    IfErr-weaker c.push_chars.result P Q whole c.push_chars.ensures.fault

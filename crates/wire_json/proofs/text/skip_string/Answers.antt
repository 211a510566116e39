use Rattle.std.proofs.Common.{ℕ, ◌+◌, List, drop, refl, sym}
use Rattle.std.proofs.lemmas.Result.{IfOk-weaker, IfErr-weaker}
use Rattle.std.specs.Prelude.{encode_utf8_all}
use Rattle.wire_json.specs.declared.fault.Fault.{Fault}
use Rattle.wire_json.specs.Answer.{FaultAt}
use Rattle.wire_json.specs.Fault.{CharsFault, QuoteFault, no_quote, in_string}
use Rattle.wire_json.specs.Text.{ReadsChars, ReadsString}
use Rattle.wire_json.proofs.Chars.{string_of}
use Rattle.wire_json.proofs.text.skip_string.Goals as goal

pub returns-then-not-stands-clause-fault : goal.returns-then-not-stands-clause-fault
returns-then-not-stands-clause-fault c =
    rw c.syntax.ensures (no_quote (sym c.if-not-stands.ensures.test))

pub returns-clause-ok : goal.returns-clause-ok
returns-clause-ok c =
    let text = c.args.text.now in
    let old = drop c.args.at text in
    let inside = drop (c.args.at + 1) text in
    let P : ℕ → Type 0 = λ after. (chars : List ℕ) × ReadsChars chars inside (drop after text) in
    let Q : ℕ → Type 0 = λ after. (bytes : List ℕ) × ReadsString bytes old (drop after text) in
    let whole : (after : ℕ) → P after → Q after = λ after h. (
      encode_utf8_all h.0,
      string_of (encode_utf8_all h.0) old inside (drop after text) c.if-not-stands.ensures.here
          h.0 h.1 refl,
    ) in
    IfOk-weaker c.skip_chars.result P Q whole c.skip_chars.ensures.ok

pub returns-clause-fault : goal.returns-clause-fault
returns-clause-fault c =
    let text = c.args.text.now in
    let old = drop c.args.at text in
    let inside = drop (c.args.at + 1) text in
    let P : Fault → Type 0 = λ fault. FaultAt text fault (CharsFault inside) in
    let Q : Fault → Type 0 = λ fault. FaultAt text fault (QuoteFault old) in
    let whole : (fault : Fault) → P fault → Q fault =
    λ fault h. in_string inside c.if-not-stands.ensures.here h in
    IfErr-weaker c.skip_chars.result P Q whole c.skip_chars.ensures.fault

-- The characters of a string so far.
use Rattle.std.proofs.Common.{◌≡◌, ℕ, List, [], ◌∷◌, ◌++◌, drop, Some, None, refl, sym, ap, ◌∙◌, subst, inl, inr, append_assoc, append-nil}
use Rattle.std.proofs.lemmas.Str.{encodes-append}
use Rattle.std.specs.Prelude.{encode_utf8, encode_utf8_all}
use Rattle.std.specs.List.{AllByRecursion}
use Rattle.wire_json.specs.declared.fault.FaultKind.{FaultKind}
use Rattle.wire_json.specs.declared.fault.JsonError.{JsonError}
use Rattle.wire_json.specs.declared.fault.JsonError.TheVariants.{Refused, OutOfMemory}
use Rattle.wire_json.specs.Answer.{FaultAt, IfRefused}
use Rattle.wire_json.specs.Fault.{CharsFault, QuoteFault, past_char, in_string}
use Rattle.wire_json.specs.Part.{ReadsRun, ReadsPart}
use Rattle.wire_json.specs.Text.{IsUnescaped, ReadsChars, ReadsEscape, ReadsString}
use Rattle.wire_json.proofs.Runs.{past_run}

-- Characters that stand for these bytes were read: what is read from now on is read from the start
-- on behind them, and a fault here is a fault there.
pub record Sofar (start now bytes : List ℕ) : Type 0 where
  pub read : (more new : List ℕ) → ReadsChars more now new
      → (chars : List ℕ) × ReadsChars chars start new
      × (encode_utf8_all chars ≡ bytes ++ encode_utf8_all more)
  pub fault : (k : FaultKind) (left : List ℕ) → CharsFault now k left → CharsFault start k left

pub no_chars : (start : List ℕ) → Sofar start start []
no_chars start = record {
  read = λ more new h. (more, h, refl);
  fault = λ k left h. h;
}

reads_more : (cs : List ℕ) → AllByRecursion IsUnescaped cs → (more rest new : List ℕ)
    → ReadsChars more rest new → ReadsChars (cs ++ more) (encode_utf8_all cs ++ rest) new
reads_more [] each more rest new h = h
reads_more (c ∷ cs) (one, others) more rest new h = (
  encode_utf8_all cs ++ rest,
  inl (record {
    unescaped = one;
    parts = append_assoc (encode_utf8 c) (encode_utf8_all cs) rest;
  }),
  reads_more cs others more rest new h,
)

run_read : (run now rest more new : List ℕ) (r : ReadsRun run now rest) → ReadsChars more rest new
    → ReadsChars (r.chars ++ more) now new
run_read run now rest more new r h =
    let P : List ℕ → Type 0 = λ l. ReadsChars (r.chars ++ more) l new in
    subst P (sym (r.parts ∙ ap (λ (l : List ℕ). l ++ rest) (sym r.run_is)))
    (reads_more r.chars r.each more rest new h)

pub run_more : (start now bytes run rest : List ℕ) → Sofar start now bytes → ReadsRun run now rest
    → Sofar start rest (bytes ++ run)
run_more start now bytes run rest s r = record {
  read = λ more new h.
      let (chars, reads, is) = s.read (r.chars ++ more) new (run_read run now rest more new r h) in (
        chars,
        reads,
        is ∙ ap (λ (l : List ℕ). bytes ++ l) (encodes-append r.chars more
            ∙ ap (λ (l : List ℕ). l ++ encode_utf8_all more) r.run_is)
            ∙ sym (append_assoc bytes run (encode_utf8_all more)),
      );
  fault = λ k left h. s.fault k left (past_run run now rest k left r h);
}

pub escape_more : (start now bytes : List ℕ) (c : ℕ) (rest : List ℕ) → Sofar start now bytes
    → ReadsEscape c now rest → Sofar start rest (bytes ++ encode_utf8 c)
escape_more start now bytes c rest s r = record {
  read = λ more new h.
      let (chars, reads, is) = s.read (c ∷ more) new (rest, inr r, h) in
      (chars, reads, is ∙ sym (append_assoc bytes (encode_utf8 c) (encode_utf8_all more)));
  fault = λ k left h. s.fault k left (past_char c rest (inr r) h);
}

-- a part with an escape
pub part_more : (start now bytes run : List ℕ) (c : ℕ) (rest : List ℕ) → Sofar start now bytes
    → ReadsPart run (Some c) now rest → Sofar start rest ((bytes ++ run) ++ encode_utf8 c)
part_more start now bytes run c rest s r =
    escape_more start r.middle (bytes ++ run) c rest
    (run_more start now bytes run r.middle s r.reads_run) r.ends

-- the last part
pub part_ends : (start now bytes run new : List ℕ) → Sofar start now bytes
    → ReadsPart run None now new
    → (chars : List ℕ) × ReadsChars chars start new × (encode_utf8_all chars ≡ bytes ++ run)
part_ends start now bytes run new s r =
    let ended = run_more start now bytes run r.middle s r.reads_run in
    let (chars, reads, is) = ended.read [] new r.ends in
    (chars, reads, is ∙ append-nil (bytes ++ run))

-- the string whose characters stand behind the quotation mark
pub string_of : (bytes old inside new : List ℕ) → old ≡ 34 ∷ inside → (chars : List ℕ)
    → ReadsChars chars inside new → bytes ≡ encode_utf8_all chars → ReadsString bytes old new
string_of bytes old inside new opens chars reads is = record {
  inside = inside;
  opens = opens;
  chars = chars;
  reads = reads;
  bytes_are = is;
}

-- a fault in the characters is one in the string
pub fault_in_string : (text old inside : List ℕ) → old ≡ 34 ∷ inside → (e : JsonError)
    → IfRefused e (λ fault. FaultAt text fault (CharsFault inside))
    → IfRefused e (λ fault. FaultAt text fault (QuoteFault old))
fault_in_string text old inside opens (Refused fault) h = in_string inside opens h
fault_in_string text old inside opens OutOfMemory h = tt

-- a fault behind characters
pub fault_behind : (text start now bytes : List ℕ) → Sofar start now bytes → (e : JsonError)
    → IfRefused e (λ fault. FaultAt text fault (CharsFault now))
    → IfRefused e (λ fault. FaultAt text fault (CharsFault start))
fault_behind text start now bytes s (Refused fault) h =
    s.fault fault.kind (drop fault.at text) h
fault_behind text start now bytes s OutOfMemory h = tt

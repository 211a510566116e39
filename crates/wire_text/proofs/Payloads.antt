-- A payload that was read, and what its bytes are.
use Rattle.std.proofs.Common.{◌≡◌, ◌≢◌, inl, inr, ℕ, List, None, Result, Ok, Err}
use Rattle.std.specs.Prelude.{IsUtf8, OnErr, IfErr, MatchResult}
use Rattle.std.specs.Result.{result_or}
use Rattle.wire_base.specs.declared.error.DecodeError.{DecodeError}
use Rattle.wire_base.specs.declared.error.DecodeError.TheVariants.{InvalidUtf8}
use Rattle.wire_base.specs.Delimited.{IsDelimited, DelimitedFault, no_length, too_large, cut_short}
use Rattle.wire_base.specs.Read.{Reads}
use Rattle.wire_base.specs.Varint as v
use Rattle.wire_text.specs.BytesPayload.{BytesRefusal}
use Rattle.wire_text.specs.StringPayload.{StringFault, StringRefusal, no_payload, not_utf8}

-- no error of a length and what stands behind it is one of its bytes
is_no_utf8 : (bytes : List ℕ) (e : DecodeError) → DelimitedFault None bytes e → e ≢ InvalidUtf8
is_no_utf8 bytes e (no_length (v.cut_short all few)) same = absurd cc
is_no_utf8 bytes e (no_length (v.too_long front tenth rest parts all nine high)) same = absurd cc
is_no_utf8 bytes e (too_large len rest r large) same = absurd cc
is_no_utf8 bytes e (cut_short len rest r fits few) same = absurd cc

pub refusal_is_no_utf8 : (bytes : List ℕ) (e : DecodeError) → BytesRefusal bytes e → e ≢ InvalidUtf8
refusal_is_no_utf8 bytes e (inl fault) same = is_no_utf8 bytes e fault same
refusal_is_no_utf8 bytes e (inr (memory, there)) same = absurd cc

-- bytes that are refused are no string
pub no_string : (bytes : List ℕ) (e : DecodeError) → BytesRefusal bytes e → StringRefusal bytes e
no_string bytes e (inl fault) = inl (no_payload fault)
no_string bytes e (inr memory) = inr memory

-- a payload whose bytes are no text
pub refused_text : {T : Type 0} (r : Result T DecodeError) (old payload new : List ℕ)
    → Reads old (IsDelimited payload) new → IfErr r (λ e. e ≡ InvalidUtf8)
    → OnErr r (¬ IsUtf8 payload)
    → IfErr r (StringRefusal old)
refused_text (Ok value) old payload new r err invalid = tt
refused_text (Err e) old payload new r err invalid = rw err (inl (not_utf8 payload new r invalid))

-- a payload that is tested, and not copied
pub borrowed_text : {T E : Type 0} (P : T → Type 0) (r : Result T E) (old payload new : List ℕ)
    → Reads old (IsDelimited payload) new → MatchResult r P (λ _. ¬ IsUtf8 payload)
    → IfErr (result_or {D = DecodeError} r (Err InvalidUtf8)) (StringFault old)
borrowed_text P (Ok text) old payload new h test = tt
borrowed_text P (Err e) old payload new h test = not_utf8 payload new h test

-- The laws of strings, from those of length-delimited payloads.
use Rattle.std.proofs.Common.{◌≡◌, ◌⊎◌, inl, inr, ℕ, true, false, Bool, List, None, refl, sym, subst, ◌∙◌}
use Rattle.std.proofs.lemmas.Str.{IsUtf8-from_is_utf8, is_utf8-from_IsUtf8}
use Rattle.std.specs.Prelude.{IsUtf8}
use Rattle.std.specs.Str.{is_utf8}
use Rattle.wire_base.specs.declared.error.DecodeError.{DecodeError}
use Rattle.wire_base.specs.declared.error.DecodeError.TheVariants.{InvalidUtf8}
use Rattle.wire_base.specs.Delimited.{IsDelimited}
use Rattle.wire_base.specs.Read.{Reads}
use Rattle.wire_base.specs.VarintLaws.{OneDelimited, NoDelimitedBesideFault, OneDelimitedFault, DelimitedOrFault, DelimitedOrFaultStands}
use Rattle.wire_text.specs.Laws.{OneString, NoStringBesideFault, OneStringFault, StringOrFaultStands}
use Rattle.wire_text.specs.StringPayload.{IsString, StringFault, no_payload, not_utf8}

as_payload : (p old new : List ℕ) → Reads old (IsString p) new → Reads old (IsDelimited p) new
as_payload p old new r = record { text = r.text; parts = r.parts; spelled = r.spelled.delimited }

pub one_string_lemma : OneDelimited → OneString
one_string_lemma one p q old r s h k = one p q old r s (as_payload p old r h) (as_payload q old s k)

pub no_string_beside_fault_lemma : OneDelimited → NoDelimitedBesideFault → NoStringBesideFault
no_string_beside_fault_lemma one beside p old rest e r (no_payload f) =
    beside None p old rest e (as_payload p old rest r) tt f
no_string_beside_fault_lemma one beside p old rest e r (not_utf8 q behind s invalid) =
    invalid (subst IsUtf8 (one p q old rest behind (as_payload p old rest r) s).0 r.spelled.utf8)

pub one_string_fault_lemma : NoDelimitedBesideFault → OneDelimitedFault → OneStringFault
one_string_fault_lemma beside one old e f (no_payload a) (no_payload b) = one None old e f a b
one_string_fault_lemma beside one old e f (no_payload a) (not_utf8 q behind s invalid) =
    absurd (beside None q old behind e s tt a)
one_string_fault_lemma beside one old e f (not_utf8 q behind s invalid) (no_payload b) =
    absurd (beside None q old behind f s tt b)
one_string_fault_lemma beside one old e f (not_utf8 q behind s invalid) (not_utf8 p rest r same) =
    refl

abbrev StringOutcome : List ℕ → Type 0
StringOutcome old =
    ((payload : List ℕ) × (rest : List ℕ) × Reads old (IsString payload) rest)
    ⊎ ((e : DecodeError) × StringFault old e)

no_true_is_false : true ≡ false → ⊥
no_true_is_false same = absurd cc

-- a payload that is UTF-8, or is not
by_utf8 : (test : Bool) (p old rest : List ℕ) → is_utf8 p ≡ test → Reads old (IsDelimited p) rest
    → StringOutcome old
by_utf8 true p old rest is r =
    let utf8 = IsUtf8-from_is_utf8 p is in
    inl (
      p,
      rest,
      record {
        text = r.text;
        parts = r.parts;
        spelled = record { delimited = r.spelled; utf8 = utf8 };
      },
    )
by_utf8 false p old rest is r =
    inr (
      InvalidUtf8,
      not_utf8 p rest r (λ utf8. no_true_is_false (sym (is_utf8-from_IsUtf8 p utf8)
          ∙ is)),
    )

string_outcome : (old : List ℕ) → DelimitedOrFault None old → StringOutcome old
string_outcome old (inl (p, rest, r, room)) = by_utf8 (is_utf8 p) p old rest refl r
string_outcome old (inr (e, f)) = inr (e, no_payload f)

pub string_or_fault_lemma : DelimitedOrFaultStands → StringOrFaultStands
string_or_fault_lemma law old = string_outcome old (law None old)

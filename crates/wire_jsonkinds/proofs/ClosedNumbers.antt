-- Values that a closed enum lacks are refused.
use Rattle.std.proofs.Common.{◌≡◌, ℕ, ℤ, List, drop, Option, None, Some, false, true, sym, ◌∙◌, ap, subst}
use Rattle.std.specs.Prelude.{is_none, is_some}
use Rattle.wire_codec.specs.EnumValue.{EnumValue}
use Rattle.wire_codec.specs.Enumeration.{known_or, known_value}
use Rattle.wire_protojson.specs.declared.refusal.ReadError.{ReadError}
use Rattle.wire_protojson.specs.declared.refusal.ReadError.TheVariants.{OutOfMemory, Refused}
use Rattle.wire_protojson.specs.declared.refusal.Reason.{Reason}
use Rattle.wire_protojson.specs.declared.refusal.Reason.TheVariants.{NoValue}
use Rattle.wire_protojson.specs.Enums.{EnumTable, MeansEnum}
use Rattle.wire_protojson.specs.Reads.{ReadsMeaning, RefusedAt, Refuses, no_meaning, no_scalar}
use Rattle.wire_protojson.specs.Reads.{UnlessNoMemory}
use Rattle.wire_protojson.proofs.Refusing.{refused_meaning}
use Rattle.wire_jsonfields.specs.EnumFields.{enum_decided}
use Rattle.wire_jsonkinds.specs.ClosedEnums.{IsOfEnum, MeansClosed}

-- a value that is not known has a number that the enum lacks
pub lacks_number : {E : Type 0} (of : Option E) (z : ℤ) (value : EnumValue E)
    → value ≡ known_or of z → is_none (known_value value) ≡ true → is_some of ≡ true → ⊥
lacks_number None z value is unknown has = absurd cc
lacks_number (Some e) z value is unknown has =
    let told : false ≡ true = sym (ap (λ v. is_none (known_value v)) is) ∙ unknown in
    absurd cc

module _ {E : Type 0} (of_number : ℤ → Option E) (names : EnumTable) (text : List ℕ) where
  fewer : (old : List ℕ) (r : Reason) (left : List ℕ) → Refuses (MeansEnum names) old r left
      → Refuses (MeansClosed of_number names) old r left
  fewer old r left (no_scalar s here h) = no_scalar s here h
  fewer old r left (no_meaning json new reads none) =
      no_meaning json new reads (λ v means. none v means.0)

  -- what an open enum refuses
  pub refused_open : (old : List ℕ) (e : ReadError)
      → UnlessNoMemory e (λ refusal. RefusedAt text refusal (Refuses (MeansEnum names) old))
      → UnlessNoMemory e
      (λ refusal. RefusedAt text refusal (Refuses (MeansClosed of_number names) old))
  refused_open old (Refused refusal) h = fewer old refusal.reason (drop refusal.at text) h
  refused_open old OutOfMemory h = tt

  -- a number that the enum lacks
  pub refused_number : (at : ℕ) (new : List ℕ) (z : ℤ) (e : ReadError)
      → e ≡ Refused (record { reason = NoValue; at = at })
      → ReadsMeaning (MeansEnum names) (drop at text) z new → (IsOfEnum of_number z → ⊥)
      → UnlessNoMemory e (λ refusal.
      RefusedAt text refusal (Refuses (MeansClosed of_number names) (drop at text)))
  refused_number at new z e is (json, reads, means) lacks =
      refused_meaning (MeansClosed of_number names) text at json new e is reads (λ v closed.
      let same = (enum_decided names).one_meaning json z v means closed.0 in
      lacks (subst (IsOfEnum of_number) (sym same) closed.1))

-- What a message keeps as unknown fields are the records that its fields do not own.
use Rattle.std.proofs.Common.{◌≡◌, ◌≤◌, ℕ, [], Bool, true, false, sym, ap, ◌∙◌, arith}
use Rattle.wire_base.proofs.FieldLaws.{joined-none}
use Rattle.wire_base.proofs.JoinedLaws.{joined_assoc}
use Rattle.wire_base.proofs.Takes.{whole_input_lemma}
use Rattle.wire_codec.specs.Charge.{charge}
use Rattle.wire_codec.specs.Field.{Payload, Fields, none, field, joined}
use Rattle.wire_codec.specs.Folds.{Step, Folds}
use Rattle.wire_codec.specs.Limits.{Charge}
use Rattle.wire_fields.specs.Shape.{Shape, keeps, on, two, unknown}
use Rattle.wire_structs.specs.KeptFields.{KeepsUnknown}
use Rattle.wire_structs.specs.ListLaws.{HasLevels, TakesLevels}
use Rattle.wire_structs.specs.Unknown.{unowned, unless_owned}

-- the groups of records are charged their levels
folds_levels : {V : Type 0} (takes : Step V) → TakesLevels takes → (fs : Fields) (m z : V)
    (c : Charge) → Folds takes m fs c z → (charge fs).depth ≤ c.depth
folds_levels takes levels none m z c h = omega arith
folds_levels takes levels (field n p others) m z c (mid, first, rest, step, more, sum) =
    omega (
      arith,
      levels m mid n p first step,
      folds_levels takes levels others mid z rest more,
      ap (λ (x : Charge). x.depth) sum,
    )

module _ {V : Type 0} (s : Shape V) where
  one_kept : (mine : Bool) (n : ℕ) (p : Payload) (c : Charge) (m z : V × Fields) (others : Fields)
      → on mine (s.takes m.0 n p c z.0 × (z.1 ≡ m.1)) (keeps m.1 n p c z.1 × (z.0 ≡ m.0))
      → joined z.1 others ≡ joined m.1 (unless_owned mine n p others)
  one_kept true n p c m z others h = ap (λ (fs : Fields). joined fs others) h.1
  one_kept false n p c m z others h =
      ap (λ (fs : Fields). joined fs others) h.0.1 ∙ joined_assoc m.1 (field n p none) others

  kept_are_unknown : (fs : Fields) (m z : V × Fields) (c : Charge)
      → Folds (two s unknown).takes m fs c z → z.1 ≡ joined m.1 (unowned s.owns fs)
  kept_are_unknown none m z c h =
      ap (λ (x : V × Fields). x.1) h.1 ∙ sym (joined-none m.1)
  kept_are_unknown (field n p others) m z c (mid, first, rest, step, more, sum) =
      kept_are_unknown others mid z rest more
      ∙ one_kept (s.owns n p) n p first m mid (unowned s.owns others) step

  pub keeps_unknown : HasLevels (two s unknown) → KeepsUnknown s
  keeps_unknown h l bytes m low (c, taken) =
      let whole = (whole_input_lemma c l taken.fields bytes []).0 taken.read in
      let deep = folds_levels (two s unknown).takes h.levels taken.fields (two s unknown).default m
      c taken.folded in (
        taken.fields,
        record { spelled = whole.0; levels = omega (arith, deep, whole.1.depth, low) },
        sym (kept_are_unknown taken.fields (two s unknown).default m c taken.folded),
      )

-- A message that declares a field makes of records what the extension makes of them.
use Rattle.std.proofs.Common.{◌≡◌, ℕ, Bool, true, false, refl, sym, ap, ◌∙◌, subst, inl, inr}
use Rattle.std.specs.Prelude.{◌==◌, ◌&&◌}
use Rattle.wire_codec.specs.Charge.{payload_charge}
use Rattle.wire_codec.specs.Field.{Payload, Fields, none, field, joined, push, type_of}
use Rattle.wire_codec.specs.Folds.{Step, Folds}
use Rattle.wire_codec.specs.Limits.{Charge, both, no_charge}
use Rattle.wire_fields.specs.Leaving.{has_type}
use Rattle.wire_fields.specs.Shape.{Owns, on, either, keeps, same_pair}
use Rattle.wire_extensions.proofs.Records.{either_way, own_is, own_not, others_own, others_not}
use Rattle.wire_extensions.proofs.Records.{joined_none, push_joined}
use Rattle.wire_extensions.specs.Extension.{picked, others}
use Rattle.wire_extensions.specs.Laws.{AgreesWithMessage}

module _ {V : Type 0} (takes : Step V) (owns : Owns) where
  own_step : (b : Bool) → b ≡ true → (m z : V) (u w : Fields) (n : ℕ) (p : Payload) (c : Charge)
      → on b (takes m n p c z × (w ≡ u)) (keeps u n p c w × (z ≡ m)) → takes m n p c z × (w ≡ u)
  own_step b is m z u w n p c h =
      subst (λ b. on b (takes m n p c z × (w ≡ u)) (keeps u n p c w × (z ≡ m))) is h

  other_step : (b : Bool) → b ≡ false → (m z : V) (u w : Fields) (n : ℕ) (p : Payload) (c : Charge)
      → on b (takes m n p c z × (w ≡ u)) (keeps u n p c w × (z ≡ m)) → keeps u n p c w × (z ≡ m)
  other_step b is m z u w n p c h =
      subst (λ b. on b (takes m n p c z × (w ≡ u)) (keeps u n p c w × (z ≡ m))) is h

  declared : (m z : V) (u w fs : Fields) (c : Charge)
      → Folds (either owns takes keeps) (m, u) fs c (z, w)
      → (w ≡ joined u (others owns fs)) × ((d : Charge) × Folds takes m (picked owns fs) d z)
  declared m z u w none c h = (
    ap (λ (x : V × Fields). x.1) h.1 ∙ sym (joined_none u),
    (no_charge, (refl, ap (λ (x : V × Fields). x.0) h.1)),
  )
  declared m z u w (field n p fs) c (mid, first, rest, step, more, sum) =
      let next = declared mid.0 z mid.1 w fs rest more in
      elim (either_way (owns n p)) [
        | inl e ↦
            let own = own_step (owns n p) e m mid.0 u mid.1 n p first step in (
              next.0 ∙ ap (λ x. joined x (others owns fs)) own.1
                  ∙ sym (ap (joined u) (others_own owns n p fs e)),
              (
                both first next.1.0,
                subst (λ x. Folds takes m x (both first next.1.0) z)
                    (sym (own_is owns n p fs e)) (mid.0, first, next.1.0, own.0, next.1.1, refl),
              ),
            )
        | inr e ↦
            let other = other_step (owns n p) e m mid.0 u mid.1 n p first step in (
              next.0 ∙ ap (λ x. joined x (others owns fs)) other.0.1
                  ∙ push_joined u n p (others owns fs)
                  ∙ sym (ap (joined u) (others_not owns n p fs e)),
              (
                next.1.0,
                subst (λ x. Folds takes m x next.1.0 z) (sym (own_not owns n p fs e))
                    (subst (λ x. Folds takes x (picked owns fs) next.1.0 z) other.1 next.1.1),
              ),
            )
      ]

  undeclared : (m z : V) (u fs : Fields) (d : Charge) → Folds takes m (picked owns fs) d z
      → (c : Charge) × Folds (either owns takes keeps) (m, u) fs c (z, joined u (others owns fs))
  undeclared m z u none d h =
      (no_charge, (refl, same_pair (z, joined u none) (m, u) h.1 (joined_none u)))
  undeclared m z u (field n p fs) d h = elim (either_way (owns n p)) [
    | inl e ↦
        let (mid, first, rest, step, more, sum) = subst (λ x. Folds takes m x d z)
        (own_is owns n p fs e) h in
        let next = undeclared mid z u fs rest more in (
          both first next.0,
          subst (λ x. Folds (either owns takes keeps) (m, u) (field n p fs)
              (both first next.0) (z, joined u x)) (sym (others_own owns n p fs e)) (
                (mid, u),
                first,
                next.0,
                subst (λ b. on b (takes m n p first mid × (u ≡ u))
                    (keeps u n p first u × (mid ≡ m))) (sym e) (step, refl),
                next.1,
                refl,
              ),
        )
    | inr e ↦
        let next = undeclared m z (push u n p) fs d
        (subst (λ x. Folds takes m x d z) (own_not owns n p fs e) h) in
        let first = payload_charge p in
        let after = push u n p in (
          both first next.0,
          subst (λ x. Folds (either owns takes keeps) (m, u) (field n p fs)
              (both first next.0) (z, x))
              (push_joined u n p (others owns fs)
              ∙ sym (ap (joined u) (others_not owns n p fs e))) (
                (m, after),
                first,
                next.0,
                subst (λ b. on b (takes m n p first m × (after ≡ u))
                    (keeps u n p first after × (m ≡ m))) (sym e) ((refl, refl), refl),
                next.1,
                refl,
              ),
        )
  ]

-- ---- other wire types

-- a step that is taken where another is
folds_as : {V : Type 0} (one other : Step V)
    → ((m z : V) (n : ℕ) (p : Payload) (c : Charge) → one m n p c z → other m n p c z)
    → (m z : V) (fs : Fields) (c : Charge) → Folds one m fs c z → Folds other m fs c z
folds_as one other so m z none c h = h
folds_as one other so m z (field n p fs) c (mid, first, rest, step, more, sum) =
    (mid, first, rest, so m mid n p first step, folds_as one other so mid z fs rest more, sum)

-- what is taken of a number and of a type is taken of both
on_both : (A B : Type 0) (a b : Bool) → on a (on b A B) B → on (a && b) A B
on_both A B true b h = h
on_both A B false b h = h

on_each : (A B : Type 0) (a b : Bool) → on (a && b) A B → on a (on b A B) B
on_each A B true b h = h
on_each A B false b h = h

pub agrees_with_message_lemma : {V : Type 0} (takes : Step V) → AgreesWithMessage takes
agrees_with_message_lemma takes = record {
  declared = λ owns. declared takes owns;
  undeclared = λ owns. undeclared takes owns;
  leaving = λ n types m z fs c. (
    folds_as _ _ (λ m z k p c. on_both _ _ (k == n) (has_type types (type_of p))) m z fs c,
    folds_as _ _ (λ m z k p c. on_each _ _ (k == n) (has_type types (type_of p))) m z fs c,
  );
}

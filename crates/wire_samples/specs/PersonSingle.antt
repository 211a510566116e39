-- What a `Person` makes of a record is single.
use Rattle.std.proofs.Common.{sym, ap, ◌∙◌, arith}
use Rattle.wire_codec.specs.Field.{push}
use Rattle.wire_codec.specs.Folds.{IsSingle}
use Rattle.wire_codec.specs.TakingLaws.{OneReading}
use Rattle.wire_codec.specs.ValueMap.{int32}
use Rattle.wire_samples.specs.FieldStepsLaws.{one_integer, one_string, one_append}
use Rattle.wire_samples.specs.Person.{PersonValue, PersonTakes, id, name, scores, unknown}
use Rattle.wire_samples.specs.Person.{with_id, with_name, with_scores, with_others}

pub person_single : OneReading → IsSingle PersonTakes
person_single reading m u z w n p c d (id v1 n1 p1 c1 z1) (id v2 n2 p2 c2 z2) = (
  c1 ∙ sym c2,
  λ same.
      z1
      ∙ ap (with_id m) (one_integer int32 p v1 v2 p1 p2)
      ∙ ap (λ (x : PersonValue). with_id x v2) same
      ∙ sym z2,
)
person_single reading m u z w n p c d (id v1 n1 p1 c1 z1) (name v2 n2 p2 c2 z2) =
    absurd (omega (arith, n1, n2))
person_single reading m u z w n p c d (id v1 n1 p1 c1 z1) (scores v2 n2 p2 c2 z2) =
    absurd (omega (arith, n1, n2))
person_single reading m u z w n p c d (id v1 n1 p1 c1 z1) (unknown one2 two2 three2 c2 z2) =
    absurd (one2 n1)
person_single reading m u z w n p c d (name v1 n1 p1 c1 z1) (id v2 n2 p2 c2 z2) =
    absurd (omega (arith, n1, n2))
person_single reading m u z w n p c d (name v1 n1 p1 c1 z1) (name v2 n2 p2 c2 z2) = (
  c1 ∙ sym c2,
  λ same.
      z1
      ∙ ap (with_name m) (one_string p v1 v2 p1 p2)
      ∙ ap (λ (x : PersonValue). with_name x v2) same
      ∙ sym z2,
)
person_single reading m u z w n p c d (name v1 n1 p1 c1 z1) (scores v2 n2 p2 c2 z2) =
    absurd (omega (arith, n1, n2))
person_single reading m u z w n p c d (name v1 n1 p1 c1 z1) (unknown one2 two2 three2 c2 z2) =
    absurd (two2 n1)
person_single reading m u z w n p c d (scores v1 n1 p1 c1 z1) (id v2 n2 p2 c2 z2) =
    absurd (omega (arith, n1, n2))
person_single reading m u z w n p c d (scores v1 n1 p1 c1 z1) (name v2 n2 p2 c2 z2) =
    absurd (omega (arith, n1, n2))
person_single reading m u z w n p c d (scores v1 n1 p1 c1 z1) (scores v2 n2 p2 c2 z2) = (
  c1 ∙ sym c2,
  λ same.
      z1
      ∙ ap (with_scores m) (one_append reading p m.scores v1 v2 p1 (rw same p2))
      ∙ ap (λ (x : PersonValue). with_scores x v2) same
      ∙ sym z2,
)
person_single reading m u z w n p c d (scores v1 n1 p1 c1 z1) (unknown one2 two2 three2 c2 z2) =
    absurd (three2 n1)
person_single reading m u z w n p c d (unknown one1 two1 three1 c1 z1) (id v2 n2 p2 c2 z2) =
    absurd (one1 n2)
person_single reading m u z w n p c d (unknown one1 two1 three1 c1 z1) (name v2 n2 p2 c2 z2) =
    absurd (two1 n2)
person_single reading m u z w n p c d (unknown one1 two1 three1 c1 z1) (scores v2 n2 p2 c2 z2) =
    absurd (three1 n2)
person_single reading m u z w n p c d (unknown one1 two1 three1 c1 z1)
    (unknown one2 two2 three2 c2 z2) = (
      c1 ∙ sym c2,
      λ same.
          z1
          ∙ ap (λ (x : PersonValue). with_others x (push x.unknown n p)) same
          ∙ sym z2,
    )

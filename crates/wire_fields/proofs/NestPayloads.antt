-- A payload between its length and its end.
use Rattle.std.proofs.Common.{◌≡◌, ℕ, ◌<◌, ◌≤◌, List, length, sym, ap, ◌∙◌, subst, arith}
use Rattle.wire_codec.specs.Delimited.{IsDelimited}
use Rattle.wire_codec.specs.Ending.{by_limit}
use Rattle.wire_codec.specs.Folds.{Step}
use Rattle.wire_codec.specs.Limits.{Limits, Charge, left_after, outer}
use Rattle.wire_codec.specs.LimitsLaws.{LevelsAddUp}
use Rattle.wire_codec.specs.Nested.{TakesEmbedded}
use Rattle.wire_codec.specs.Read.{Reads}
use Rattle.wire_codec.specs.RecordLaws.{OneList}
use Rattle.wire_codec.specs.Taking.{TakesList, TakesAll, IsCharged, NotTaken}
use Rattle.wire_codec.specs.TakingLaws.{DelimitedIsRead}
use Rattle.wire_codec.proofs.DelimitedLists.{limit_is_whole, whole_in_limit}
use Rattle.wire_fields.specs.NestPayload.{Enters, TakesWithin}

module _ {V : Type 0} (takes : Step V) (d : DelimitedIsRead) (l k : Limits) (from : V)
    (old now : List ℕ) (rest : ℕ) (h : Enters l k old now rest) where
  -- what is taken up to the end of the payload is the embedded message
  pub embedded_of : (new : List ℕ) (c : Charge) (z : V) → TakesWithin takes k rest from now c z new
      → TakesEmbedded takes l from old c z new
  embedded_of new c z taken =
      let long : length h.behind ≤ length new = omega (arith, h.rest_is, taken.within) in
      let whole = limit_is_whole d takes k from z now h.payload h.behind new c rest h.parts
      h.rest_is long taken.list in
      record {
        level = h.level;
        taken = record {
          payload = h.payload;
          read = subst (Reads old (IsDelimited h.payload)) (sym whole.0) h.read;
          short = h.short;
          taken = subst (λ x. TakesAll takes x from h.payload c z) h.inside whole.1;
        };
      }

  -- and the other way round
  pub within_of : (new : List ℕ) (c : Charge) (z : V) → TakesEmbedded takes l from old c z new
      → TakesWithin takes k rest from now c z new
  within_of new c z taken =
      let t = taken.taken in
      let same = d.delimited h.payload t.payload old h.behind new h.read t.read in
      let all : TakesAll takes k from h.payload c z =
      subst (λ p. TakesAll takes k from p c z) (sym same.0)
      (subst (λ x. TakesAll takes x from t.payload c z) (sym h.inside) t.taken) in
      let listed = whole_in_limit d takes k from z h.payload h.behind c rest h.rest_is all in
      record {
        list = subst (λ r. TakesList takes k (by_limit rest) from now c z r) same.1
            (subst (λ t. TakesList takes k (by_limit rest) from t c z h.behind) (sym h.parts)
            listed);
        within = omega (arith, h.rest_is, ap length same.1);
      }

  pub not_within : NotTaken (TakesWithin takes k rest from now)
      → NotTaken (TakesEmbedded takes l from old)
  not_within none c z new taken = none c z new (within_of new c z taken)

  pub charged_within : LevelsAddUp → (j : Limits) (z : V) (new : List ℕ)
      → (c : Charge) × TakesWithin takes k rest from now c z new × (j ≡ outer (left_after k c))
      → IsCharged l j (λ c. TakesEmbedded takes l from old c z new)
  charged_within levels j z new (c, taken, left) = record {
    charge = c;
    taken = embedded_of new c z taken;
    left = left ∙ ap (λ (x : Limits). outer (left_after x c)) h.inside
        ∙ levels.left_after_nested l c h.level;
  }

-- a record ran past the payload
pub ran_past : {V : Type 0} (takes : Step V) → OneList → (l : Limits) (from : V)
    (now after : List ℕ) (rest : ℕ) (e : Charge) (v : V) → length after < rest
    → TakesList takes l (by_limit rest) from now e v after
    → NotTaken (TakesWithin takes l rest from now)
ran_past takes one l from now after rest e v past taken c z new h =
    omega (
      arith,
      past,
      h.within,
      ap length (one (by_limit rest) taken.fields h.list.fields e c l l now after new taken.read
          h.list.read).1,
    )

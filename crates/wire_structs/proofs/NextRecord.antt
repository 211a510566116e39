-- The next record, as a list that ends behind it: one of all bytes but the last.
use Rattle.std.proofs.Common.{◌≡◌, ℕ, suc, List, length, refl, sym, ap, ◌∙◌, subst, arith}
use Rattle.wire_base.proofs.FieldLaws.{rest_below}
use Rattle.wire_base.proofs.ReadLaws.{Reads-shorter}
use Rattle.wire_base.specs.Ending.{by_limit}
use Rattle.wire_base.specs.Field.{Fields, none, field, type_of}
use Rattle.wire_base.specs.Limits.{Limits, Charge, both, left_after, no_charge}
use Rattle.wire_base.specs.Spells.{IsPayload}
use Rattle.wire_base.specs.Taken.{TakesUntil}
use Rattle.wire_codec.proofs.Lists.{with_front}
use Rattle.wire_codec.specs.Folds.{Step, Folds}
use Rattle.wire_codec.specs.Taking.{NotTaken, TakesList}
use Rattle.wire_codec.specs.TakingLaws.{RecordsInOrder}
use Rattle.wire_structs.proofs.FirstRefused.{next_shorter}
use Rattle.wire_structs.specs.Refused.{TakesNext}

module _ (order : RecordsInOrder) {V : Type 0} (takes : Step V) where
  pub list_of_next : (l : Limits) (m z : V) (old new : List ℕ) (c : Charge) (most : ℕ)
      → length old ≡ suc most → TakesNext takes l m old c z new
      → TakesList takes l (by_limit most) m old c z new
  list_of_next l m z old new c most all h =
      let shorter = next_shorter takes l m z old new c h in
      subst (λ x. TakesList takes l (by_limit most) m old x z new) (order.charges.nothing_last c)
      (with_front order takes l (by_limit most) h.number h.wire_type m z z old h.behind new new
      no_charge c (omega (arith, all)) h.tag h.taken (record {
        fields = none;
        read = order.front.ended (left_after l c) (by_limit most) new new
            (omega (arith, all, shorter), refl);
        folded = (refl, refl);
      }))

  pub next_of_list : (l : Limits) (m z : V) (old new : List ℕ) (c : Charge) (most : ℕ)
      → length old ≡ suc most → TakesList takes l (by_limit most) m old c z new
      → TakesNext takes l m old c z new
  next_of_list l m z old new c most all h = of h.fields h.read h.folded
    where
      of : (fs : Fields) → TakesUntil c l (by_limit most) fs old new → Folds takes m fs c z
          → TakesNext takes l m old c z new
      of none read folded =
          let ended = order.front.none c l (by_limit most) old new read in
          absurd (omega (arith, all, ended.0))
      of (field n p none) read (mid, first, others, step, (nothing, same), sum) =
          let (behind, next, goes, tag, payload, rest) =
          order.front.first others first l (by_limit most) n p none old new
          (subst (λ x. TakesUntil x l (by_limit most) (field n p none) old new) sum read) in
          let ended = order.front.none others (left_after l first) (by_limit most) next new rest in
          let charged = sum ∙ ap (both first) nothing ∙ order.charges.nothing_last first in
          subst (λ x. TakesNext takes l m old x z new) (sym charged)
          (subst (λ x. TakesNext takes l m old first x new) (sym same)
          (subst (λ x. TakesNext takes l m old first mid x) (sym ended.1) (record {
            number = n;
            wire_type = type_of p;
            behind = behind;
            tag = tag;
            taken = record { payload = p; read = payload; step = step };
          })))
      of (field n p (field k q fs)) read (mid, first, others, step, folded, sum) =
          let (behind, next, goes, tag, payload, rest) =
          order.front.first others first l (by_limit most) n p (field k q fs) old new
          (subst (λ x. TakesUntil x l (by_limit most) (field n p (field k q fs)) old new) sum
          read) in
          let (other, after, second_charge, second_step, second_folded, second_sum) = folded in
          let (b, r, on, t, pay, more) =
          order.front.first second_charge after (left_after l first) (by_limit most) k q fs next new
          (subst (λ x. TakesUntil x (left_after l first) (by_limit most) (field k q fs) next new)
          second_sum rest) in
          let one = rest_below n (type_of p) old behind tag in
          let two = Reads-shorter (IsPayload n (type_of p) p) behind next payload.read in
          absurd (omega (arith, all, one, two, on))

  -- where no list of all bytes but the last is taken, no next record is
  pub no_next : (l : Limits) (m : V) (old : List ℕ) (most : ℕ) → length old ≡ suc most
      → NotTaken (TakesList takes l (by_limit most) m old) → NotTaken (TakesNext takes l m old)
  no_next l m old most all untaken = λ c z new h.
      untaken c z new (list_of_next l m z old new c most all h)

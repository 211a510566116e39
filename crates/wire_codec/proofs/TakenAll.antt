-- Whole inputs that a message type takes.
use Rattle.std.proofs.Common.{◌≡◌, ◌++◌, refl, sym, ap, ◌∙◌, subst}
use Rattle.wire_base.specs.Field.{Fields, none, field, joined}
use Rattle.wire_base.specs.Limits.{Charge, both, no_charge}
use Rattle.wire_base.specs.LimitsLaws.{ChargesAddUp}
use Rattle.wire_base.specs.RecordLaws.{OneList, WholeInput, JoinedTextsSpell, ShortestTextSpells}
use Rattle.wire_codec.specs.Folds.{Step, IsSingle, Folds}
use Rattle.wire_codec.specs.Records.{Records, plain, text}
use Rattle.wire_codec.specs.TakingLaws.{AllIsSpelled, TakenInOneWay, JoinedInputsAreTaken}
use Rattle.wire_codec.specs.TakingLaws.{OneRecordMore, TextDecodes}

module _ {V : Type 0} (takes : Step V) where
  pub all_is_spelled_lemma : WholeInput → AllIsSpelled takes
  all_is_spelled_lemma whole l m z bytes c = (
    λ h. let all = (whole c l h.fields bytes _).0 h.read in (h.fields, all.0, h.folded, all.1),
    λ h. record {
      fields = h.0;
      read = (whole c l h.0 bytes _).1 (h.1, h.3, refl);
      folded = h.2;
    },
  )

  -- one fold of the same records
  folds_once : IsSingle takes → (fs : Fields) (m y z : V) (c d : Charge)
      → Folds takes m fs c y → Folds takes m fs d z → (c ≡ d) × (y ≡ z)
  folds_once single none m y z c d h k = (h.0 ∙ sym k.0, h.1 ∙ sym k.1)
  folds_once single (field n p fs) m y z c d
      (mid, first, rest, step, folded, sum) (other, again, behind, step_again, others, total) =
      let one = single m m mid other n p first again step step_again in
      let here = subst (λ v. Folds takes v fs behind z) (sym (one.1 refl)) others in
      let more = folds_once single fs mid y z rest behind folded here in (
        sum ∙ ap (λ (x : Charge). both x rest) one.0 ∙ ap (λ (x : Charge). both again x) more.0
            ∙ sym total,
        more.1,
      )

  pub taken_in_one_way_lemma : OneList → IsSingle takes → TakenInOneWay takes
  taken_in_one_way_lemma one single l k ending m y z old r s c d h j =
      let same = one ending h.fields j.fields c d l k old r s h.read j.read in
      let folded = subst (λ fs. Folds takes m fs d z) (sym same.0) j.folded in
      let once = folds_once single h.fields m y z c d h.folded folded in
      (once.0, once.1, same.1)

  module _ (all : AllIsSpelled takes) (spell : JoinedTextsSpell) (charges : ChargesAddUp) where
    folds_joined : (fs gs : Fields) (m mid z : V) (c d : Charge) → Folds takes m fs c mid
        → Folds takes mid gs d z → Folds takes m (joined fs gs) (both c d) z
    folds_joined none gs m mid z c d h k =
        let charge = ap (λ (x : Charge). both x d) h.0 ∙ charges.nothing_first d in
        subst (λ x. Folds takes m gs x z) (sym charge) (subst (λ v. Folds takes v gs d z) h.1 k)
    folds_joined (field n p fs) gs m mid z c d (one, first, rest, step, folded, sum) k = (
      one,
      first,
      both rest d,
      step,
      folds_joined fs gs one mid z rest d folded k,
      ap (λ (x : Charge). both x d) sum ∙ charges.assoc first rest d,
    )

    pub joined_inputs_are_taken_lemma : JoinedInputsAreTaken takes
    joined_inputs_are_taken_lemma l k j m mid z first second c d h i fits =
        let (fs, spelled, folded, fits_first) = (all k m mid first c).0 h in
        let (gs, others, folded_others, fits_second) = (all j mid z second d).0 i in
        (all l m z (first ++ second) (both c d)).1 (
          joined fs gs,
          spell fs gs first second spelled others,
          folds_joined fs gs m mid z c d folded folded_others,
          fits,
        )

    pub one_record_more_lemma : OneRecordMore takes
    one_record_more_lemma l k m mid z n p old record_text c d h one step fits =
        let (fs, spelled, folded, fits_first) = (all k m mid old c).0 h in
        let last : Folds takes mid (field n p none) d z
        = (z, d, no_charge, step, (refl, refl), sym (charges.nothing_last d)) in
        (all l m z (old ++ record_text) (both c d)).1 (
          joined fs (field n p none),
          spell fs (field n p none) old record_text spelled one,
          folds_joined fs (field n p none) m mid z c d folded last,
          fits,
        )

  pub text_decodes_lemma : AllIsSpelled takes → ShortestTextSpells → (records : V → Records)
      (default : V) → TextDecodes takes records default
  text_decodes_lemma all spells records default l m c fitting numbered folded fits =
      (all l default m (text (records m)) c).1
      (plain (records m), spells (plain (records m)) fitting numbered, folded, fits)

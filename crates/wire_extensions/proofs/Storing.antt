-- The text of a value as unknown fields.
use Rattle.std.proofs.Common.{◌≡◌, ◌≢◌, ℕ, List, [], refl, sym, ap, ◌∙◌, subst, inl, inr}
use Rattle.wire_codec.specs.DecodeError.{DecodeError}
use Rattle.wire_codec.specs.DecodeError.TheVariants.{OutOfMemory}
use Rattle.wire_codec.specs.Charge.{charge}
use Rattle.wire_codec.specs.Ending.{by_input}
use Rattle.wire_codec.specs.FaultLaws.{NoListBesideFault}
use Rattle.wire_codec.specs.Field.{Fields, none, field}
use Rattle.wire_codec.specs.Folds.{Step, Folds, IsSingle}
use Rattle.wire_codec.specs.InRange.{AreNumbered}
use Rattle.wire_codec.specs.Limits.{Limits, Charge}
use Rattle.wire_codec.specs.RecordLaws.{OneSpelled, ShortestTextSpells, WholeInput}
use Rattle.wire_codec.specs.Records.{Records, plain, text}
use Rattle.wire_codec.specs.Refusal.{ListRefusal}
use Rattle.wire_codec.specs.Spells.{Spells}
use Rattle.wire_fields.specs.Shape.{FieldKind}
use Rattle.wire_extensions.proofs.Records.{own_replaced}
use Rattle.wire_extensions.specs.Extension.{picked, replaced, NotStored}
use Rattle.wire_extensions.specs.Laws.{GetOfSet, StoredArePlain}

-- what is refused is not there
pub not_stored : WholeInput → NoListBesideFault → (rs : Records) (l : Limits) (bytes : List ℕ)
    (e : DecodeError) → bytes ≡ text rs → ListRefusal l by_input bytes e → e ≢ OutOfMemory
    → NotStored rs l
not_stored whole beside rs l bytes e is (inl fault) other fs h =
    beside l by_input bytes [] e fs fault ((whole (charge fs) l fs bytes []).1
    (subst (λ x. Spells fs x) (sym is) h.spelled, h.fits, refl))
not_stored whole beside rs l bytes e is (inr memory) other fs h = absurd (other memory.0)

-- ---- what is read back

folds_once : {V : Type 0} (takes : Step V) → IsSingle takes → (fs : Fields) (m y z : V)
    (c d : Charge) → Folds takes m fs c y → Folds takes m fs d z → z ≡ y
folds_once takes single none m y z c d h k = k.1 ∙ sym h.1
folds_once takes single (field n p fs) m y z c d
    (mid, first, rest, step, folded, sum) (other, again, behind, step_again, others, total) =
    let one = single m m mid other n p first again step step_again in
    folds_once takes single fs mid y z rest behind folded
    (subst (λ v. Folds takes v fs behind z) (sym (one.1 refl)) others)

pub stored_are_plain_lemma : OneSpelled → ShortestTextSpells → StoredArePlain
stored_are_plain_lemma one spells rs l stored fitting numbered h =
    one stored (plain rs) (text rs) h.spelled (spells (plain rs) fitting numbered)

pub get_of_set_lemma : StoredArePlain → {V : Type 0} (k : FieldKind V) → GetOfSet k
get_of_set_lemma are_plain k n owns l fs stored v c back own h =
    let rs = plain (k.records n v) in
    let same = are_plain (k.records n v) l stored back.fitting back.numbered h in
    let is = ap (λ x. picked owns (replaced owns fs x)) same ∙ own_replaced owns fs rs own in
    record {
      numbered = subst AreNumbered (sym is) back.numbered;
      folded = subst (λ x. Folds k.takes k.default x c v) (sym is) back.folded;
      only = λ single d u folded. folds_once k.takes single rs k.default v u c d back.folded
          (subst (λ x. Folds k.takes k.default x d u) is folded);
    }

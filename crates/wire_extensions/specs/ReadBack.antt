-- What was put is what is read. The proof of a caller that sets an extension and gets it cites
-- these, with the laws of src/laws.rt.
use Rattle.std.proofs.Common.{◌≡◌, ℕ, sym, subst}
use Rattle.std.specs.Prelude.{None}
use Rattle.wire_codec.specs.Field.{Fields}
use Rattle.wire_codec.specs.FieldNumber.{IsFieldNumber}
use Rattle.wire_codec.specs.Folds.{IsSingle}
use Rattle.wire_codec.specs.InRange.{AreNumbered}
use Rattle.wire_codec.specs.Limits.{Limits, Charge, Fits}
use Rattle.wire_codec.specs.Records.{plain}
use Rattle.wire_codec.specs.Taking.{IsCharged}
use Rattle.wire_fields.specs.Back.{KindBack}
use Rattle.wire_fields.specs.Shape.{FieldKind}
use Rattle.wire_extensions.specs.Extension.{is_own, picked, others, replaced, IsValue, NoValue, Stores}
use Rattle.wire_extensions.specs.Laws.{AllOwned, GetOfSet, OneLeavesOthers, StoredArePlain}

-- the records of v, which are of number n, were put among others
module _ {V : Type 0} (k : FieldKind V) (Holds : V → Type 0) (charge_of : V → Charge)
    (back : KindBack k Holds charge_of) (law : OneLeavesOthers) (n : ℕ) (number : IsFieldNumber n)
    (v : V) (holds : Holds v) (fs more : Fields) (l : Limits)
    (stored : Stores (k.records n v) l more)
  where
    own : AllOwned (is_own n None) (plain (k.records n v))
    own = law.all n (plain (k.records n v)) (back.has n v holds)

    pub value_read : GetOfSet k → IsSingle k.takes → (before after : Limits) (read : V)
        → (AreNumbered (picked (is_own n None) (replaced (is_own n None) fs more))
        → IsCharged before after (λ c. IsValue k (is_own n None)
        (replaced (is_own n None) fs more) before c read)) → read ≡ v
    value_read get_of_set single before after read got =
        let h = get_of_set n (is_own n None) l fs more v (charge_of v)
        (back.back n number v holds) own stored in
        let taken = got h.numbered in
        h.only single taken.charge read taken.taken.folded

    pub value_there : GetOfSet k → IsSingle k.takes → (before : Limits) → Fits (charge_of v) before
        → (AreNumbered (picked (is_own n None) (replaced (is_own n None) fs more))
        → IsSingle k.takes → NoValue k (is_own n None) (replaced (is_own n None) fs more) before)
        → ⊥
    value_there get_of_set single before fits none =
        let h = get_of_set n (is_own n None) l fs more v (charge_of v)
        (back.back n number v holds) own stored in
        none h.numbered single (charge_of v) v (record { folded = h.folded; fits = fits })

    pub others_left : StoredArePlain → others (is_own n None) (replaced (is_own n None) fs more)
        ≡ others (is_own n None) fs
    others_left are_plain =
        let h = back.back n number v holds in
        law.rest (is_own n None) fs more (subst (AllOwned (is_own n None))
        (sym (are_plain (k.records n v) l more h.fitting h.numbered stored)) own)

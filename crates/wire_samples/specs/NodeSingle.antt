-- What a `Node` makes of a record, by the record's number, and that it is single.
use Rattle.std.proofs.Common.{◌≡◌, ℕ, List, refl, sym, ap, ◌∙◌, subst, arith}
use Rattle.std.specs.Prelude.{ℤ}
use Rattle.wire_codec.specs.Charge.{payload_charge}
use Rattle.wire_codec.specs.Field.{Payload, bytes, group, Fields, field, push}
use Rattle.wire_codec.specs.Folds.{IsSingle}
use Rattle.wire_codec.specs.Limits.{Charge, no_charge, both, nested}
use Rattle.wire_codec.specs.Spells.{Spells}
use Rattle.wire_codec.specs.TakingLaws.{OneReading}
use Rattle.wire_codec.specs.ValueMap.{sint64}
use Rattle.wire_samples.specs.FieldSteps.{SetsSint64}
use Rattle.wire_samples.specs.FieldStepsLaws.{one_integer}
use Rattle.wire_samples.specs.Node.{NodeValue, default_node, or_default, child_of, own_group}
use Rattle.wire_samples.specs.Node.{unknown_of, with_value, with_child, with_another, with_group}
use Rattle.wire_samples.specs.Node.{keeping, IsNodeOther}
use Rattle.wire_samples.specs.NodeSteps.{NodeTakes, value, child, another, grouped, unknown}
use Rattle.wire_samples.specs.NodeSteps.{another_charge}
use Rattle.wire_samples.specs.NodeSteps.{NodeMerges, merged, NodeFolds, no_more, one_more}

-- ---- by the number

pub record TakesNumber (m : NodeValue) (p : Payload) (c : Charge) (z : NodeValue) : Type 0 where
  pub v : ℤ
  pub made : SetsSint64 p v
  pub charged : c ≡ no_charge
  pub is : z ≡ with_value m v

-- the payload of an embedded message, which `from` takes
pub record TakesNode (from : NodeValue) (charge_of : Charge → Charge)
    (made_of : NodeValue → NodeValue) (p : Payload) (c : Charge) (z : NodeValue) : Type 0 where
  pub b : List ℕ
  pub inside : Charge
  pub after : NodeValue
  pub payload : p ≡ bytes b
  pub merged : NodeMerges from b inside after
  pub charged : c ≡ charge_of inside
  pub is : z ≡ made_of after

pub record TakesGrouped (m : NodeValue) (p : Payload) (c : Charge) (z : NodeValue) : Type 0 where
  pub fs : Fields
  pub inside : Charge
  pub after : NodeValue
  pub payload : p ≡ group fs
  pub folded : NodeFolds (or_default (own_group m)) fs inside after
  pub charged : c ≡ nested inside
  pub is : z ≡ with_group m after

abbrev pub TakesChild : NodeValue → Payload → Charge → NodeValue → Type 0
TakesChild m = TakesNode (or_default (child_of m)) nested (with_child m)

abbrev pub TakesAnother : NodeValue → Payload → Charge → NodeValue → Type 0
TakesAnother m = TakesNode default_node another_charge (with_another m)

pub at_value : {m z : NodeValue} {n : ℕ} {p : Payload} {c : Charge} → n ≡ 1
    → NodeTakes m n p c z → TakesNumber m p c z
at_value is (value v n_is made charged z_is) =
    record { v = v; made = made; charged = charged; is = z_is }
at_value is (child b inside after n_is p_is k charged z_is) = absurd (omega (arith, is, n_is))
at_value is (another b inside after n_is p_is k charged z_is) = absurd (omega (arith, is, n_is))
at_value is (grouped fs inside after n_is p_is k charged z_is) = absurd (omega (arith, is, n_is))
at_value is (unknown other charged z_is) = absurd (other.value is)

pub at_child : {m z : NodeValue} {n : ℕ} {p : Payload} {c : Charge} → n ≡ 2
    → NodeTakes m n p c z → TakesChild m p c z
at_child is (value v n_is made charged z_is) = absurd (omega (arith, is, n_is))
at_child is (child b inside after n_is p_is k charged z_is) = record {
  b = b;
  inside = inside;
  after = after;
  payload = p_is;
  merged = k;
  charged = charged;
  is = z_is;
}
at_child is (another b inside after n_is p_is k charged z_is) = absurd (omega (arith, is, n_is))
at_child is (grouped fs inside after n_is p_is k charged z_is) = absurd (omega (arith, is, n_is))
at_child is (unknown other charged z_is) = absurd (other.child is)

pub at_another : {m z : NodeValue} {n : ℕ} {p : Payload} {c : Charge} → n ≡ 3
    → NodeTakes m n p c z → TakesAnother m p c z
at_another is (value v n_is made charged z_is) = absurd (omega (arith, is, n_is))
at_another is (child b inside after n_is p_is k charged z_is) = absurd (omega (arith, is, n_is))
at_another is (another b inside after n_is p_is k charged z_is) = record {
  b = b;
  inside = inside;
  after = after;
  payload = p_is;
  merged = k;
  charged = charged;
  is = z_is;
}
at_another is (grouped fs inside after n_is p_is k charged z_is) = absurd (omega (arith, is, n_is))
at_another is (unknown other charged z_is) = absurd (other.children is)

pub at_group : {m z : NodeValue} {n : ℕ} {p : Payload} {c : Charge} → n ≡ 4
    → NodeTakes m n p c z → TakesGrouped m p c z
at_group is (value v n_is made charged z_is) = absurd (omega (arith, is, n_is))
at_group is (child b inside after n_is p_is k charged z_is) = absurd (omega (arith, is, n_is))
at_group is (another b inside after n_is p_is k charged z_is) = absurd (omega (arith, is, n_is))
at_group is (grouped fs inside after n_is p_is k charged z_is) = record {
  fs = fs;
  inside = inside;
  after = after;
  payload = p_is;
  folded = k;
  charged = charged;
  is = z_is;
}
at_group is (unknown other charged z_is) = absurd (other.group is)

pub at_other : {m z : NodeValue} {n : ℕ} {p : Payload} {c : Charge} → IsNodeOther n
    → NodeTakes m n p c z → (c ≡ payload_charge p) × (z ≡ keeping m (push (unknown_of m) n p))
at_other is (value v n_is made charged z_is) = absurd (is.value n_is)
at_other is (child b inside after n_is p_is k charged z_is) = absurd (is.child n_is)
at_other is (another b inside after n_is p_is k charged z_is) = absurd (is.children n_is)
at_other is (grouped fs inside after n_is p_is k charged z_is) = absurd (is.group n_is)
at_other is (unknown other charged z_is) = (charged, z_is)

-- ---- single

-- one charge, and one outcome of one value
abbrev pub Agree : (c d : Charge) (m other z w : NodeValue) → Type 0
Agree c d m other z w = (c ≡ d) × (m ≡ other → z ≡ w)

one_bytes : {a b : List ℕ} → bytes a ≡ bytes b → a ≡ b
one_bytes e = cc

one_group : {fs gs : Fields} → group fs ≡ group gs → fs ≡ gs
one_group e = cc

same_head : {n k : ℕ} {p q : Payload} {fs gs : Fields} → field n p fs ≡ field k q gs
    → (n ≡ k) × (p ≡ q) × (fs ≡ gs)
same_head e = (cc, cc, cc)

as_taken : {m z : NodeValue} {n k : ℕ} {p q : Payload} {c : Charge} → k ≡ n → q ≡ p
    → NodeTakes m k q c z → NodeTakes m n p c z
as_taken same_n same_p h = rw (sym same_n, sym same_p) h

same_kept : {z w : NodeValue} (m other : NodeValue) (n : ℕ) (p : Payload) → m ≡ other
    → z ≡ keeping m (push (unknown_of m) n p)
    → w ≡ keeping other (push (unknown_of other) n p) → z ≡ w
same_kept m other n p e z_is w_is =
    z_is ∙ ap (λ (x : NodeValue). keeping x (push (unknown_of x) n p)) e ∙ sym w_is

-- what the nodes inside agree on, those that hold them agree on
outside : {from other_from after other z w : NodeValue} {inside other_inside c d : Charge}
    (charge_of : Charge → Charge) (made_of : NodeValue → NodeValue → NodeValue)
    (m other_after : NodeValue)
    → Agree inside other_inside from other_from after other_after
    → (m ≡ other → from ≡ other_from)
    → c ≡ charge_of inside → d ≡ charge_of other_inside
    → z ≡ made_of m after → w ≡ made_of other other_after → Agree c d m other z w
outside charge_of made_of m other_after agree same charged other_charged is other_is = (
  charged ∙ ap charge_of agree.0 ∙ sym other_charged,
  λ e.
      is ∙ ap (made_of m) (agree.1 (same e))
      ∙ ap (λ (x : NodeValue). made_of x other_after) e
      ∙ sym other_is,
)

module _ (reading : OneReading) where
  mutual
    pub takes_agree : {m other z w : NodeValue} {n : ℕ} {p : Payload} {c d : Charge}
        → NodeTakes m n p c z → NodeTakes other n p d w → Agree c d m other z w
    takes_agree (value v n_is made charged z_is) k =
        let h = at_value n_is k in (
          charged ∙ sym h.charged,
          λ e.
              z_is ∙ ap (with_value _) (one_integer sint64 _ v h.v made h.made)
              ∙ ap (λ (x : NodeValue). with_value x h.v) e ∙ sym h.is,
        )
    takes_agree (child b inside after n_is p_is k charged z_is) j =
        let h = at_child n_is j in
        outside nested with_child _ h.after
        (merges_agree k h.merged (one_bytes (sym p_is ∙ h.payload)))
        (λ e. ap (λ (x : NodeValue). or_default (child_of x)) e) charged h.charged z_is h.is
    takes_agree (another b inside after n_is p_is k charged z_is) j =
        let h = at_another n_is j in
        outside another_charge with_another _ h.after
        (merges_agree k h.merged (one_bytes (sym p_is ∙ h.payload))) (λ e. refl) charged h.charged
        z_is h.is
    takes_agree (grouped fs inside after n_is p_is k charged z_is) j =
        let h = at_group n_is j in
        outside nested with_group _ h.after
        (folds_agree k h.folded (one_group (sym p_is ∙ h.payload)))
        (λ e. ap (λ (x : NodeValue). or_default (own_group x)) e) charged h.charged z_is h.is
    takes_agree (unknown other charged z_is) j =
        let h = at_other other j in (charged ∙ sym h.0, λ e. same_kept _ _ _ _ e z_is h.1)

    merges_agree : {m other z w : NodeValue} {a b : List ℕ} {c d : Charge}
        → NodeMerges m a c z → NodeMerges other b d w → a ≡ b → Agree c d m other z w
    merges_agree (merged fs short spelled k) (merged gs others_short other_spelled j) same =
        folds_agree k j
        (reading.records fs gs _ spelled (subst (Spells gs) (sym same) other_spelled))

    folds_agree : {m other z w : NodeValue} {fs gs : Fields} {c d : Charge}
        → NodeFolds m fs c z → NodeFolds other gs d w → fs ≡ gs → Agree c d m other z w
    folds_agree (no_more none_is charged is) (no_more other_none other_charged other_is) same =
        (charged ∙ sym other_charged, λ e. is ∙ e ∙ sym other_is)
    folds_agree (no_more none_is charged is)
        (one_more n p others mid first rest some step more sum) same =
        absurd (cc)
    folds_agree (one_more n p others mid first rest some step more sum)
        (no_more none_is charged is) same =
        absurd (cc)
    folds_agree (one_more n p others mid first rest some step more sum)
        (one_more k q gs other_mid other_first other_rest other_some other_step other_more
        other_sum) same =
        let head = same_head (sym some ∙ same ∙ other_some) in
        let here = takes_agree step (as_taken (sym head.0) (sym head.1) other_step) in
        let there = folds_agree more other_more head.2 in (
          sum ∙ ap (λ (x : Charge). both x rest) here.0
              ∙ ap (λ (x : Charge). both other_first x) there.0 ∙ sym other_sum,
          λ e. there.1 (here.1 e),
        )

pub node_single : OneReading → IsSingle NodeTakes
node_single reading m other z w n p c d h k = takes_agree reading h k

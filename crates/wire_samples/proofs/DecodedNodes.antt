-- What a `Node` becomes by records that are in range is in range.
use Rattle.std.proofs.Common.{ℕ, List, subst, arith}
use Rattle.std.specs.Prelude.{ℤ, FitsSigned}
use Rattle.std.specs.Int.{w64}
use Rattle.wire_codec.specs.Field.{Payload, varint, fixed64, fixed32, bytes, group, Fields}
use Rattle.wire_codec.specs.InRange.{IsPayloadFitting}
use Rattle.wire_codec.specs.Laws.{SpelledAreFitting}
use Rattle.wire_codec.specs.Limits.{Charge}
use Rattle.wire_codec.specs.RecordLaws.{SpelledAreNumbered}
use Rattle.wire_codec.proofs.Fitting.{AreBytes}
use Rattle.wire_fields.specs.Sound.{HasBytes, IsSound, AreSound, first_is_sound, others_are_sound}
use Rattle.wire_fields.specs.Sound.{body_is_sound, spelled_are_sound}
use Rattle.wire_fields.specs.StaysKinds.{sint64_fits}
use Rattle.wire_samples.specs.FieldSteps.{SetsSint64}
use Rattle.wire_samples.specs.Kept.{AreUnknown}
use Rattle.wire_samples.specs.Node.{NodeValue, MaybeNode, NodeList, node, absent, present, empty, ahead}
use Rattle.wire_samples.specs.Node.{IsNode, IsMaybeNode, AreNodes, IsNodeOther, appended, or_default}
use Rattle.wire_samples.specs.Node.{child_of, own_group, unknown_of, default_node, with_value, with_child}
use Rattle.wire_samples.specs.Node.{with_another, with_group, keeping}
use Rattle.wire_samples.specs.NodeSteps.{NodeTakes, value, child, another, grouped, unknown}
use Rattle.wire_samples.specs.NodeSteps.{NodeMerges, merged, NodeFolds, no_more, one_more}
use Rattle.wire_samples.proofs.Kept.{kept_more, none_kept}

-- ---- nodes with another field

pub default_in_range : IsNode default_node
default_in_range = (omega arith, tt, tt, tt, none_kept IsNodeOther)

or_default_in_range : (m : MaybeNode) → IsMaybeNode m → IsNode (or_default m)
or_default_in_range absent h = default_in_range
or_default_in_range (present m) h = h

child_in_range : (m : NodeValue) → IsNode m → IsNode (or_default (child_of m))
child_in_range (node v one many body kept) h = or_default_in_range one h.1

group_in_range : (m : NodeValue) → IsNode m → IsNode (or_default (own_group m))
group_in_range (node v one many body kept) h = or_default_in_range body h.3

one_node_more : (ms : NodeList) (m : NodeValue) → AreNodes ms → IsNode m
    → AreNodes (appended ms m)
one_node_more empty m h k = (k, tt)
one_node_more (ahead n ms) m h k = (h.0, one_node_more ms m h.1 k)

value_in_range : (m : NodeValue) (w : ℤ) → IsNode m → FitsSigned w64 w → IsNode (with_value m w)
value_in_range (node v one many body kept) w h k = (k, h.1, h.2, h.3, h.4)

with_child_in_range : (m n : NodeValue) → IsNode m → IsNode n → IsNode (with_child m n)
with_child_in_range (node v one many body kept) n h k = (h.0, k, h.2, h.3, h.4)

another_in_range : (m n : NodeValue) → IsNode m → IsNode n → IsNode (with_another m n)
another_in_range (node v one many body kept) n h k =
    (h.0, h.1, one_node_more many n h.2 k, h.3, h.4)

with_group_in_range : (m n : NodeValue) → IsNode m → IsNode n → IsNode (with_group m n)
with_group_in_range (node v one many body kept) n h k = (h.0, h.1, h.2, k, h.4)

unknown_in_range : (m : NodeValue) (fs : Fields) → IsNode m
    → (AreUnknown IsNodeOther (unknown_of m) → AreUnknown IsNodeOther fs) → IsNode (keeping m fs)
unknown_in_range (node v one many body kept) fs h more = (h.0, h.1, h.2, h.3, more h.4)

-- ---- records

number_fits : (p : Payload) (v : ℤ) → SetsSint64 p v → IsPayloadFitting p → FitsSigned w64 v
number_fits (varint x) v is fits = rw is (sint64_fits x fits)
number_fits (fixed64 x) v is fits = absurd is
number_fits (fixed32 x) v is fits = absurd is
number_fits (bytes b) v is fits = absurd is
number_fits (group fs) v is fits = absurd is

module _ (fitting : SpelledAreFitting) (numbers : SpelledAreNumbered) where
  mutual
    takes_in_range : {m z : NodeValue} {n : ℕ} {p : Payload} {c : Charge} → NodeTakes m n p c z
        → IsSound n p → IsNode m → IsNode z
    takes_in_range (value v n_is made charged z_is) sound h =
        rw z_is (value_in_range _ v h (number_fits _ v made sound.fits))
    takes_in_range (child b inside after n_is p_is k charged z_is) sound h =
        rw z_is (with_child_in_range _ after h
        (merges_in_range k (subst HasBytes p_is sound.of_bytes) (child_in_range _ h)))
    takes_in_range (another b inside after n_is p_is k charged z_is) sound h =
        rw z_is (another_in_range _ after h
        (merges_in_range k (subst HasBytes p_is sound.of_bytes) default_in_range))
    takes_in_range (grouped fs inside after n_is p_is k charged z_is) sound h =
        rw z_is (with_group_in_range _ after h
        (folds_in_range k (body_is_sound _ fs (subst (IsSound _) p_is sound)) (group_in_range _ h)))
    takes_in_range (unknown other charged z_is) sound h =
        rw z_is (unknown_in_range _ _ h (λ kept. kept_more IsNodeOther _ _ _ kept other
        sound.number sound.fits sound.numbered))

    merges_in_range : {m z : NodeValue} {b : List ℕ} {c : Charge} → NodeMerges m b c z
        → AreBytes b → IsNode m → IsNode z
    merges_in_range (merged fs short spelled k) all h =
        folds_in_range k (spelled_are_sound fitting numbers fs _ all spelled) h

    pub folds_in_range : {m z : NodeValue} {fs : Fields} {c : Charge} → NodeFolds m fs c z
        → AreSound fs → IsNode m → IsNode z
    folds_in_range (no_more fs_is charged is) sound h = rw is h
    folds_in_range (one_more n p others mid first rest fs_is step more sum) sound h =
        let all = subst AreSound fs_is sound in
        folds_in_range more (others_are_sound n p all)
        (takes_in_range step (first_is_sound others all) h)

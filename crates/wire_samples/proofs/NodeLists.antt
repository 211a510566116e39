-- What a `Node` takes one record after another, as any message type does.
use Rattle.std.proofs.Common.{◌≡◌, refl}
use Rattle.wire_codec.specs.Field.{Fields, none, field}
use Rattle.wire_codec.specs.Folds.{Folds}
use Rattle.wire_codec.specs.Limits.{Charge}
use Rattle.wire_samples.specs.Node.{NodeValue}
use Rattle.wire_samples.specs.NodeSteps.{NodeTakes, NodeFolds, no_more, one_more}

as_folds : (m z : NodeValue) (c : Charge) {fs gs : Fields} → fs ≡ gs → Folds NodeTakes m gs c z
    → Folds NodeTakes m fs c z
as_folds m z c same h = rw same h

pub to_folds : {m z : NodeValue} {fs : Fields} {c : Charge} → NodeFolds m fs c z
    → Folds NodeTakes m fs c z
to_folds (no_more is charged value) = as_folds _ _ _ is (charged, value)
to_folds (one_more n p others mid first rest is step more sum) =
    as_folds _ _ _ is (mid, first, rest, step, to_folds more, sum)

pub from_folds : (fs : Fields) {m z : NodeValue} {c : Charge} → Folds NodeTakes m fs c z
    → NodeFolds m fs c z
from_folds none h = no_more refl h.0 h.1
from_folds (field n p others) (mid, first, rest, step, more, sum) =
    one_more n p others mid first rest refl step (from_folds others more) sum

-- Counters one after another, each behind its length.
use Rattle.std.specs.Prelude.{ℕ, List, [], ◌∷◌, ◌++◌}
use Rattle.wire_codec.specs.Limits.{Charge}
use Rattle.wire_codec.specs.Nested.{TakesDelimited}
use Rattle.wire_codec.specs.Options.{default_limits}
use Rattle.wire_callers.specs.declared.counter.Counter.{Counter}
use Rattle.wire_callers.specs.Counter.{CounterTakes}

-- so many counters stand at the front of old, and new is what follows the last; the limits are
-- those of a caller that names none, for each counter anew
pub data ReadsCounters (old : List ℕ) : List Counter → List ℕ → Type 0 where
  none : ReadsCounters old [] old
  more : {counters : List Counter} {mid new : List ℕ} (c : Charge) (m : Counter)
      → ReadsCounters old counters mid
      → TakesDelimited CounterTakes default_limits 2147483647 (record { value = 0 }) mid c m new
      → ReadsCounters old (counters ++ m ∷ []) new

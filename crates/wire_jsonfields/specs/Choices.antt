-- A oneof, as one of its members.
use Rattle.std.proofs.Common.{inl, inr, refl}
use Rattle.std.specs.Prelude.{◌⊎◌, Option, Some, None}
use Rattle.wire_json.specs.Json.{Members, no_member}
use Rattle.wire_jsonfields.specs.declared.choice.Chosen.{Chosen}
use Rattle.wire_jsonfields.specs.declared.choice.Chosen.TheVariants.{This, That}
use Rattle.wire_jsonfields.specs.Oneofs.{EitherSays}

-- the value of what was read
abbrev pub either_value : {T U V W : Type 0} → (T → V) → (U → W) → Chosen T U → V ⊎ W
either_value this that (This held) = inl (this held)
either_value this that (That held) = inr (that held)

-- the value of the one, or else that of the other
abbrev pub either_seen : {V W : Type 0} → Option V → Option W → Option (V ⊎ W)
either_seen (Some v) other = Some (inl v)
either_seen None (Some w) = Some (inr w)
either_seen None None = None

abbrev pub oneof_seen : {O V : Type 0} → (O → Option V) → Option O → Option V
oneof_seen seen None = None
oneof_seen seen (Some oneof) = seen oneof

pub either_unsaid : {V W : Type 0} (P : Members → Option V → Type 0)
    (Q : Members → Option W → Type 0) → P no_member None → Q no_member None
    → EitherSays P Q no_member None
either_unsaid P Q p q = (None, None, p, q, refl)

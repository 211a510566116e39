-- What skipping tells of a payload, by its wire type.
use Rattle.std.proofs.Common.{◌≡◌, ℕ, ◌<◌, ◌≤◌, List, length, drop, Result, Ok, Err}
use Rattle.std.specs.Prelude.{OnOk, OnErr, IfErr}
use Rattle.wire_base.specs.declared.error.DecodeError.{DecodeError}
use Rattle.wire_base.specs.declared.error.DecodeError.TheVariants.{UnexpectedEof}
use Rattle.wire_base.specs.declared.tag.WireType.{WireType}
use Rattle.wire_base.specs.declared.tag.WireType.TheVariants as types
use Rattle.wire_base.specs.Charge.{payload_charge, charge}
use Rattle.wire_base.specs.Ending.{by_tag}
use Rattle.wire_base.specs.Fault.{PayloadFault, ListFault, short_fixed64, short_fixed32, in_group}
use Rattle.wire_base.specs.Field.{Payload, varint, bytes, group, Fields}
use Rattle.wire_base.specs.Limits.{Limits, Fits, one_field, bytes_charge, inner, left_after}
use Rattle.wire_base.specs.Read.{Reads}
use Rattle.wire_base.specs.Taken.{TakesPayload, TakesUntil}
use Rattle.wire_base.specs.Varint.{IsSpelling}
use Rattle.wire_base.proofs.Payloads.{takes_varint, takes_fixed64, takes_fixed32, takes_bytes, takes_group}

-- a payload of the tag stood at the front of old
abbrev pub SkipsPayload : Limits → ℕ → WireType → List ℕ → List ℕ → Type 0
SkipsPayload l n w old new = (p : Payload) × TakesPayload (payload_charge p) l n w p old new

module _ (l : Limits) (n : ℕ) (w : WireType) (slot : Fits one_field l) where
  pub skips_varint : (v : ℕ) (old new : List ℕ) → w ≡ types.Varint → Reads old (IsSpelling v) new
      → SkipsPayload l n w old new
  skips_varint v old new kind h = rw kind (varint v, takes_varint l n slot v old new h)

  pub skips_fixed64 : (r : Result (Unit {0}) DecodeError) (old new : List ℕ) → w ≡ types.Fixed64
      → OnOk r (new ≡ drop 8 old) → OnOk r (8 ≤ length old) → OnOk r (SkipsPayload l n w old new)
  skips_fixed64 (Ok u) old new kind e long = rw kind (_, takes_fixed64 l n slot old new long e)
  skips_fixed64 (Err d) old new kind e long = tt

  pub stops_fixed64 : (r : Result (Unit {0}) DecodeError) (old : List ℕ) → w ≡ types.Fixed64
      → IfErr r (λ e. e ≡ UnexpectedEof) → OnErr r (length old < 8)
      → IfErr r (PayloadFault l n w old)
  stops_fixed64 (Ok u) old kind e short = tt
  stops_fixed64 (Err d) old kind e short = rw (kind, e) (short_fixed64 slot short)

  pub skips_fixed32 : (r : Result (Unit {0}) DecodeError) (old new : List ℕ) → w ≡ types.Fixed32
      → OnOk r (new ≡ drop 4 old) → OnOk r (4 ≤ length old) → OnOk r (SkipsPayload l n w old new)
  skips_fixed32 (Ok u) old new kind e long = rw kind (_, takes_fixed32 l n slot old new long e)
  skips_fixed32 (Err d) old new kind e long = tt

  pub stops_fixed32 : (r : Result (Unit {0}) DecodeError) (old : List ℕ) → w ≡ types.Fixed32
      → IfErr r (λ e. e ≡ UnexpectedEof) → OnErr r (length old < 4)
      → IfErr r (PayloadFault l n w old)
  stops_fixed32 (Ok u) old kind e short = tt
  stops_fixed32 (Err d) old kind e short = rw (kind, e) (short_fixed32 slot short)

  pub skips_bytes : (len : ℕ) (old mid new : List ℕ)
      → ((any : ℕ) → Fits (bytes_charge any) (left_after l one_field))
      → w ≡ types.LengthDelimited
      → Reads old (IsSpelling len) mid → len ≤ length mid → new ≡ drop len mid
      → SkipsPayload l n w old new
  skips_bytes len old mid new room kind h there e =
      rw kind (bytes _, takes_bytes l n slot len old mid new h there e (room len))

  pub skips_group : (r : Result (Unit {0}) DecodeError) (old new : List ℕ) → w ≡ types.StartGroup
      → 0 < l.depth
      → OnOk r ((fs : Fields)
      × TakesUntil (charge fs) (inner (left_after l one_field)) (by_tag n) fs old new)
      → OnOk r (SkipsPayload l n w old new)
  skips_group (Ok u) old new kind level b =
      rw kind (group b.0, takes_group l n slot b.0 old new level b.1)
  skips_group (Err d) old new kind level b = tt

  pub stops_group : (r : Result (Unit {0}) DecodeError) (old : List ℕ) → w ≡ types.StartGroup
      → 0 < l.depth → IfErr r (ListFault (inner (left_after l one_field)) (by_tag n) old)
      → IfErr r (PayloadFault l n w old)
  stops_group (Ok u) old kind level f = tt
  stops_group (Err d) old kind level f = rw kind (in_group slot level f)

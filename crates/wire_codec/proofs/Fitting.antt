-- Records that bytes spell have numbers and lengths in range.
use Rattle.std.proofs.Common.{◌≡◌, ℕ, ◌+◌, ◌*◌, ◌^◌, ◌<◌, List, [], ◌∷◌, ◌++◌, length, get_or, subst, ⊎_elim, arith}
use Rattle.std.specs.Prelude.{All}
use Rattle.std.specs.Int.{w32, w64, from_le_bytes}
use Rattle.std.proofs.lemmas.Bool.{cases_lt}
use Rattle.std.proofs.lemmas.List.{get_or_past}
use Rattle.std.proofs.lemmas.List.Elements.{All-nil, All-head, All-tail, All-cons, All-get_or}
use Rattle.wire_base.specs.Field.{Payload, varint, fixed64, fixed32, bytes, group, Fields, none, field}
use Rattle.wire_base.specs.InRange.{IsPayloadFitting, AreFitting}
use Rattle.wire_base.specs.Read.{Reads}
use Rattle.wire_base.specs.Spells.{SpellsPayload, Spells}

abbrev pub AreBytes : List ℕ → Type 0
AreBytes t = All (λ b. b < 256) t

-- a byte of a list of bytes, or nothing past its end
byte_at : (t : List ℕ) → AreBytes t → (i : ℕ) → get_or t i 0 < 256
byte_at t h i =
    ⊎_elim (λ there. All-get_or (λ b. b < 256) t i 0 there h)
    (λ past. rw (get_or_past t i 0 past) (omega arith)) (cases_lt i (length t))

four_bytes : (a b c d n : ℕ) → a < 256 → b < 256 → c < 256 → d < 256
    → a + b * 256 + c * 65536 + d * 16777216 ≡ n → n < 2 ^ 32
four_bytes a b c d n small_a small_b small_c small_d is = omega arith

eight_bytes : (a b c d e f g h n : ℕ) → a < 256 → b < 256 → c < 256 → d < 256 → e < 256
    → f < 256 → g < 256 → h < 256
    → a + b * 256 + c * 65536 + d * 16777216 + e * 4294967296 + f * 1099511627776
    + g * 281474976710656 + h * 72057594037927936 ≡ n → n < 2 ^ 64
eight_bytes a b c d e f g h n small_a small_b small_c small_d small_e small_f small_g small_h is =
    omega arith

pub fixed32_fits : (t : List ℕ) (v : ℕ) → AreBytes t → from_le_bytes w32 t ≡ v → v < 2 ^ 32
fixed32_fits t v all is =
    let at = byte_at t all in
    four_bytes _ _ _ _ v (at 0) (at 1) (at 2) (at 3) is

pub fixed64_fits : (t : List ℕ) (v : ℕ) → AreBytes t → from_le_bytes w64 t ≡ v → v < 2 ^ 64
fixed64_fits t v all is =
    let at = byte_at t all in
    eight_bytes _ _ _ _ _ _ _ _ v (at 0) (at 1) (at 2) (at 3) (at 4) (at 5) (at 6) (at 7) is

-- the bytes of each of two parts are bytes
pub bytes_front : (xs ys : List ℕ) → AreBytes (xs ++ ys) → AreBytes xs
bytes_front [] ys h = All-nil (λ b. b < 256)
bytes_front (x ∷ xs) ys h =
    All-cons (λ b. b < 256) x xs (All-head (λ b. b < 256) x (xs ++ ys) h)
    (bytes_front xs ys (All-tail (λ b. b < 256) x (xs ++ ys) h))

pub bytes_behind : (xs ys : List ℕ) → AreBytes (xs ++ ys) → AreBytes ys
bytes_behind [] ys h = h
bytes_behind (x ∷ xs) ys h = bytes_behind xs ys (All-tail (λ b. b < 256) x (xs ++ ys) h)

pub read_bytes : (IsText : List ℕ → Type 0) (old new : List ℕ) (h : Reads old IsText new)
    → AreBytes old → AreBytes h.text × AreBytes new
read_bytes IsText old new h all =
    let parts = subst AreBytes h.parts all in
    (bytes_front h.text new parts, bytes_behind h.text new parts)

mutual
  payload_fits : (p : Payload) (n : ℕ) (t : List ℕ) → AreBytes t → SpellsPayload n p t
      → IsPayloadFitting p
  payload_fits (varint v) n t all h = h.fits
  payload_fits (fixed64 v) n t all h = fixed64_fits t v all h.1
  payload_fits (fixed32 v) n t all h = fixed32_fits t v all h.1
  payload_fits (bytes b) n t all h = h.spelled.fits
  payload_fits (group fs) n t all (end, body, tag) =
      records_fit fs body.text (read_bytes (Spells fs) t end body all).0 body.spelled

  pub records_fit : (fs : Fields) (t : List ℕ) → AreBytes t → Spells fs t → AreFitting fs
  records_fit none t all h = tt
  records_fit (field n p others) t all (behind, rest, tag, payload, more) =
      let after_tag = read_bytes _ t behind tag all in
      let after = read_bytes (SpellsPayload n p) behind rest payload after_tag.1 in
      (payload_fits p n payload.text after.0 payload.spelled, records_fit others rest after.1 more)

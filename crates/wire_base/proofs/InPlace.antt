-- Varints that stand in a slice.
use Rattle.std.proofs.Common.{◌≡◌, ℕ, zero, suc, ◌+◌, ◌*◌, ◌-◌, ◌%◌, ◌^◌, ◌<◌, ◌≤◌, inl, inr, List, [], ◌∷◌, ◌++◌, length, drop, get_or, refl, sym, ap, ◌∙◌, subst, arith, append_assoc}
use Rattle.std.proofs.lemmas.List.{append-nil, length-append, drop-append-le}
use Rattle.std.proofs.lemmas.Nat.{pow-add}
use Rattle.std.proofs.Math.Nat.{mod-lt, mul_assoc, add-mul}
use Rattle.std.proofs.Math.Pow.{pow_mono}
use Rattle.std.proofs.Common.{add-one, drop-cons, take, take-append-drop}
use Rattle.wire_base.proofs.ReadLaws.{Reads-inside}
use Rattle.wire_base.specs.InPlace.{HoldsVarint}
use Rattle.wire_base.specs.declared.error.DecodeError.{DecodeError}
use Rattle.wire_base.specs.declared.error.DecodeError.TheVariants.{VarintTooLong}
use Rattle.wire_base.specs.Varint.{AllContinue, IsSpelling, VarintFault, too_long}
use Rattle.wire_base.specs.Read.{Reads}
use Rattle.wire_base.proofs.Varints.{ReadSoFar, ReadSoFar-none, ReadSoFar-more, ReadSoFar-ends, ReadSoFar-fits}
use Rattle.wire_base.proofs.Varints.{digit_below, varint_value-below, ReadSoFar-tenth}

all_above : (bytes : List ℕ) (i : ℕ) → AllContinue bytes → i < length bytes → 128 ≤ get_or bytes i 0
all_above [] i all there = absurd (omega (arith, there))
all_above (b ∷ bs) zero all there = all.0
all_above (b ∷ bs) (suc i) all there = all_above bs i all.1 (omega (arith, there))

-- a few bytes that all continue hold no varint
not_held : (bytes : List ℕ) → AllContinue bytes → length bytes ≤ 9 → HoldsVarint bytes → ⊥
not_held bytes all few (inl long) = omega (arith, few, long)
not_held bytes all few (inr last) =
    let high = all_above bytes (length bytes - 1) all (omega (arith, last.0)) in
    omega (arith, high, last.1)

-- behind so many bytes that continue, there is one more
pub one_more_there : (bytes now : List ℕ) (v count : ℕ) → HoldsVarint bytes
    → ReadSoFar bytes now v count → count ≤ 9 → count < length bytes
one_more_there bytes [] v count holds so_far few =
    let whole : so_far.front ≡ bytes = sym (so_far.parts ∙ append-nil so_far.front) in
    absurd (not_held bytes (subst AllContinue whole so_far.continue)
    (omega (arith, ap length (sym whole), so_far.len, few)) holds)
one_more_there bytes (b ∷ now) v count holds so_far few =
    omega (arith, ap length so_far.parts, length-append so_far.front (b ∷ now), so_far.len)

-- ---- digits in numbers of 32 bits

-- a byte that continues, with its digit added and the continuation bit taken off
module _ (v b p : ℕ) (high : 128 ≤ b) where
  pub continuation_off : b < 256 → v + b * p - 128 * p ≡ v + b % 128 * p
  continuation_off byte =
      let is : b ≡ b % 128 + 128 = omega (arith, high, byte) in
      let product : b * p ≡ b % 128 * p + 128 * p = ap (λ c. c * p) is ∙ add-mul (b % 128) 128 p in
      omega (arith, product)

-- and the last byte has none
pub last_digit : (v b p : ℕ) → b < 128 → v + b * p ≡ v + b % 128 * p
last_digit v b p last =
    let same : b ≡ b % 128 = omega (arith, last) in
    ap (λ d. v + d * p) same

-- with it there is one digit more
digit_more : (v count b new : ℕ) → v < 2 ^ (7 * count)
    → new ≡ v + b % 128 * 2 ^ (7 * count) → new < 2 ^ (7 * (count + 1))
digit_more v count b new below is =
    let all = digit_below v (b % 128) (2 ^ (7 * count)) below (mod-lt b (omega arith)) in
    let power : 2 ^ (7 * (count + 1)) ≡ 128 * 2 ^ (7 * count) =
    ap (λ k. 2 ^ k) (omega arith) ∙ pow-add 2 7 (7 * count) in
    omega (arith, all, power, is)

so_far_below : (bytes now : List ℕ) (v count : ℕ) → ReadSoFar bytes now v count
    → v < 2 ^ (7 * count)
so_far_below bytes now v count h = rw (h.value, h.len) at (varint_value-below h.front)

-- what the bytes have from a place on
next_byte : (bytes : List ℕ) (i b : ℕ) → i < length bytes → b ≡ get_or bytes i 0
    → drop i bytes ≡ b ∷ drop (i + 1) bytes
next_byte bytes i b there is = rw (is, add-one) (drop-cons bytes i 0 there)

module _ (bytes : List ℕ) (b : ℕ) where
  -- the first four
  pub low_more : (low i new : ℕ) → ReadSoFar bytes (drop i bytes) low i
      → i < length bytes → b ≡ get_or bytes i 0 → 128 ≤ b
      → new ≡ low + b % 128 * 2 ^ (7 * i)
      → ReadSoFar bytes (drop (i + 1) bytes) new (i + 1)
  low_more low i new h there at high is =
      rw is (ReadSoFar-more bytes _ _ low i b h (next_byte bytes i b there at) high)

  pub low_ends : (low i new : ℕ) → ReadSoFar bytes (drop i bytes) low i → i ≤ 3
      → i < length bytes → b ≡ get_or bytes i 0 → b < 128
      → new ≡ low + b % 128 * 2 ^ (7 * i)
      → Reads bytes (IsSpelling new) (drop (i + 1) bytes)
  low_ends low i new h few there at last is =
      rw is (ReadSoFar-ends bytes _ _ low i b h (next_byte bytes i b there at) last
      (omega (arith, few)) (ReadSoFar-fits bytes _ low i b h (omega (arith, few))))

  -- the next four, above these
  module _ (low middle i new : ℕ) (from : 4 ≤ i) (few : i ≤ 7)
      (is : new ≡ middle + b % 128 * 2 ^ (7 * (i - 4))) where
    middle_whole : low + new * 2 ^ 28 ≡ (low + middle * 2 ^ 28) + b % 128 * 2 ^ (7 * i)
    middle_whole =
        let p = 2 ^ (7 * (i - 4)) in
        let power : 2 ^ (7 * i) ≡ p * 2 ^ 28 =
        ap (λ k. 2 ^ k) (omega (arith, from)) ∙ pow-add 2 (7 * (i - 4)) 28 in
        let whole : b % 128 * 2 ^ (7 * i) ≡ b % 128 * p * 2 ^ 28 =
        ap (λ q. b % 128 * q) power ∙ sym (mul_assoc (b % 128) p (2 ^ 28)) in
        omega (arith, is, whole)

    pub middle_fits : middle < 2 ^ (7 * (i - 4)) → new < 2 ^ (7 * (i + 1 - 4))
    middle_fits below =
        let same : i + 1 - 4 ≡ (i - 4) + 1 = omega (arith, from) in
        rw same (digit_more middle (i - 4) b new below is)

    module _ (h : ReadSoFar bytes (drop i bytes) (low + middle * 2 ^ 28) i)
        (there : i < length bytes) (at : b ≡ get_or bytes i 0) where
      pub middle_more : 128 ≤ b → ReadSoFar bytes (drop (i + 1) bytes) (low + new * 2 ^ 28) (i + 1)
      middle_more high =
          rw middle_whole (ReadSoFar-more bytes _ _ (low + middle * 2 ^ 28) i b h
          (next_byte bytes i b there at) high)

      pub middle_ends : b < 128 → Reads bytes (IsSpelling (low + new * 2 ^ 28)) (drop (i + 1) bytes)
      middle_ends last =
          rw middle_whole (ReadSoFar-ends bytes _ _ (low + middle * 2 ^ 28) i b h
          (next_byte bytes i b there at) last (omega (arith, few))
          (ReadSoFar-fits bytes _ (low + middle * 2 ^ 28) i b h (omega (arith, few))))

pub low_fits : (bytes now : List ℕ) (v count : ℕ) → ReadSoFar bytes now v count → count ≤ 4
    → v < 2 ^ 28
low_fits bytes now v count h few =
    let below = so_far_below bytes now v count h in
    let most : 2 ^ (7 * count) ≤ 2 ^ 28 = pow_mono {i = 7 * count} {j = 28} (omega arith) in
    omega (arith, below, most)

-- four digits at most
pub four_digits : (v i : ℕ) → v < 2 ^ (7 * (i - 4)) → i ≤ 8 → v < 2 ^ 28
four_digits v i below few =
    let most : 2 ^ (7 * (i - 4)) ≤ 2 ^ 28 = pow_mono {i = 7 * (i - 4)} {j = 28}
    (omega (arith, few)) in
    omega (arith, below, most)

-- two bytes that continue
pub two_so_far : (bytes : List ℕ) (a b low : ℕ) → 1 < length bytes → a ≡ get_or bytes 0 0
    → b ≡ get_or bytes 1 0 → 128 ≤ a → 128 ≤ b → low ≡ a % 128 + b % 128 * 128
    → ReadSoFar bytes (drop 2 bytes) low 2
two_so_far bytes a b low there first second high_a high_b is =
    let one = low_more bytes a 0 0 (a % 128) (ReadSoFar-none bytes) (omega (arith, there)) first
    high_a (omega arith) in
    low_more bytes b (a % 128) 1 low one there second high_b (omega (arith, is))

-- ---- the ninth byte and the tenth

module _ (bytes : List ℕ) (v ninth : ℕ) (h : ReadSoFar bytes (drop 8 bytes) v 8)
    (there : 8 < length bytes) (at : ninth ≡ get_or bytes 8 0) where
  pub ninth_ends : ninth < 128 → Reads bytes (IsSpelling (v + ninth * 2 ^ 56)) (drop 9 bytes)
  ninth_ends last =
      let same : ninth % 128 ≡ ninth = omega (arith, last) in
      rw (← same) (ReadSoFar-ends bytes _ _ v 8 ninth h (next_byte bytes 8 ninth there at) last
      (omega arith) (ReadSoFar-fits bytes _ v 8 ninth h (omega arith)))

  nine : 128 ≤ ninth → ReadSoFar bytes (drop 9 bytes) (v + ninth % 128 * 2 ^ 56) 9
  nine high = ReadSoFar-more bytes _ _ v 8 ninth h (next_byte bytes 8 ninth there at) high

  module _ (high : 128 ≤ ninth) (holds : HoldsVarint bytes) (tenth : ℕ)
      (is : tenth ≡ get_or bytes 9 0) where
    pub tenth_there : 9 < length bytes
    tenth_there = one_more_there bytes _ _ 9 holds (nine high) (omega arith)

    pub tenth_ends : tenth ≤ 1
        → Reads bytes (IsSpelling (v + (ninth % 128 + tenth * 128) * 2 ^ 56)) (drop 10 bytes)
    tenth_ends last =
        let w = v + ninth % 128 * 2 ^ 56 in
        let same : v + (ninth % 128 + tenth * 128) * 2 ^ 56 ≡ w + tenth % 128 * 2 ^ (7 * 9) =
        omega (arith, last) in
        rw same (ReadSoFar-ends bytes _ _ w 9 tenth (nine high)
        (next_byte bytes 9 tenth tenth_there is) (omega (arith, last)) (omega arith)
        (ReadSoFar-tenth bytes _ w tenth (nine high) last))

    pub too_many : 1 < tenth → (more : List ℕ) → VarintFault (bytes ++ more) VarintTooLong
    too_many large more =
        let n = nine high in
        too_long n.front tenth (drop 10 bytes ++ more)
        (ap (λ (t : List ℕ). t ++ more) n.parts ∙ append_assoc n.front (drop 9 bytes) more
        ∙ ap (λ (t : List ℕ). n.front ++ (t ++ more)) (next_byte bytes 9 tenth tenth_there is))
        n.continue n.len large

-- ---- a chunk, at the front of what is unread

pub chunk_first : (chunk unread : List ℕ) → take (length chunk) unread ≡ chunk
    → unread ≡ chunk ++ drop (length chunk) unread
chunk_first chunk unread front =
    sym (take-append-drop (length chunk) unread)
    ∙ ap (λ (t : List ℕ). t ++ drop (length chunk) unread) front

pub read_in_chunk : (IsText : List ℕ → Type 0) (chunk unread : List ℕ) (len : ℕ)
    → take (length chunk) unread ≡ chunk → len ≤ length chunk
    → Reads chunk IsText (drop len chunk) → Reads unread IsText (drop len unread)
read_in_chunk IsText chunk unread len front few h =
    let parts = chunk_first chunk unread front in
    let behind : drop len unread ≡ drop len chunk ++ drop (length chunk) unread =
    ap (drop len) parts ∙ drop-append-le len chunk (drop (length chunk) unread) few in
    rw behind (Reads-inside IsText unread chunk (drop len chunk) (drop (length chunk) unread)
    parts h)

pub fault_in_chunk : (chunk unread : List ℕ) (e : DecodeError)
    → take (length chunk) unread ≡ chunk → ((more : List ℕ) → VarintFault (chunk ++ more) e)
    → VarintFault unread e
fault_in_chunk chunk unread e front fault =
    subst (λ (t : List ℕ). VarintFault t e) (sym (chunk_first chunk unread front))
    (fault (drop (length chunk) unread))

-- two bytes are a varint of their own
pub two_bytes : (chunk : List ℕ) (a b : ℕ) → 1 < length chunk → a ≡ get_or chunk 0 0
    → b ≡ get_or chunk 1 0 → 128 ≤ a → b < 128
    → Reads chunk (IsSpelling (a % 128 + b * 128)) (drop 2 chunk)
two_bytes chunk a b there first second high low = record {
  text = a ∷ b ∷ [];
  parts = next_byte chunk 0 a (omega (arith, there)) first
      ∙ ap (λ (t : List ℕ). a ∷ t) (next_byte chunk 1 b there second);
  spelled = record {
    ended = (high, low);
    at_most_ten = omega arith;
    value = omega (arith, low);
    fits = omega (arith, low);
  };
}

-- ---- bytes behind which no others stand

no_more : (bytes : List ℕ) → length bytes ≤ 0 → bytes ≡ []
no_more [] few = refl
no_more (b ∷ bytes) few = absurd (omega (arith, few))

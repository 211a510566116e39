-- What the loops that read and write varints keep.
use Rattle.std.proofs.Common.{◌≡◌, ℕ, zero, suc, ◌+◌, ◌*◌, ◌/◌, ◌%◌, ◌^◌, ◌<◌, ◌≤◌, max, cond, ltb, List, [], ◌∷◌, ◌++◌, length, refl, sym, ap, subst, ◌∙◌, append_assoc, arith}
use Rattle.std.specs.Int.Bits.{bit_or, or_zero_l, or_zero_r}
use Rattle.std.proofs.lemmas.Bool.{lt-ltb, le-ltb}
use Rattle.std.proofs.lemmas.List.{append-nil, length-append}
use Rattle.std.proofs.lemmas.Nat.{or_block, shl_whole, pow-add}
use Rattle.std.proofs.Math.Nat.{mod-lt, mul-le-mul_right, div-lt_iff_lt-mul}
use Rattle.std.proofs.Math.Pow.{pow_mono}
use Rattle.wire_base.specs.declared.error.DecodeError.TheVariants.{UnexpectedEof, VarintTooLong}
use Rattle.wire_base.specs.Read.{Reads}
use Rattle.wire_base.specs.Varint.{varint_value, AllContinue, IsEnded, IsSpelling, digits, shortest_varint, VarintFault, cut_short, too_long}

-- ---- the shortest spelling

-- more fuel than a number has digits changes nothing
digits-suc : (more v : ℕ) → v < 2 ^ (7 * suc more) → digits (suc more) v ≡ digits more v
digits-suc zero v h = rw (lt-ltb v 128 h) refl
digits-suc (suc more) v h =
    let power : 2 ^ (7 * suc (suc more)) ≡ 128 * 2 ^ (7 * suc more) = ap (λ k. 2 ^ k) (omega arith)
    ∙ pow-add 2 7 (7 * suc more) in
    let rest : v / 128 < 2 ^ (7 * suc more) =
    (div-lt_iff_lt-mul {k = 128} {x = v} {y = 2 ^ (7 * suc more)} (omega arith)).1
    (omega (arith, power)) in
    ap (λ (tail : List ℕ). cond (ltb v 128) (v ∷ []) ((v % 128 + 128) ∷ tail))
    (digits-suc more (v / 128) rest)

-- a number below 128 is its own spelling
pub shortest_varint-last : (v : ℕ) → v < 128 → shortest_varint v ≡ v ∷ []
unfolding shortest_varint
shortest_varint-last v h = rw (lt-ltb v (2 ^ 64) (omega arith), lt-ltb v 128 h) refl

-- another one begins with its low seven bits
pub shortest_varint-more : (v : ℕ) → 128 ≤ v → v < 2 ^ 64
    → shortest_varint v ≡ (v % 128 + 128) ∷ shortest_varint (v / 128)
unfolding shortest_varint
shortest_varint-more v high fits =
    let rest : v / 128 < 2 ^ 63 =
    (div-lt_iff_lt-mul {k = 128} {x = v} {y = 2 ^ 63} (omega arith)).1 (omega arith) in
    rw (
      lt-ltb v (2 ^ 64) fits,
      le-ltb v 128 high,
      lt-ltb (v / 128) (2 ^ 64)
          (omega arith),
      ← digits-suc 8 (v / 128) rest,
    ) refl

-- a number that takes k digits more than one
length-digits : (k more v : ℕ) → k ≤ more → v < 2 ^ (7 * suc k) → 2 ^ (7 * k) ≤ max v 1
    → length (digits more v) ≡ suc k
length-digits zero zero v le most least = refl
length-digits zero (suc more) v le most least = rw (lt-ltb v 128 most) refl
length-digits (suc k) zero v le most least = absurd (omega arith)
length-digits (suc k) (suc more) v le most least =
    let upper : 2 ^ (7 * suc (suc k)) ≡ 128 * 2 ^ (7 * suc k) = ap (λ n. 2 ^ n) (omega arith)
    ∙ pow-add 2 7 (7 * suc k) in
    let lower : 2 ^ (7 * suc k) ≡ 128 * 2 ^ (7 * k) = ap (λ n. 2 ^ n) (omega arith)
    ∙ pow-add 2 7 (7 * k) in
    let some : 2 ^ 0 ≤ 2 ^ (7 * k) = pow_mono {i = 0} {j = 7 * k} (omega arith) in
    let high : 128 ≤ v = omega (arith, lower) in
    let below : v / 128 < 2 ^ (7 * suc k) =
    (div-lt_iff_lt-mul {k = 128} {x = v} {y = 2 ^ (7 * suc k)} (omega arith)).1
    (omega (arith, upper)) in
    let above : 2 ^ (7 * k) ≤ max (v / 128) 1 = omega (arith, lower) in
    rw (le-ltb v 128 high) (ap suc (length-digits k more (v / 128) (omega arith) below above))

-- how long it is, by the place of the number's highest bit
pub length-shortest_varint : (v place : ℕ) → v < 2 ^ 64 → 2 ^ place ≤ max v 1
    → max v 1 < 2 * 2 ^ place → place < 64 → place / 7 + 1 ≡ length (shortest_varint v)
unfolding shortest_varint
length-shortest_varint v place fits least most small =
    let up : 2 ^ suc place ≤ 2 ^
    (7 * suc (place / 7)) = pow_mono {i = suc place} {j = 7 * suc (place / 7)} (omega arith) in
    let down : 2 ^ (7 * (place / 7)) ≤ 2 ^ place = pow_mono {i = 7 * (place / 7)} {j = place}
    (omega arith) in
    let double : 2 ^ suc place ≡ 2 * 2 ^ place = ap (λ n. 2 ^ n) (omega arith)
    ∙ pow-add 2 1 place in
    rw (lt-ltb v (2 ^ 64) fits)
    (omega (
      arith,
      length-digits (place / 7) 9 v (omega arith) (omega (arith, up, double))
          (omega (arith, down)),
    ))

-- ---- reading

-- one byte more at the end of a number's bytes adds its low seven bits above the others
pub varint_value-push : (front : List ℕ) (b : ℕ)
    → varint_value (front ++ b ∷ []) ≡ varint_value front + b % 128 * 2 ^ (7 * length front)
varint_value-push [] b = omega arith
varint_value-push (a ∷ front) b =
    let power : 2 ^ (7 * suc (length front)) ≡ 128 * 2 ^ (7 * length front) = ap (λ k. 2 ^ k)
    (omega arith) ∙ pow-add 2 7 (7 * length front) in
    rw (varint_value-push front b, power) (omega arith)

-- so many bytes have at most seven bits each
pub varint_value-below : (front : List ℕ) → varint_value front < 2 ^ (7 * length front)
varint_value-below [] = omega arith
varint_value-below (a ∷ front) =
    let power : 2 ^ (7 * suc (length front)) ≡ 128 * 2 ^ (7 * length front) = ap (λ k. 2 ^ k)
    (omega arith) ∙ pow-add 2 7 (7 * length front) in
    omega (arith, power, varint_value-below front)

-- a number above the low k bits, by `|`
pub or_shl : (k low high : ℕ) → low < 2 ^ k → bit_or low (high * 2 ^ k) ≡ low + high * 2 ^ k
or_shl k low high h =
    let e : bit_or (0 * 2 ^ k + low)
    (high * 2 ^ k + 0) ≡ bit_or 0 high * 2 ^ k + bit_or low 0 = or_block k 0 high low 0 h
    (omega arith) in
    let left : 0 * 2 ^ k + low ≡ low = omega arith in
    let right : high * 2 ^ k + 0 ≡ high * 2 ^ k = omega arith in
    rw (left, right, or_zero_l, or_zero_r) at e ∙ omega arith

pub AllContinue-push : (front : List ℕ) (b : ℕ) → AllContinue front → 128 ≤ b
    → AllContinue (front ++ b ∷ [])
AllContinue-push [] b c h = (h, tt)
AllContinue-push (a ∷ front) b c h = (c.0, AllContinue-push front b c.1 h)

pub IsEnded-push : (front : List ℕ) (b : ℕ) → AllContinue front → b < 128
    → IsEnded (front ++ b ∷ [])
IsEnded-push [] b c h = h
IsEnded-push (a ∷ []) b c h = (c.0, h)
IsEnded-push (a ∷ a' ∷ front) b c h = (c.0, IsEnded-push (a' ∷ front) b c.1 h)

-- count bytes were read, all of them continue, and v is their number
pub record ReadSoFar (old now : List ℕ) (v count : ℕ) : Type 0 where
  pub front : List ℕ
  pub parts : old ≡ front ++ now
  pub continue : AllContinue front
  pub len : length front ≡ count
  pub value : varint_value front ≡ v

pub ReadSoFar-none : (old : List ℕ) → ReadSoFar old old 0 0
ReadSoFar-none old =
    record { front = []; parts = refl; continue = tt; len = refl; value = refl }

-- the number with one byte more, as the code joins it
pub joined_value : (old now : List ℕ) (v count b : ℕ) → ReadSoFar old now v count → count ≤ 8
    → bit_or v (b % 128 * 2 ^ (7 * count) % 2 ^ 64) ≡ v + b % 128 * 2 ^ (7 * count)
joined_value old now v count b so_far few =
    let below : v < 2 ^ (7 * count) = rw (so_far.value, so_far.len) at
    (varint_value-below so_far.front) in
    let low : b % 128 < 2 ^ 7 = mod-lt b (omega arith) in
    rw (shl_whole (b % 128) 7 (7 * count) 64 low (omega arith))
    (or_shl (7 * count) v (b % 128) below)

pub ReadSoFar-more : (old now rest : List ℕ) (v count b : ℕ) → ReadSoFar old now v count
    → now ≡ b ∷ rest → 128 ≤ b → ReadSoFar old rest (v + b % 128 * 2 ^ (7 * count)) (count + 1)
ReadSoFar-more old now rest v count b so_far e high = record {
  front = so_far.front ++ b ∷ [];
  parts = so_far.parts ∙ ap (λ (t : List ℕ). so_far.front ++ t) e
      ∙ sym (append_assoc so_far.front (b ∷ []) rest);
  continue = AllContinue-push so_far.front b so_far.continue high;
  len = length-append so_far.front (b ∷ []) ∙ omega (arith, so_far.len);
  value = varint_value-push so_far.front b ∙ rw (so_far.value, so_far.len) refl;
}

-- the byte that lacks the continuation bit ends the number, where it fits 64 bits
pub ReadSoFar-ends : (old now rest : List ℕ) (v count b : ℕ) → ReadSoFar old now v count
    → now ≡ b ∷ rest → b < 128 → count ≤ 9 → v + b % 128 * 2 ^ (7 * count) < 2 ^ 64
    → Reads old (IsSpelling (v + b % 128 * 2 ^ (7 * count))) rest
ReadSoFar-ends old now rest v count b so_far e low few fits = record {
  text = so_far.front ++ b ∷ [];
  parts = so_far.parts ∙ ap (λ (t : List ℕ). so_far.front ++ t) e
      ∙ sym (append_assoc so_far.front (b ∷ []) rest);
  spelled = record {
    ended = IsEnded-push so_far.front b so_far.continue low;
    at_most_ten = omega (arith, so_far.len, length-append so_far.front (b ∷ []));
    value = varint_value-push so_far.front b ∙ rw (so_far.value, so_far.len) refl;
    fits = fits;
  };
}

-- a digit above what is below p
pub digit_below : (v d p : ℕ) → v < p → d < 128 → v + d * p < 128 * p
digit_below v d p low high =
    let most : d * p ≤ 127 * p = mul-le-mul_right p (omega arith) in omega arith

-- one of the first nine bytes leaves room in 64 bits
pub ReadSoFar-fits : (old now : List ℕ) (v count b : ℕ) → ReadSoFar old now v count → count ≤ 8
    → v + b % 128 * 2 ^ (7 * count) < 2 ^ 64
ReadSoFar-fits old now v count b so_far few =
    let below : v < 2 ^ (7 * count) = rw (so_far.value, so_far.len) at
    (varint_value-below so_far.front) in
    let all : v + b % 128 * 2 ^ (7 * count) < 128 * 2 ^ (7 * count) = digit_below v (b % 128)
    (2 ^ (7 * count)) below (mod-lt b (omega arith)) in
    let power : 2 ^ (7 + 7 * count) ≡ 128 * 2 ^ (7 * count) = pow-add 2 7 (7 * count) in
    let within : 2 ^ (7 + 7 * count) ≤ 2 ^ 63 = pow_mono {i = 7 + 7 * count} {j = 63}
    (omega arith) in
    omega (arith, all, power, within)

-- a tenth byte of 0 or 1 does too
pub ReadSoFar-tenth : (old now : List ℕ) (v b : ℕ) → ReadSoFar old now v 9 → b ≤ 1
    → v + b % 128 * 2 ^ (7 * 9) < 2 ^ 64
ReadSoFar-tenth old now v b so_far few =
    let below : v < 2 ^ (7 * 9) =
    rw (so_far.value, so_far.len) at (varint_value-below so_far.front) in
    omega arith

-- the number with such a tenth byte, as the code joins it
pub tenth_value : (old now : List ℕ) (v b : ℕ) → ReadSoFar old now v 9 → b ≤ 1
    → bit_or v (b * 2 ^ 63 % 2 ^ 64) ≡ v + b % 128 * 2 ^ (7 * 9)
tenth_value old now v b so_far few =
    let below : v < 2 ^ 63 = rw (so_far.value, so_far.len) at (varint_value-below so_far.front) in
    let same : b % 128 ≡ b = omega arith in
    rw (same, shl_whole b 1 63 64 (omega arith) (omega arith)) (or_shl 63 v b below)

-- the bytes end before the number does
pub ReadSoFar-cut_short : (old now : List ℕ) (v count : ℕ) → ReadSoFar old now v count → now ≡ []
    → count ≤ 9 → VarintFault old UnexpectedEof
ReadSoFar-cut_short old now v count so_far e few =
    let whole : so_far.front ≡ old = sym (so_far.parts ∙ ap (λ (t : List ℕ). so_far.front ++ t) e
    ∙ append-nil so_far.front) in
    cut_short (subst AllContinue whole so_far.continue) (rw (← whole) (omega (arith, so_far.len)))

-- the tenth byte is more than the one bit that is left
pub ReadSoFar-too_long : (old now rest : List ℕ) (v b : ℕ) → ReadSoFar old now v 9 → now ≡ b ∷ rest
    → 1 < b → VarintFault old VarintTooLong
ReadSoFar-too_long old now rest v b so_far e high =
    too_long so_far.front b rest (so_far.parts
    ∙ ap (λ (t : List ℕ). so_far.front ++ t) e) so_far.continue so_far.len high

-- a byte that is not continued is a varint of its own
pub one_byte : (old rest : List ℕ) (b : ℕ) → old ≡ b ∷ rest → b < 128
    → Reads old (IsSpelling b) rest
one_byte old rest b parts last = record {
  text = b ∷ [];
  parts = parts;
  spelled = record {
    ended = last;
    at_most_ten = omega arith;
    value = omega (arith, last);
    fits = omega (arith, last);
  };
}

-- Laws of varints: one reading, a shortest spelling, and a fault exactly where there is no reading.
use Rattle.std.proofs.Common.{◌≡◌, ℕ, zero, suc, ◌+◌, ◌*◌, ◌/◌, ◌%◌, ◌^◌, ◌<◌, ◌≤◌, ◌⊎◌, inl, inr, List, [], ◌∷◌, ◌++◌, length, refl, sym, ap, ◌∙◌, arith, length-append, mul_assoc, mul_comm, pow-suc, lt-ltb, le-ltb, ⊎_elim, subst, ap₂, All, append_assoc, lt_of_lt_of_le, le_trans}
use Rattle.std.proofs.Math.Nat.{pow-le-pow_right}
use Rattle.std.proofs.lemmas.Bool.{cases_lt}
use Rattle.std.proofs.lemmas.List.Elements.{All-head, All-tail}
use Rattle.wire_base.specs.declared.error.DecodeError.{DecodeError}
use Rattle.wire_base.specs.declared.error.DecodeError.TheVariants.{UnexpectedEof, VarintTooLong}
use Rattle.wire_base.specs.VarintLaws.{ShortestReadsBack, NoSpellingBeginsAnother, OneVarint, NoVarintBesideFault, NoSpellingIsShorter, OneVarintFault, VarintOrFault}
use Rattle.wire_base.specs.Read.{Reads}
use Rattle.wire_base.specs.Varint.{varint_value, AllContinue, IsEnded, IsSpelling, digits, shortest_varint, VarintFault, cut_short, too_long}

-- ---- where a varint ends

-- no text that has ended goes on
pub nil_after_ended : (t more : List ℕ) → IsEnded t → IsEnded (t ++ more) → more ≡ []
nil_after_ended [] more h k = absurd h
nil_after_ended (b ∷ []) [] h k = refl
nil_after_ended (b ∷ []) (c ∷ more) h k = absurd (omega (arith, k.0))
nil_after_ended (b ∷ c ∷ bs) more h k = nil_after_ended (c ∷ bs) more h.1 k.1

-- two ended texts at the front of one list are one
pub one_ended : (t u a b : List ℕ) → IsEnded t → IsEnded u → t ++ a ≡ u ++ b → (t ≡ u) × (a ≡ b)
one_ended [] u a b h k e = absurd h
one_ended (x ∷ t) [] a b h k e = absurd k
one_ended (x ∷ []) (y ∷ []) a b h k e = (cc, cc)
one_ended (x ∷ []) (y ∷ z ∷ u) a b h k e = let same : x ≡ y = cc in absurd (omega (arith, k.0))
one_ended (x ∷ z ∷ t) (y ∷ []) a b h k e = let same : x ≡ y = cc in absurd (omega (arith, h.0))
one_ended (x ∷ z ∷ t) (y ∷ v ∷ u) a b h k e =
    let rest = one_ended (z ∷ t) (v ∷ u) a b h.1 k.1 (cc) in
    (cc, rest.1)

-- where every byte continues, nothing ends
pub continued_not_ended : (t rest : List ℕ) → AllContinue (t ++ rest) → IsEnded t → ⊥
continued_not_ended [] rest h k = k
continued_not_ended (b ∷ []) rest h k = omega (arith, h.0)
continued_not_ended (b ∷ c ∷ bs) rest h k = continued_not_ended (c ∷ bs) rest h.1 k.1

-- an ended text goes past the continued bytes before it
pub past_continued : (front t a b : List ℕ) → AllContinue front → IsEnded t → t ++ a ≡ front ++ b
    → (more : List ℕ) × (t ≡ front ++ more) × IsEnded more × (b ≡ more ++ a)
past_continued [] t a b h k e = (t, refl, k, sym e)
past_continued (x ∷ front) [] a b h k e = absurd k
past_continued (x ∷ front) (y ∷ []) a b h k e = let same : x ≡ y = cc in absurd (omega (arith, h.0))
past_continued (x ∷ front) (y ∷ z ∷ t) a b h k e =
    let next = past_continued front (z ∷ t) a b h.1 k.1 (cc) in
    let same : x ≡ y = cc in
    let parts = next.1 in
    (next.0, cc, next.2, next.3)

-- an end behind continued bytes is an end
pub IsEnded-append : (front more : List ℕ) → AllContinue front → IsEnded more
    → IsEnded (front ++ more)
IsEnded-append [] more h k = k
IsEnded-append (x ∷ []) [] h k = absurd k
IsEnded-append (x ∷ []) (y ∷ more) h k = (h.0, k)
IsEnded-append (x ∷ z ∷ front) more h k = (h.0, IsEnded-append (z ∷ front) more h.1 k)

-- a continued byte behind continued bytes
pub AllContinue-push : (front : List ℕ) (b : ℕ) → AllContinue front → 128 ≤ b
    → AllContinue (front ++ b ∷ [])
AllContinue-push [] b h k = (k, tt)
AllContinue-push (x ∷ front) b h k = (h.0, AllContinue-push front b h.1 k)

-- ---- values

-- what stands behind n digits counts 128 ^ n times
pub varint_value-append : (a b : List ℕ) → varint_value (a ++ b)
    ≡ varint_value a + 128 ^ length a * varint_value b
varint_value-append [] b = omega arith
varint_value-append (x ∷ a) b =
    let shift : 128 ^ suc (length a) * varint_value b ≡ 128 * (128 ^ length a * varint_value b) = rw
    (pow-suc, mul_comm (128 ^ length a) 128, mul_assoc) refl in
    omega (arith, varint_value-append a b)

-- n digits have a value below 128 ^ n
pub varint_value-below : (t : List ℕ) → varint_value t < 128 ^ length t
varint_value-below [] = omega arith
varint_value-below (x ∷ t) =
    let shift : 128 ^ suc (length t) ≡ 128 * 128 ^ length t = pow-suc 128 (length t)
    ∙ mul_comm (128 ^ length t) 128 in
    omega (arith, varint_value-below t)

-- ---- digits

-- one digit
pub digits-low : (n v : ℕ) → v < 128 → digits n v ≡ v ∷ []
digits-low zero v h = refl
digits-low (suc n) v h = rw lt-ltb

-- the lowest digit, and the digits of the rest
pub digits-high : (n v : ℕ) → 128 ≤ v → digits (suc n) v ≡ (v % 128 + 128) ∷ digits n (v / 128)
digits-high n v h = rw le-ltb

-- the digits of a number that has so many are a varint of it
pub record AreDigits (n v : ℕ) (text : List ℕ) : Type 0 where
  pub ended : IsEnded text
  pub short : length text ≤ suc n
  pub value : varint_value text ≡ v

-- one digit more at the front
AreDigits-more : (n v : ℕ) (text : List ℕ) → 128 ≤ v → AreDigits n (v / 128) text
    → AreDigits (suc n) v ((v % 128 + 128) ∷ text)
AreDigits-more n v text high h = record {
  ended = IsEnded-append ((v % 128 + 128) ∷ []) text (omega arith, tt) h.ended;
  short = omega arith;
  value = omega arith;
}

-- the last digit
AreDigits-last : (n v : ℕ) → v < 128 → AreDigits n v (v ∷ [])
AreDigits-last n v low = record { ended = low; short = omega arith; value = omega arith }

-- the digits of a number that has no more
pub AreDigits-digits : (n v : ℕ) → v < 128 ^ suc n → AreDigits n v (digits n v)
AreDigits-digits zero v h = AreDigits-last zero v h
AreDigits-digits (suc n) v h =
    let shift : 128 ^ suc (suc n) ≡ 128 * 128 ^ suc n = pow-suc 128 (suc n)
    ∙ mul_comm (128 ^ suc n) 128 in
    ⊎_elim
    (λ low. subst (AreDigits (suc n) v) (sym (digits-low (suc n) v low))
    (AreDigits-last (suc n) v low))
    (λ high. subst (AreDigits (suc n) v) (sym (digits-high n v high))
    (AreDigits-more n v _ high (AreDigits-digits n (v / 128) (omega arith))))
    (cases_lt v 128)

-- a number from 128 ^ k on and below 128 ^ (k + 1) has k + 1 digits
pub length-digits : (n k v : ℕ) → k ≤ n → (0 < k → 128 ^ k ≤ v) → v < 128 ^ suc k
    → length (digits n v) ≡ suc k
length-digits zero zero v le low high = refl
length-digits zero (suc k) v le low high = absurd (omega arith)
length-digits (suc n) zero v le low high = ap length (digits-low (suc n) v high)
length-digits (suc n) (suc k) v le low high =
    let shift : 128 ^ suc (suc k) ≡ 128 * 128 ^ suc k = pow-suc 128 (suc k)
    ∙ mul_comm (128 ^ suc k) 128 in
    let shift_less : 128 ^ suc k ≡ 128 * 128 ^ k = pow-suc 128 k ∙ mul_comm (128 ^ k) 128 in
    let least : 128 * 128 ^ k ≤ v = omega (arith, low (omega arith)) in
    let some : 1 ≤ 128 ^ k = pow-le-pow_right (omega arith) {i = 0} (omega arith) in
    ap length (digits-high n v (omega arith))
    ∙ ap suc (length-digits n k (v / 128) (omega arith) (λ positive. omega arith) (omega arith))

-- ---- the shortest spelling

-- a number of 64 bits is written by its digits
pub shortest_varint-digits : (v : ℕ) → v < 2 ^ 64 → shortest_varint v ≡ digits 9 v
unfolding shortest_varint
shortest_varint-digits v h = rw (lt-ltb v (2 ^ 64) h)

-- the shortest spelling is a spelling
pub IsSpelling-shortest_varint : (v : ℕ) → v < 2 ^ 64 → IsSpelling v (shortest_varint v)
IsSpelling-shortest_varint v h =
    let spelled = AreDigits-digits 9 v (omega arith) in
    rw shortest_varint-digits
    (record { ended = spelled.ended; at_most_ten = spelled.short; value = spelled.value; fits = h })

-- how long the shortest spelling is
pub length-shortest_varint : (k v : ℕ) → v < 2 ^ 64 → k ≤ 9 → (0 < k → 128 ^ k ≤ v)
    → v < 128 ^ suc k → length (shortest_varint v) ≡ suc k
length-shortest_varint k v fits le low high = ap length (shortest_varint-digits v fits)
    ∙ length-digits 9 k v le low high

-- digits are no more than the bytes of any text of the number
pub digits_at_most : (n : ℕ) (t : List ℕ) → IsEnded t
    → length (digits n (varint_value t)) ≤ length t
digits_at_most n [] h = absurd h
digits_at_most zero (b ∷ t) h = omega arith
digits_at_most (suc n) (b ∷ []) h =
    rw (digits-low (suc n) (b % 128 + 128 * 0) (omega arith)) (omega arith)
digits_at_most (suc n) (b ∷ c ∷ t) h =
    let v = varint_value (b ∷ c ∷ t) in
    let later : v / 128 ≡ varint_value (c ∷ t) = omega arith in
    ⊎_elim
    (λ low. rw (digits-low (suc n) v low) (omega arith))
    (λ high. rw (digits-high n v high, later) (omega (arith, digits_at_most n (c ∷ t) h.1)))
    (cases_lt v 128)

-- a text with no byte more than the digits has the very digits
pub digits_of_least : (n : ℕ) (t : List ℕ) → IsEnded t → All (λ b. b < 256) t
    → length t ≤ length (digits n (varint_value t)) → t ≡ digits n (varint_value t)
digits_of_least n [] h all le = absurd h
digits_of_least n (b ∷ []) h all le =
    let same : b % 128 + 128 * 0 ≡ b = omega arith in
    rw (same, digits-low n b h) refl
digits_of_least zero (b ∷ c ∷ t) h all le = absurd (omega arith)
digits_of_least (suc n) (b ∷ c ∷ t) h all le =
    let v = varint_value (b ∷ c ∷ t) in
    let later : v / 128 ≡ varint_value (c ∷ t) = omega arith in
    ⊎_elim
    (λ low. let one : length (digits (suc n) v) ≡ 1 = ap length
    (digits-low (suc n) v low) in absurd (omega arith))
    (λ high. let split : digits (suc n) v ≡ (v % 128 + 128) ∷ digits n
    (varint_value (c ∷ t)) = digits-high n v high ∙ ap (λ w. (v % 128 + 128) ∷ digits n w) later in
    let first : b ≡ v % 128 + 128 = omega (arith, All-head (λ x. x < 256) b (c ∷ t) all, h.0) in
    let others = digits_of_least n (c ∷ t) h.1 (All-tail (λ x. x < 256) b (c ∷ t) all)
    (omega (arith, ap length split)) in
    ap₂ (λ x xs. x ∷ xs) first others ∙ sym split)
    (cases_lt v 128)

-- no spelling is shorter
pub shortest_at_most : (t : List ℕ) (v : ℕ) → IsSpelling v t → length (shortest_varint v) ≤ length t
shortest_at_most t v h =
    subst (λ w. length (shortest_varint w) ≤ length t) h.value
    (rw (shortest_varint-digits (varint_value t) (subst (λ w. w < 2 ^ 64) (sym h.value) h.fits))
    (digits_at_most 9 t h.ended))

-- no other spelling is as short
pub shortest_of_least : (t : List ℕ) (v : ℕ) → IsSpelling v t → All (λ b. b < 256) t
    → length t ≡ length (shortest_varint v) → t ≡ shortest_varint v
shortest_of_least t v h all same =
    let written : shortest_varint v ≡ digits 9 (varint_value t) = shortest_varint-digits v h.fits
    ∙ ap (digits 9) (sym h.value) in
    digits_of_least 9 t h.ended all (omega (arith, ap length written)) ∙ sym written

-- ---- readings and faults

-- two readings of the same bytes are one
pub record SameVarint (t u old_rest new_rest : List ℕ) (v w : ℕ) : Type 0 where
  pub text : t ≡ u
  pub value : v ≡ w
  pub rest : old_rest ≡ new_rest

-- two varints at the front of one list are one
pub same_varint : (bytes r s : List ℕ) (v w : ℕ) (p : Reads bytes (IsSpelling v) r)
    (q : Reads bytes (IsSpelling w) s)
    → SameVarint p.text q.text r s v w
same_varint bytes r s v w p q =
    let same = one_ended p.text q.text r s p.spelled.ended q.spelled.ended (sym p.parts
    ∙ q.parts) in
    record {
      text = same.0;
      value = sym p.spelled.value ∙ ap varint_value same.0
          ∙ q.spelled.value;
      rest = same.1;
    }

-- behind nine digits the value counts 2 ^ 63 times
pub varint_value-tenth : (front t : List ℕ) (tenth : ℕ) → length front ≡ 9 → t ≡ front ++ tenth ∷ []
    → tenth < 128 → varint_value t ≡ varint_value front + 2 ^ 63 * tenth
varint_value-tenth front t tenth nine e low =
    let last : varint_value t ≡ varint_value front + 128 ^ 9 * varint_value (tenth ∷ []) =
    ap varint_value e
    ∙ varint_value-append front (tenth ∷ [])
    ∙ ap (λ n. varint_value front + 128 ^ n * varint_value (tenth ∷ [])) nine in
    omega arith

-- a tenth byte of 2 or more ends no varint
beyond_ten : (front more t : List ℕ) (tenth : ℕ) (after rest : List ℕ) → t ≡ front ++ more
    → length front ≡ 9 → IsEnded more → tenth ∷ after ≡ more ++ rest
    → 2 ≤ tenth → length t ≤ 10 → varint_value t < 2 ^ 64 → ⊥
beyond_ten front [] t tenth after rest e nine h same big short fits = h
beyond_ten front (y ∷ []) t tenth after rest e nine h same big short fits =
    let first : tenth ≡ y = cc in
    omega (arith, varint_value-tenth front t y nine e h)
beyond_ten front (y ∷ z ∷ more) t tenth after rest e nine h same big short fits =
    omega (arith, ap length e ∙ length-append front (y ∷ z ∷ more))

-- no varint stands where a fault does
pub no_reading_beside_fault : (bytes rest : List ℕ) (v : ℕ) (e : DecodeError)
    → Reads bytes (IsSpelling v) rest → VarintFault bytes e → ⊥
no_reading_beside_fault bytes rest v e p (cut_short all short) =
    continued_not_ended p.text rest (subst AllContinue p.parts all) p.spelled.ended
no_reading_beside_fault bytes rest v e p (too_long front tenth after parts all nine big) =
    let past = past_continued front p.text rest (tenth ∷ after) all p.spelled.ended (sym p.parts
    ∙ parts) in
    beyond_ten front past.0 p.text tenth after rest past.1 nine past.2 past.3 big
    p.spelled.at_most_ten (subst (λ w. w < 2 ^ 64) (sym p.spelled.value) p.spelled.fits)

-- one list is not both too short and long enough for ten bytes
ten_not_short : (bytes front : List ℕ) (tenth : ℕ) (rest : List ℕ) → length bytes < 10
    → bytes ≡ front ++ tenth ∷ rest → length front ≡ 9 → ⊥
ten_not_short bytes front tenth rest short e nine =
    omega (arith, ap length e ∙ length-append front (tenth ∷ rest))

pub one_varint_fault_lemma : OneVarintFault
one_varint_fault_lemma bytes e f (cut_short all short) (cut_short all2 short2) = refl
one_varint_fault_lemma bytes e f (cut_short all short)
    (too_long front tenth rest parts all2 nine big) = absurd
    (ten_not_short bytes front tenth rest short parts nine)
one_varint_fault_lemma bytes e f (too_long front tenth rest parts all2 nine big)
    (cut_short all short) = absurd (ten_not_short bytes front tenth rest short parts nine)
one_varint_fault_lemma bytes e f (too_long front tenth rest parts all2 nine big)
    (too_long front2 tenth2 rest2 parts2 all3 nine2 big2) = refl

-- ---- a reading or a fault always stands

-- what the first n bytes of a list are
data Scanned (n : ℕ) (bytes : List ℕ) : Type 0 where
  ends : (t rest : List ℕ) → bytes ≡ t ++ rest → IsEnded t → length t ≤ n → Scanned n bytes
  runs_out : AllContinue bytes → length bytes ≤ n → Scanned n bytes
  goes_on : (front : List ℕ) (next : ℕ) (rest : List ℕ) → bytes ≡ front ++ next ∷ rest
      → AllContinue front → length front ≡ n → Scanned n bytes

-- one byte more at the front
scanned_more : (n b : ℕ) (bs : List ℕ) → (b < 128) ⊎ (128 ≤ b) → Scanned n bs
    → Scanned (suc n) (b ∷ bs)
scanned_more n b bs (inl low) s = ends (b ∷ []) bs refl low (omega arith)
scanned_more n b bs (inr high) (ends t rest e h le) =
    ends (b ∷ t) rest (ap (λ l. b ∷ l) e) (IsEnded-append (b ∷ []) t (high, tt) h) (omega arith)
scanned_more n b bs (inr high) (runs_out all le) = runs_out (high, all) (omega arith)
scanned_more n b bs (inr high) (goes_on front next rest e all same) =
    goes_on (b ∷ front) next rest (ap (λ l. b ∷ l) e) (high, all) (omega arith)

-- the first n bytes of a list
scan : (n : ℕ) (bytes : List ℕ) → Scanned n bytes
scan n [] = runs_out tt (omega arith)
scan zero (b ∷ bs) = goes_on [] b bs refl tt refl
scan (suc n) (b ∷ bs) = scanned_more n b bs (cases_lt b 128) (scan n bs)

-- a varint's text of nine bytes or fewer has a value of 63 bits
pub IsSpelling-nine : (t : List ℕ) → IsEnded t → length t ≤ 9 → IsSpelling (varint_value t) t
IsSpelling-nine t h short =
    record {
      ended = h;
      at_most_ten = omega arith;
      value = refl;
      fits = lt_of_lt_of_le
          (varint_value-below t) (le_trans (pow-le-pow_right (omega arith) short) (omega arith));
    }

-- ten bytes, of which the last is 0 or 1, are a varint
pub IsSpelling-ten : (front : List ℕ) (tenth : ℕ) → AllContinue front → length front ≡ 9 → tenth < 2
    → IsSpelling (varint_value (front ++ tenth ∷ [])) (front ++ tenth ∷ [])
IsSpelling-ten front tenth all nine low = record {
  ended = IsEnded-append front (tenth ∷ []) all (omega arith);
  at_most_ten = omega (arith, length-append front (tenth ∷ []));
  value = refl;
  fits = omega (
    arith,
    varint_value-tenth front (front ++ tenth ∷ []) tenth nine refl (omega arith),
    subst
        (λ n. varint_value front < 128 ^ n) nine (varint_value-below front),
  );
}

-- what the first nine bytes tell
from_scanned : (bytes : List ℕ) → Scanned 9 bytes → VarintOrFault bytes
from_scanned bytes (ends t rest e h le) =
    inl (varint_value t, rest, record { text = t; parts = e; spelled = IsSpelling-nine t h le })
from_scanned bytes (runs_out all le) = inr (UnexpectedEof, cut_short all (omega arith))
from_scanned bytes (goes_on front next rest e all nine) =
    ⊎_elim
    (λ low. inl (
      varint_value (front ++ next ∷ []),
      rest,
      record {
        text = front ++ next ∷ [];
        parts = e
            ∙ sym (append_assoc front
            (next ∷ []) rest);
        spelled = IsSpelling-ten front next all nine low;
      },
    ))
    (λ high. inr (VarintTooLong, too_long front next rest e all nine high))
    (cases_lt next 2)

pub varint_or_fault_lemma : (bytes : List ℕ) → VarintOrFault bytes
varint_or_fault_lemma bytes = from_scanned bytes (scan 9 bytes)

-- ---- the laws

pub shortest_reads_back_lemma : ShortestReadsBack
shortest_reads_back_lemma v rest fits =
    record { text = shortest_varint v; parts = refl; spelled = IsSpelling-shortest_varint v fits }

pub no_spelling_begins_another_lemma : NoSpellingBeginsAnother
no_spelling_begins_another_lemma t more v u h k = nil_after_ended t more h.ended k.ended

pub one_varint_lemma : OneVarint
one_varint_lemma bytes rest rest2 v w p q =
    let same = same_varint bytes rest rest2 v w p q in (same.value, same.rest)

pub no_varint_beside_fault_lemma : NoVarintBesideFault
no_varint_beside_fault_lemma = no_reading_beside_fault

pub no_spelling_is_shorter_lemma : NoSpellingIsShorter
no_spelling_is_shorter_lemma t v h = (shortest_at_most t v h, shortest_of_least t v h)

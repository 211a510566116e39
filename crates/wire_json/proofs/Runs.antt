-- Characters that stand in a string as they are, by the bytes of their run.
use Rattle.std.proofs.Common.{◌≡◌, ◌≢◌, ℕ, ◌+◌, ◌-◌, ◌<◌, ◌≤◌, Bool, true, false, cond, ◌&&◌, List, [], ◌∷◌, ◌++◌, length, take, drop, get_or, refl, sym, ap, ◌∙◌, subst, inl, inr, ◌⊎◌, append_assoc, take-append-drop, arith, length-append, length-drop}
use Rattle.std.proofs.lemmas.Bool.{cases_lt}
use Rattle.std.proofs.lemmas.Bool.Decides.{nat_tests}
use Rattle.std.proofs.lemmas.List.{append_cancel_right, drop-drop, drop-append-le, take-append-le, length-take-le}
use Rattle.std.proofs.Math.Seq.{get_or-append_seam, take-append_seam, take-append-add}
use Rattle.std.proofs.lemmas.Str.{encode_ascii, IsUtf8-append, IsUtf8-encode, inside_one, char_from_byte, length-encode, len_utf8_bounds}
use Rattle.std.specs.Prelude.{IsUtf8, encode_utf8, encode_utf8_all}
use Rattle.std.specs.Char.{IsScalar}
use lib.Utf8.{scalar}
use Rattle.std.specs.List.{AllByRecursion}
use Rattle.std.specs.Str.{IsValidUpTo, all_scalars}
use Rattle.wire_json.specs.declared.fault.FaultKind.{FaultKind}
use Rattle.wire_json.specs.declared.fault.FaultKind.TheVariants.{Syntax}
use Rattle.wire_json.specs.Bytes.{begins, is_byte, past}
use Rattle.wire_json.specs.Fault.{CharsFault, no_char, past_char}
use Rattle.wire_json.specs.Part.{is_plain, ReadsRun}
use Rattle.wire_json.specs.Text.{IsUnescaped, ReadsUnescaped}

-- each byte is plain
abbrev pub Plain : List ℕ → Type 0
Plain = AllByRecursion (λ b. is_plain b ≡ true)

pub plain_no_control : (b : ℕ) → is_plain b ≡ true → 32 ≤ b
plain_no_control b h = grind (arith, nat_tests)

pub plain_no_quote : (b : ℕ) → is_plain b ≡ true → b ≢ 34
plain_no_quote b h = grind (arith, nat_tests)

pub plain_no_backslash : (b : ℕ) → is_plain b ≡ true → b ≢ 92
plain_no_backslash b h = grind (arith, nat_tests)

pub unescaped_plain : (b : ℕ) → IsUnescaped b → is_plain b ≡ true
unescaped_plain b h = grind (arith, nat_tests)

not_plain_ascii : (b : ℕ) → is_plain b ≡ false → b < 128
not_plain_ascii b h = grind (arith, nat_tests)

plain_by : (test : Bool) (b : ℕ) (old : List ℕ) → is_plain b ≡ test
    → ((run : List ℕ) × Plain run × (old ≡ run ++ past is_plain old))
    → (run : List ℕ) × Plain run
    × (b ∷ old ≡ run ++ cond test (past is_plain old) (b ∷ old))
plain_by true b old is (run, plain, parts) = (b ∷ run, (is, plain), ap (λ l. b ∷ l) parts)
plain_by false b old is front = ([], tt, refl)

-- the plain bytes at the front
plain_front : (old : List ℕ) → (run : List ℕ) × Plain run × (old ≡ run ++ past is_plain old)
plain_front [] = ([], tt, refl)
plain_front (b ∷ old) = plain_by (is_plain b) b old refl (plain_front old)

-- what stands between two places, and behind the second
pub between_places : (text : List ℕ) (at end : ℕ) → at ≤ end
    → drop at text ≡ take (end - at) (drop at text) ++ drop end text
between_places text at end order =
    let e : at + (end - at) ≡ end = omega arith in
    sym (ap (λ (l : List ℕ). take (end - at) (drop at text) ++ l)
    (ap (λ (n : ℕ). drop n text) (sym e) ∙ sym (drop-drop (end - at) at text))
    ∙ take-append-drop (end - at) (drop at text))

pub slice_plain : (text : List ℕ) (at end : ℕ) → at ≤ end
    → drop end text ≡ past is_plain (drop at text) → Plain (take (end - at) (drop at text))
slice_plain text at end order stops =
    let (run, plain, parts) = plain_front (drop at text) in
    let same : take (end - at) (drop at text) ≡ run =
    append_cancel_right (take (end - at) (drop at text)) run (drop end text)
    (sym (between_places text at end order) ∙ parts ∙ ap (λ (l : List ℕ). run ++ l) (sym stops)) in
    subst Plain (sym same) plain

plain_left : (xs ys : List ℕ) → Plain (xs ++ ys) → Plain xs
plain_left [] ys h = tt
plain_left (x ∷ xs) ys (h, hs) = (h, plain_left xs ys hs)

plain_right : (xs ys : List ℕ) → Plain (xs ++ ys) → Plain ys
plain_right [] ys h = h
plain_right (x ∷ xs) ys (h, hs) = plain_right xs ys hs

unescaped_by : (c : ℕ) → IsScalar c → Plain (encode_utf8 c) → (c < 128) ⊎ (128 ≤ c)
    → IsUnescaped c
unescaped_by c scalar plain (inl low) =
    let one : Plain (c ∷ []) = subst Plain (encode_ascii c low) plain in
    record {
      scalar = scalar;
      no_control = plain_no_control c one.0;
      no_quote = plain_no_quote c one.0;
      no_backslash = plain_no_backslash c one.0;
    }
unescaped_by c scalar plain (inr high) = record {
  scalar = scalar;
  no_control = omega arith;
  no_quote = omega arith;
  no_backslash = omega arith;
}

pub both : (a b : Bool) → (a && b) ≡ true → (a ≡ true) × (b ≡ true)
both true b h = (refl, h)
both false b h = absurd cc

-- characters whose bytes are plain
pub unescaped_chars : (cs : List ℕ) → all_scalars cs ≡ true → Plain (encode_utf8_all cs)
    → AllByRecursion IsUnescaped cs
unescaped_chars [] scalars plain = tt
unescaped_chars (c ∷ cs) scalars plain =
    let (one, others) = both (scalar c) (all_scalars cs) scalars in (
      unescaped_by c one (plain_left (encode_utf8 c) (encode_utf8_all cs) plain) (cases_lt c 128),
      unescaped_chars cs others (plain_right (encode_utf8 c) (encode_utf8_all cs) plain),
    )

-- a text of plain bytes is a run
pub plain_run : (run old new : List ℕ) → Plain run → IsUtf8 run → old ≡ run ++ new
    → ReadsRun run old new
plain_run run old new plain (cs, (scalars, is)) parts = record {
  chars = cs;
  each = unescaped_chars cs scalars (subst Plain (sym is) plain);
  run_is = is;
  plain = plain;
  parts = parts;
}

-- a fault behind characters
pub past_chars : (cs : List ℕ) → AllByRecursion IsUnescaped cs → (rest : List ℕ) (k : FaultKind)
    (left : List ℕ) → CharsFault rest k left → CharsFault (encode_utf8_all cs ++ rest) k left
past_chars [] each rest k left h = h
past_chars (c ∷ cs) (one, others) rest k left h =
    past_char c (encode_utf8_all cs ++ rest)
    (inl (record {
      unescaped = one;
      parts = append_assoc (encode_utf8 c) (encode_utf8_all cs) rest;
    })) (past_chars cs others rest k left h)

pub past_run : (run old rest : List ℕ) (k : FaultKind) (left : List ℕ) → ReadsRun run old rest
    → CharsFault rest k left → CharsFault old k left
past_run run old rest k left r h =
    let P : List ℕ → Type 0 = λ l. CharsFault l k left in
    subst P (sym (r.parts ∙ ap (λ (l : List ℕ). l ++ rest) (sym r.run_is)))
    (past_chars r.chars r.each rest k left h)

-- ---- where the bytes are no UTF-8

other_byte : (x b : ℕ) → is_plain x ≡ true → is_plain b ≡ false → is_byte b x ≡ false
other_byte x b plain other = grind (arith, nat_tests)

not_of_run : (c : ℕ) (r tail new : List ℕ) → begins is_plain tail ≡ false
    → r ++ tail ≡ encode_utf8 c ++ new → IsUnescaped c → length r < length (encode_utf8 c) → ⊥
not_of_run c r [] new stops parts u short =
    let long : length (r ++ []) ≡ length (encode_utf8 c ++ new) = ap length parts in
    absurd (omega (arith, long, length-append r [], length-append (encode_utf8 c) new))
not_of_run c r (t ∷ tail) new stops parts u short =
    let here : get_or (r ++ t ∷ tail) (length r) 0 ≡ t = get_or-append_seam r t tail 0 in
    let is : c ≡ t = inside_one c new (r ++ t ∷ tail) (length r) parts short
    (rw here (not_plain_ascii t stops)) ∙ here in
    let plain : is_plain t ≡ true =
    subst (λ (b : ℕ). is_plain b ≡ true) is (unescaped_plain c u) in
    let P : ℕ → Type 0 = λ b. is_plain b ≡ true in
    let plain : is_plain t ≡ true = subst P is (unescaped_plain c u) in
    absurd cc

-- no character stands behind the longest front that is UTF-8
module _ (s tail : List ℕ) (n : ℕ) (valid : IsValidUpTo s n) (stops : begins is_plain tail ≡ false)
  where
    longer : (c : ℕ) (new : List ℕ) → IsScalar c → drop n s ++ tail ≡ encode_utf8 c ++ new
        → length (encode_utf8 c) ≤ length (drop n s) → ⊥
    longer c new scalar parts fits =
        let k = length (encode_utf8 c) in
        let front = take n s in
        let r = drop n s in
        let char : take k r ≡ encode_utf8 c =
        sym (take-append-le k r tail fits) ∙ ap (λ (l : List ℕ). take k l) parts
        ∙ take-append_seam (encode_utf8 c) new in
        let more : take (length front + k) s ≡ front ++ encode_utf8 c =
        ap (λ (l : List ℕ). take (length front + k) l) (sym (take-append-drop n s))
        ∙ take-append-add front r k ∙ ap (λ (l : List ℕ). front ++ l) char in
        let some : 1 ≤ k =
        omega (arith, length-encode c, (len_utf8_bounds c).0) in
        valid.longest (length front + k) (omega (arith, length-take-le n s (omega (arith, valid.short)), some))
        (subst IsUtf8 (sym more)
        (IsUtf8-append front (encode_utf8 c) valid.front (IsUtf8-encode c scalar)))

    no_char_behind : (c : ℕ) (new : List ℕ) → ReadsUnescaped c (drop n s ++ tail) new → ⊥
    no_char_behind c new h =
        elim (cases_lt (length (drop n s)) (length (encode_utf8 c))) [
          | inl short ↦ not_of_run c (drop n s) tail new stops h.parts h.unescaped short
          | inr fits ↦ longer c new h.unescaped.scalar h.parts fits
        ]

    -- the first of the bytes behind it is plain
    first_plain : (r : List ℕ) → Plain r → 0 < length r → (b : ℕ)
        → is_plain b ≡ false → begins (is_byte b) (r ++ tail) ≡ false
    first_plain [] plain some b is = absurd (omega arith)
    first_plain (x ∷ r) (one, others) some b is = other_byte x b one is

    pub invalid_fault : Plain s → CharsFault (s ++ tail) Syntax (drop n s ++ tail)
    invalid_fault plain =
        let front = take n s in
        let r = drop n s in
        let parts : front ++ r ≡ s = take-append-drop n s in
        let both_plain : Plain (front ++ r) = subst Plain (sym parts) plain in
        let some : 0 < length r = omega (arith, length-drop n s, valid.short) in
        let rest_plain = plain_right front r both_plain in
        past_run front (s ++ tail) (r ++ tail) Syntax (r ++ tail)
        (plain_run front (s ++ tail) (r ++ tail) (plain_left front r both_plain) valid.front
        (ap (λ (l : List ℕ). l ++ tail) (sym parts) ∙ append_assoc front r tail))
        (no_char (first_plain r rest_plain some 34 refl) (first_plain r rest_plain some 92 refl)
        no_char_behind)

stops_by : (test : Bool) (p : ℕ → Bool) (b : ℕ) (old : List ℕ) → p b ≡ test
    → begins p (past p old) ≡ false → begins p (cond test (past p old) (b ∷ old)) ≡ false
stops_by true p b old is h = h
stops_by false p b old is h = is

-- what is passed over ends where the test fails
pub past_stops : (p : ℕ → Bool) (old : List ℕ) → begins p (past p old) ≡ false
past_stops p [] = refl
past_stops p (b ∷ old) = stops_by (p b) p b old refl (past_stops p old)

pub invalid_at : (text : List ℕ) (at end valid : ℕ) → at ≤ end
    → drop end text ≡ past is_plain (drop at text)
    → IsValidUpTo (take (end - at) (drop at text)) valid
    → CharsFault (drop at text) Syntax (drop (at + valid) text)
invalid_at text at end valid order stops h =
    let s = take (end - at) (drop at text) in
    let tail = drop end text in
    let ended : begins is_plain tail ≡ false =
    ap (begins is_plain) stops ∙ past_stops is_plain (drop at text) in
    let parts : s ++ tail ≡ drop at text = sym (between_places text at end order) in
    let left : drop valid s ++ tail ≡ drop (at + valid) text =
    sym (drop-append-le valid s tail (omega (arith, h.short)))
    ∙ ap (λ (l : List ℕ). drop valid l) parts ∙ drop-drop valid at text in
    let P : List ℕ → List ℕ → Type 0 = λ old here. CharsFault old Syntax here in
    subst (λ (old : List ℕ). P old (drop (at + valid) text)) parts
    (subst (λ (here : List ℕ). P (s ++ tail) here) left
    (invalid_fault s tail valid h ended (slice_plain text at end order stops)))

-- neither a plain byte nor a mark that ends a part
pub stopped : (rest : List ℕ) → begins is_plain rest ≡ false → begins (is_byte 34) rest ≡ false
    → begins (is_byte 92) rest ≡ false → CharsFault rest Syntax rest
stopped [] plain quote backslash =
    no_char refl refl (λ c new h.
    let none : length (encode_utf8 c ++ new) ≡ 0 = sym (ap length h.parts) in
    absurd (omega (arith, none, length-append (encode_utf8 c) new, length-encode c, (len_utf8_bounds c).0)))
stopped (b ∷ rest) plain quote backslash =
    no_char quote backslash (λ c new h.
    let is : c ≡ b = char_from_byte (b ∷ rest) new c h.parts (not_plain_ascii b plain)
    (omega arith) in
    let P : ℕ → Type 0 = λ x. is_plain x ≡ true in
    let other : is_plain b ≡ true = subst P is (unescaped_plain c h.unescaped) in
    absurd cc)

-- the same behind a run
pub stopped_at : (run old rest : List ℕ) → ReadsRun run old rest → rest ≡ past is_plain old
    → begins (is_byte 34) rest ≡ false → begins (is_byte 92) rest ≡ false
    → CharsFault old Syntax rest
stopped_at run old rest r is quote backslash =
    past_run run old rest Syntax rest r
    (stopped rest (ap (begins is_plain) is ∙ past_stops is_plain old) quote backslash)

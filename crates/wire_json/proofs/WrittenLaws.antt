-- The compact text of a value is read as that value.
use Rattle.std.proofs.Common.{◌≡◌, ◌≢◌, ◌⊎◌, inl, inr, ℕ, suc, ◌*◌, ◌+◌, ◌/◌, ◌%◌, ◌<◌, ◌≤◌, Bool, true, false, eqb, ltb, List, [], ◌∷◌, ◌++◌, length, get_or, Ok, refl, sym, ap, ◌∙◌, subst, append_assoc, append-nil, arith}
use Rattle.std.proofs.lemmas.Bool.{cases_lt}
use Rattle.std.proofs.lemmas.Bool.Decides.{nat_tests, eqb_tells}
use Rattle.std.proofs.lemmas.Str.{encode_ascii, inside_one, digit_value-digit_char}
use Rattle.std.specs.Char.{IsScalar, digit_char, digit_value, is_ascii_digit}
use Rattle.std.specs.Char.Utf16.{is_high_surrogate, is_low_surrogate}
use Rattle.std.specs.Prelude.{IsUtf8, encode_utf8, encode_utf8_all}
use Rattle.std.specs.Str.{all_scalars}
use lib.Utf8.{scalar}
use Rattle.wire_json.specs.Bytes.{begins, is_byte, is_space, past_space}
use Rattle.wire_json.specs.Json.{Json, null, boolean, number, string, array, object, Elements, no_element, element, Members, no_member, member, IsLawful, AreLawful, AreLawfulMembers}
use Rattle.wire_json.specs.Laws.{WrittenReadsBack, WrittenSpells}
use Rattle.wire_json.specs.Number.{is_of_number, number_end}
use Rattle.wire_json.specs.Part.{is_plain}
use Rattle.wire_json.specs.Reading.{ReadsValue, ReadsElements, ReadsMoreElements, ReadsMembers, ReadsMoreMembers}
use Rattle.wire_json.specs.Text.{ReadsChar, ReadsChars, ReadsEscape, ReadsName, ReadsString, character_of, escape_at, hex_at, is_hex_digit, unit_at}
use Rattle.wire_json.specs.Written.{written, written_byte, written_bytes, written_string, written_name, written_elements, written_more, written_members, written_more_members}
use Rattle.wire_json.proofs.NumberTexts.{number_behind}
use Rattle.wire_json.proofs.OneReading.{number_first}
use Rattle.wire_json.proofs.Runs.{Plain, both, plain_no_backslash, plain_no_control, plain_no_quote}
use Rattle.wire_json.proofs.Steps.{bind_ok}
use Rattle.wire_json.proofs.Writing.{plain_as_it_is, plain_written, written-append}

-- ---- characters

high_plain : (b : ℕ) → 128 ≤ b → is_plain b ≡ true
high_plain b h = grind (arith, nat_tests)

plain_by_place : (l : List ℕ) → ((k : ℕ) → k < length l → 128 ≤ get_or l k 0) → Plain l
plain_by_place [] h = tt
plain_by_place (b ∷ l) h = (
  high_plain b (h 0 (omega arith)),
  plain_by_place l (λ k below. h (suc k) (omega arith)),
)

-- the bytes of a character beyond ASCII
encoded_plain : (c : ℕ) → 128 ≤ c → Plain (encode_utf8 c)
encoded_plain c high =
    plain_by_place (encode_utf8 c) (λ k below.
    elim (cases_lt (get_or (encode_utf8 c) k 0) 128) [
      | inl low ↦ (let is : c ≡ get_or (encode_utf8 c) k 0 =
          inside_one c [] (encode_utf8 c) k (sym (append-nil (encode_utf8 c))) below low in
          omega (arith, is, low, high))
      | inr more ↦ more
    ])

escape_is : (c : ℕ) (old new : List ℕ) → begins (is_byte 92) old ≡ true → escape_at old ≡ Ok (c, new)
    → ReadsEscape c old new
escape_is c old new backslash escape = record { backslash = backslash; escape = escape }

hex_more : (n d : ℕ) (more : List ℕ) → digit_value d < 16
    → hex_at (n, d ∷ more) ≡ Ok (n * 16 + digit_value d, more)
hex_more n d more h =
    let test : is_hex_digit d ≡ true = grind (arith, nat_tests) in
    rw test refl

no_high : (c : ℕ) → c < 32 → is_high_surrogate c ≡ false
no_high c h = grind (arith, nat_tests)

no_low : (c : ℕ) → c < 32 → is_low_surrogate c ≡ false
no_low c h = grind (arith, nat_tests)

-- `\u00` and two digits
control_escape : (c : ℕ) (more : List ℕ) → c < 32
    → escape_at (92 ∷ 117 ∷ 48 ∷ 48 ∷ digit_char (c / 16) ∷ digit_char (c % 16) ∷ more)
    ≡ Ok (c, more)
control_escape c more low =
    let high_digit = digit_value-digit_char (c / 16) (omega arith) in
    let low_digit = digit_value-digit_char (c % 16) (omega arith) in
    let h = digit_char (c / 16) in
    let l = digit_char (c % 16) in
    let first : hex_at (0, h ∷ l ∷ more) ≡ Ok (0 * 16 + digit_value h, l ∷ more) =
    hex_more 0 h (l ∷ more) (omega (arith, high_digit)) in
    let second : hex_at (0 * 16 + digit_value h, l ∷ more)
    ≡ Ok ((0 * 16 + digit_value h) * 16 + digit_value l, more) =
    hex_more (0 * 16 + digit_value h) l more (omega (arith, low_digit)) in
    let value : (0 * 16 + digit_value h) * 16 + digit_value l ≡ c =
    omega (arith, high_digit, low_digit) in
    let unit : unit_at (92 ∷ 117 ∷ 48 ∷ 48 ∷ h ∷ l ∷ more) ≡ Ok (c, more) =
    bind_ok (hex_at (0, h ∷ l ∷ more)) hex_at _ first ∙ second
    ∙ ap (λ (n : ℕ). Ok (n, more)) value in
    ap (character_of (92 ∷ 117 ∷ 48 ∷ 48 ∷ h ∷ l ∷ more)) unit ∙ rw (no_high c low, no_low c low) refl

-- the text of a byte that is escaped
abbrev EscapedText : ℕ → List ℕ → Type 0
EscapedText c more = ReadsEscape c (written_byte c ++ more) more

-- a character that has a letter of its own
lettered : (c b : ℕ) (more : List ℕ) → c ≡ b → EscapedText b more → EscapedText c more
lettered c b more is h = let P : ℕ → Type 0 = λ x. EscapedText x more in subst P (sym is) h

control_text : (c : ℕ) → eqb c 34 ≡ false → eqb c 92 ≡ false → eqb c 8 ≡ false → eqb c 12 ≡ false
    → eqb c 10 ≡ false → eqb c 13 ≡ false → eqb c 9 ≡ false → ltb c 32 ≡ true
    → written_byte c ≡ 92 ∷ 117 ∷ 48 ∷ 48 ∷ digit_char (c / 16) ∷ digit_char (c % 16) ∷ []
control_text c e34 e92 e8 e12 e10 e13 e9 low = rw (e34, e92, e8, e12, e10, e13, e9, low) refl

by_number : (c : ℕ) (more : List ℕ) → eqb c 34 ≡ false → eqb c 92 ≡ false → eqb c 8 ≡ false
    → eqb c 12 ≡ false → eqb c 10 ≡ false → eqb c 13 ≡ false → eqb c 9 ≡ false → c < 32
    → EscapedText c more
by_number c more e34 e92 e8 e12 e10 e13 e9 low =
    let test : ltb c 32 ≡ true = grind (arith, nat_tests) in
    let is = control_text c e34 e92 e8 e12 e10 e13 e9 test in
    let P : List ℕ → Type 0 = λ l. ReadsEscape c (l ++ more) more in
    subst P (sym is) (escape_is c _ more refl (control_escape c more low))

below_control : (c : ℕ) → is_plain c ≡ false → c ≢ 34 → c ≢ 92 → c < 32
below_control c stops quote backslash = grind (arith, nat_tests)

escaped_low : (c : ℕ) (more : List ℕ) → is_plain c ≡ false → EscapedText c more
escaped_low c more stops =
    elim (eqb_tells c 34) [
      | inl e ↦ lettered c 34 more e.1 (escape_is 34 (92 ∷ 34 ∷ more) more refl refl)
      | inr e34 ↦ elim (eqb_tells c 92) [
        | inl e ↦ lettered c 92 more e.1 (escape_is 92 (92 ∷ 92 ∷ more) more refl refl)
        | inr e92 ↦ elim (eqb_tells c 8) [
          | inl e ↦ lettered c 8 more e.1 (escape_is 8 (92 ∷ 98 ∷ more) more refl refl)
          | inr e8 ↦ elim (eqb_tells c 12) [
            | inl e ↦ lettered c 12 more e.1 (escape_is 12 (92 ∷ 102 ∷ more) more refl refl)
            | inr e12 ↦ elim (eqb_tells c 10) [
              | inl e ↦ lettered c 10 more e.1 (escape_is 10 (92 ∷ 110 ∷ more) more refl refl)
              | inr e10 ↦ elim (eqb_tells c 13) [
                | inl e ↦ lettered c 13 more e.1 (escape_is 13 (92 ∷ 114 ∷ more) more refl refl)
                | inr e13 ↦ elim (eqb_tells c 9) [
                  | inl e ↦ lettered c 9 more e.1 (escape_is 9 (92 ∷ 116 ∷ more) more refl refl)
                  | inr e9 ↦ by_number c more e34.0 e92.0 e8.0 e12.0 e10.0 e13.0 e9.0
                      (below_control c stops e34.1 e92.1)
                ]
              ]
            ]
          ]
        ]
      ]
    ]

low_by : (test : Bool) (c : ℕ) (more : List ℕ) → is_plain c ≡ test → IsScalar c → c < 128
    → ReadsChar c (written_byte c ++ more) more
low_by true c more plain scalar low =
    let parts : written_byte c ++ more ≡ encode_utf8 c ++ more =
    ap (λ (l : List ℕ). l ++ more) (plain_written c plain ∙ sym (encode_ascii c low)) in
    inl (record {
      unescaped = record {
        scalar = scalar;
        no_control = plain_no_control c plain;
        no_quote = plain_no_quote c plain;
        no_backslash = plain_no_backslash c plain;
      };
      parts = parts;
    })
low_by false c more stops scalar low = inr (escaped_low c more stops)

char_by : (c : ℕ) (more : List ℕ) → IsScalar c → (c < 128) ⊎ (128 ≤ c)
    → ReadsChar c (written_bytes (encode_utf8 c) ++ more) more
char_by c more scalar (inl low) =
    let is : written_bytes (encode_utf8 c) ≡ written_byte c =
    ap written_bytes (encode_ascii c low) ∙ append-nil (written_byte c) in
    let P : List ℕ → Type 0 = λ l. ReadsChar c (l ++ more) more in
    subst P (sym is) (low_by (is_plain c) c more refl scalar low)
char_by c more scalar (inr high) =
    inl (record {
      unescaped = record {
        scalar = scalar;
        no_control = omega arith;
        no_quote = omega arith;
        no_backslash = omega arith;
      };
      parts = ap (λ (l : List ℕ). l ++ more) (plain_as_it_is (encode_utf8 c) (encoded_plain c high));
    })

chars_read : (cs : List ℕ) (rest : List ℕ) → all_scalars cs ≡ true
    → ReadsChars cs (written_bytes (encode_utf8_all cs) ++ 34 ∷ rest) rest
chars_read [] rest scalars = refl
chars_read (c ∷ cs) rest scalars =
    let (one, others) = both (scalar c) (all_scalars cs) scalars in
    let more = written_bytes (encode_utf8_all cs) ++ 34 ∷ rest in
    let parts : written_bytes (encode_utf8 c ++ encode_utf8_all cs) ++ 34 ∷ rest
    ≡ written_bytes (encode_utf8 c) ++ more =
    ap (λ (l : List ℕ). l ++ 34 ∷ rest) (written-append (encode_utf8 c) (encode_utf8_all cs))
    ∙ append_assoc (written_bytes (encode_utf8 c)) (written_bytes (encode_utf8_all cs)) (34 ∷ rest) in
    let P : List ℕ → Type 0 = λ l. ReadsChar c l more in (
      more,
      subst P (sym parts) (char_by c more one (cases_lt c 128)),
      chars_read cs rest others,
    )

string_read : (bytes rest : List ℕ) → IsUtf8 bytes
    → ReadsString bytes (written_string bytes ++ rest) rest
string_read bytes rest (cs, (scalars, is)) =
    let inside = (written_bytes bytes ++ 34 ∷ []) ++ rest in
    let parts : inside ≡ written_bytes (encode_utf8_all cs) ++ 34 ∷ rest =
    append_assoc (written_bytes bytes) (34 ∷ []) rest
    ∙ ap (λ (l : List ℕ). written_bytes l ++ 34 ∷ rest) (sym is) in
    let P : List ℕ → Type 0 = λ l. ReadsChars cs l rest in
    record {
      inside = inside;
      opens = refl;
      chars = cs;
      reads = subst P (sym parts) (chars_read cs rest scalars);
      bytes_are = sym is;
    }

name_read : (name value : List ℕ) → IsUtf8 name → past_space value ≡ value
    → ReadsName name (written_name name ++ value) value
name_read name value utf8 here =
    let P : List ℕ → Type 0 = λ l. ReadsString name l (58 ∷ value) in
    record {
      behind = 58 ∷ value;
      reads = subst P (sym (append_assoc (written_string name) (58 ∷ []) value))
          (string_read name (58 ∷ value) utf8);
      value = value;
      colon = refl;
      value_is = sym here;
    }

-- ---- values

minus_no_space : (c : ℕ) → is_byte 45 c ≡ true → is_space c ≡ false
minus_no_space c h = grind (arith, nat_tests)

digit_no_space : (c : ℕ) → is_ascii_digit c ≡ true → is_space c ≡ false
digit_no_space c h = grind (arith, nat_tests)

number_here : (text x : List ℕ) → number_end text ≡ Ok [] → past_space (text ++ x) ≡ text ++ x
number_here [] x h = absurd cc
number_here (c ∷ text) x h =
    let no_space : is_space c ≡ false = elim (number_first c text [] h) [
      | inl minus ↦ minus_no_space c minus
      | inr digit ↦ digit_no_space c digit
    ] in
    rw no_space refl

-- a value begins with no white space
value_here : (j : Json) (x : List ℕ) → IsLawful j → past_space (written j ++ x) ≡ written j ++ x
value_here null x lawful = refl
value_here (boolean true) x lawful = refl
value_here (boolean false) x lawful = refl
value_here (number text) x lawful = number_here text x lawful
value_here (string bytes) x lawful = refl
value_here (array es) x lawful = refl
value_here (object ms) x lawful = refl

-- what stands behind an element or a member is no number
more_apart : (es : Elements) (rest : List ℕ) → begins is_of_number (written_more es ++ rest) ≡ false
more_apart no_element rest = refl
more_apart (element e es) rest = refl

more_members_apart : (ms : Members) (rest : List ℕ)
    → begins is_of_number (written_more_members ms ++ rest) ≡ false
more_members_apart no_member rest = refl
more_members_apart (member name e ms) rest = refl

-- the name of a member, and its value behind it
named : (name : List ℕ) (e : Json) (ms : Members) (rest : List ℕ) → IsUtf8 name → IsLawful e
    → ReadsName name
    (past_space ((written_name name ++ (written e ++ written_more_members ms)) ++ rest))
    (written e ++ (written_more_members ms ++ rest))
named name e ms rest utf8 lawful =
    let more = written_more_members ms in
    let value = written e ++ (more ++ rest) in
    let parts : (written_name name ++ (written e ++ more)) ++ rest ≡ written_name name ++ value =
    append_assoc (written_name name) (written e ++ more) rest
    ∙ ap (λ (l : List ℕ). written_name name ++ l) (append_assoc (written e) more rest) in
    let P : List ℕ → Type 0 = λ l. ReadsName name l value in
    subst P (sym (ap past_space parts))
    (name_read name value utf8 (value_here e (more ++ rest) lawful))

-- an element, where white space could stand before it
element_at : (e : Json) (es : Elements) (rest : List ℕ) → IsLawful e
    → ReadsValue e (written e ++ (written_more es ++ rest)) (written_more es ++ rest)
    → ReadsValue e (past_space ((written e ++ written_more es) ++ rest)) (written_more es ++ rest)
element_at e es rest lawful h =
    let behind = written_more es ++ rest in
    let P : List ℕ → Type 0 = λ l. ReadsValue e l behind in
    subst P (sym (ap past_space (append_assoc (written e) (written_more es) rest)
    ∙ value_here e behind lawful)) h

mutual
  value_read : (j : Json) (rest : List ℕ) → IsLawful j → begins is_of_number rest ≡ false
      → ReadsValue j (written j ++ rest) rest
  value_read null rest lawful apart = refl
  value_read (boolean true) rest lawful apart = refl
  value_read (boolean false) rest lawful apart = refl
  value_read (number text) rest lawful apart =
      record { parts = refl; ends = number_behind text rest lawful apart }
  value_read (string bytes) rest lawful apart = string_read bytes rest lawful
  value_read (array es) rest lawful apart =
      (written_elements es ++ rest, refl, elements_read es rest lawful)
  value_read (object ms) rest lawful apart =
      (written_members ms ++ rest, refl, members_read ms rest lawful)

  elements_read : (es : Elements) (rest : List ℕ) → AreLawful es
      → ReadsElements es (written_elements es ++ rest) rest
  elements_read no_element rest lawful = refl
  elements_read (element e es) rest (one, others) = (
    written_more es ++ rest,
    element_at e es rest one
        (value_read e (written_more es ++ rest) one (more_apart es rest)),
    more_read es rest others,
  )

  more_read : (es : Elements) (rest : List ℕ) → AreLawful es
      → ReadsMoreElements es (written_more es ++ rest) rest
  more_read no_element rest lawful = refl
  more_read (element e es) rest (one, others) = (
    (written e ++ written_more es) ++ rest,
    written_more es ++ rest,
    refl,
    element_at e es rest one
        (value_read e (written_more es ++ rest) one (more_apart es rest)),
    more_read es rest others,
  )

  members_read : (ms : Members) (rest : List ℕ) → AreLawfulMembers ms
      → ReadsMembers ms (written_members ms ++ rest) rest
  members_read no_member rest lawful = refl
  members_read (member name e ms) rest (utf8, one, others) =
      let behind = written_more_members ms ++ rest in (
        written e ++ behind,
        behind,
        named name e ms rest utf8 one,
        value_read e behind one (more_members_apart ms rest),
        more_members_read ms rest others,
      )

  more_members_read : (ms : Members) (rest : List ℕ) → AreLawfulMembers ms
      → ReadsMoreMembers ms (written_more_members ms ++ rest) rest
  more_members_read no_member rest lawful = refl
  more_members_read (member name e ms) rest (utf8, one, others) =
      let behind = written_more_members ms ++ rest in (
        (written_name name ++ (written e ++ written_more_members ms)) ++ rest,
        written e ++ behind,
        behind,
        refl,
        named name e ms rest utf8 one,
        value_read e behind one (more_members_apart ms rest),
        more_members_read ms rest others,
      )

pub written_reads_back_lemma : WrittenReadsBack
written_reads_back_lemma j rest lawful apart = value_read j rest lawful apart

pub written_spells_lemma : WrittenSpells
written_spells_lemma j lawful =
    let P : List ℕ → Type 0 = λ l. ReadsValue j l [] in
    let here : written j ++ [] ≡ past_space (written j) =
    sym (value_here j [] lawful) ∙ ap past_space (append-nil (written j)) in
    ([], subst P here (value_read j [] lawful refl), refl)

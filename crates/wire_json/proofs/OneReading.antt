-- Of the same bytes one value is read.
use Rattle.std.proofs.Common.{◌≡◌, ◌⊎◌, inl, inr, ℕ, ◌<◌, Bool, true, false, List, [], ◌∷◌, ◌++◌, length, get_or, Option, Some, None, Result, Ok, Err, refl, sym, ap, ◌∙◌, subst, arith}
use Rattle.std.proofs.lemmas.Bool.Decides.{nat_tests}
use Rattle.std.proofs.lemmas.List.{append_cancel_right}
use Rattle.std.proofs.lemmas.Str.{char_from_byte, encode_same}
use Rattle.std.specs.Char.{is_ascii_digit}
use Rattle.std.specs.Prelude.{codes, encode_utf8_all}
use Rattle.wire_json.specs.declared.kind.Kind.{Kind}
use Rattle.wire_json.specs.declared.kind.Kind.TheVariants as kinds
use Rattle.wire_json.specs.Bytes.{begins, is_byte, past_space, word_end}
use Rattle.wire_json.specs.Json.{Json, null, boolean, number, string, array, object, Elements, no_element, element, Members, no_member, member}
use Rattle.wire_json.specs.Kind.{kind_by, kind_begun}
use Rattle.wire_json.specs.Laws.{OneValue, SpellsOne}
use Rattle.wire_json.specs.Number.{number_end}
use Rattle.wire_json.specs.Reading.{ReadsValue, ReadsElements, ReadsMoreElements, ReadsMembers, ReadsMoreMembers}
use Rattle.wire_json.specs.Text.{ReadsUnescaped, ReadsChar, ReadsChars, ReadsString, ReadsName}
use Rattle.wire_json.proofs.Scalars.{word_parts}

pub one_ok : {A E : Type 0} (r : Result A E) (x y : A) → r ≡ Ok x → r ≡ Ok y → x ≡ y
one_ok r x y h g = cc

pub ok_or_err : {A E : Type 0} (r : Result A E) (x : A) (e : E) → r ≡ Ok x → r ≡ Err e → ⊥
ok_or_err r x e h g = absurd cc

pub one_head : (m n : ℕ) (old x y : List ℕ) → old ≡ m ∷ x → old ≡ n ∷ y → m ≡ n
one_head m n old x y h g = ap (λ (l : List ℕ). get_or l 0 0) (sym h ∙ g)

pub one_tail : (n : ℕ) (old x y : List ℕ) → old ≡ n ∷ x → old ≡ n ∷ y → x ≡ y
one_tail n old x y h g = cc

-- ---- strings

begun : (b : ℕ) (old : List ℕ) → begins (is_byte b) old ≡ true
    → (get_or old 0 0 ≡ b) × (0 < length old)
begun b [] h = absurd cc
begun b (c ∷ old) h = (grind (arith, nat_tests), omega arith)

-- a character that stands as it is, where a byte of ASCII stands
pub unescaped_byte : (c b : ℕ) (old new : List ℕ) → ReadsUnescaped c old new
    → begins (is_byte b) old ≡ true → b < 128 → c ≡ b
unescaped_byte c b old new h is low =
    let (first, some) = begun b old is in
    char_from_byte old new c h.parts (omega (arith, first)) some ∙ first

pub no_char_at_quote : (c : ℕ) (old new rest : List ℕ) → old ≡ 34 ∷ rest → ReadsChar c old new → ⊥
no_char_at_quote c old new rest quote (inl u) =
    u.unescaped.no_quote (unescaped_byte c 34 old new u (ap (begins (is_byte 34)) quote)
    (omega arith))
no_char_at_quote c old new rest quote (inr e) =
    let other : false ≡ true = sym (ap (begins (is_byte 92)) quote) ∙ e.backslash in
    absurd cc

pub one_char : (c d : ℕ) (old x y : List ℕ) → ReadsChar c old x → ReadsChar d old y
    → (c ≡ d) × (x ≡ y)
one_char c d old x y (inl u) (inl v) = encode_same c d x y (sym u.parts ∙ v.parts)
one_char c d old x y (inl u) (inr e) =
    absurd (u.unescaped.no_backslash (unescaped_byte c 92 old x u e.backslash (omega arith)))
one_char c d old x y (inr e) (inl u) =
    absurd (u.unescaped.no_backslash (unescaped_byte d 92 old y u e.backslash (omega arith)))
one_char c d old x y (inr e) (inr f) =
    let same : (c, x) ≡ (d, y) = one_ok _ (c, x) (d, y) e.escape f.escape in
    (ap (λ (p : ℕ × List ℕ). p.0) same, ap (λ (p : ℕ × List ℕ). p.1) same)

pub one_chars : (cs ds : List ℕ) (old x y : List ℕ) → ReadsChars cs old x → ReadsChars ds old y
    → (cs ≡ ds) × (x ≡ y)
one_chars [] [] old x y h g = (refl, one_tail 34 old x y h g)
one_chars [] (d ∷ ds) old x y h (rest, char, more) =
    absurd (no_char_at_quote d old rest x h char)
one_chars (c ∷ cs) [] old x y (rest, char, more) g =
    absurd (no_char_at_quote c old rest y g char)
one_chars (c ∷ cs) (d ∷ ds) old x y (r, char, more) (s, other, others) =
    let (same, rest) = one_char c d old r s char other in
    let P : List ℕ → Type 0 = λ l. ReadsChars ds l y in
    let (chars, ends) = one_chars cs ds r x y more (subst P (sym rest) others) in
    (cc, ends)

pub one_string : (a b old x y : List ℕ) → ReadsString a old x → ReadsString b old y
    → (a ≡ b) × (x ≡ y)
one_string a b old x y h g =
    let inside = one_tail 34 old h.inside g.inside h.opens g.opens in
    let P : List ℕ → Type 0 = λ l. ReadsChars g.chars l y in
    let (chars, ends) = one_chars h.chars g.chars h.inside x y h.reads
    (subst P (sym inside) g.reads) in
    (h.bytes_are ∙ ap encode_utf8_all chars ∙ sym g.bytes_are, ends)

pub one_name : (a b old x y : List ℕ) → ReadsName a old x → ReadsName b old y
    → (a ≡ b) × (x ≡ y)
one_name a b old x y h g =
    let (name, behind) = one_string a b old h.behind g.behind h.reads g.reads in
    let value = one_tail 58 (past_space g.behind) h.value g.value
    (ap past_space (sym behind) ∙ h.colon) g.colon in
    (name, h.value_is ∙ ap past_space value ∙ sym g.value_is)

-- ---- the kind of a value, by its first byte

-- a number for each kind of tree
abbrev pub shape : Json → ℕ
shape null = 0
shape (boolean b) = 1
shape (number text) = 2
shape (string bytes) = 3
shape (array es) = 4
shape (object ms) = 5

-- the same for what begins here
abbrev pub shape_begun : Option Kind → ℕ
shape_begun None = 6
shape_begun (Some kinds.Null) = 0
shape_begun (Some kinds.True) = 1
shape_begun (Some kinds.False) = 1
shape_begun (Some kinds.Number) = 2
shape_begun (Some kinds.String) = 3
shape_begun (Some kinds.Array) = 4
shape_begun (Some kinds.Object) = 5

pub shape_small : (j : Json) → shape j < 6
shape_small null = omega arith
shape_small (boolean b) = omega arith
shape_small (number text) = omega arith
shape_small (string bytes) = omega arith
shape_small (array es) = omega arith
shape_small (object ms) = omega arith

digit_kind : (c : ℕ) → is_ascii_digit c ≡ true → kind_by c ≡ Some kinds.Number
digit_kind c h = grind (arith, nat_tests)

minus_kind : (c : ℕ) → is_byte 45 c ≡ true → kind_by c ≡ Some kinds.Number
minus_kind c h = grind (arith, nat_tests)

zero_digit : (c : ℕ) → is_byte 48 c ≡ true → is_ascii_digit c ≡ true
zero_digit c h = grind (arith, nat_tests)

first_by : (minus zero digit : Bool) (c : ℕ) (rest new : List ℕ) → is_byte 45 c ≡ minus
    → is_byte 48 c ≡ zero → is_ascii_digit c ≡ digit → number_end (c ∷ rest) ≡ Ok new
    → (is_byte 45 c ≡ true) ⊎ (is_ascii_digit c ≡ true)
first_by true zero digit c rest new m z d h = inl m
first_by false true digit c rest new m z d h = inr (zero_digit c z)
first_by false false true c rest new m z d h = inr d
first_by false false false c rest new m z d h =
    let stuck = rw (m, z, d) at h in
    absurd cc

-- a number begins with a minus sign or a digit
pub number_first : (c : ℕ) (rest new : List ℕ) → number_end (c ∷ rest) ≡ Ok new
    → (is_byte 45 c ≡ true) ⊎ (is_ascii_digit c ≡ true)
number_first c rest new h =
    first_by (is_byte 45 c) (is_byte 48 c) (is_ascii_digit c) c rest new refl refl refl h

pub number_kind : (old new : List ℕ) → number_end old ≡ Ok new
    → kind_begun old ≡ Some kinds.Number
number_kind [] new h = absurd cc
number_kind (c ∷ rest) new h =
    elim (number_first c rest new h) [
      | inl minus ↦ minus_kind c minus
      | inr digit ↦ digit_kind c digit
    ]

pub reads_shape : (j : Json) (old new : List ℕ) → ReadsValue j old new
    → shape_begun (kind_begun old) ≡ shape j
reads_shape null old new h =
    ap (λ (l : List ℕ). shape_begun (kind_begun l)) (word_parts (codes "null") old new h)
reads_shape (boolean true) old new h =
    ap (λ (l : List ℕ). shape_begun (kind_begun l)) (word_parts (codes "true") old new h)
reads_shape (boolean false) old new h =
    ap (λ (l : List ℕ). shape_begun (kind_begun l)) (word_parts (codes "false") old new h)
reads_shape (number text) old new h = ap shape_begun (number_kind old new h.ends)
reads_shape (string bytes) old new h = ap (λ (l : List ℕ). shape_begun (kind_begun l)) h.opens
reads_shape (array es) old new (inside, opens, reads) =
    ap (λ (l : List ℕ). shape_begun (kind_begun l)) opens
reads_shape (object ms) old new (inside, opens, reads) =
    ap (λ (l : List ℕ). shape_begun (kind_begun l)) opens

-- a value does not begin where something else does
pub not_here : (e : Json) (old new here : List ℕ) → ReadsValue e old new → old ≡ here
    → shape_begun (kind_begun here) ≡ 6 → ⊥
not_here e old new here h is none =
    let other : shape e ≡ 6 = sym (reads_shape e old new h)
    ∙ ap (λ (l : List ℕ). shape_begun (kind_begun l)) is ∙ none in
    omega (arith, other, shape_small e)

-- ---- values

true_or_false : (old x y : List ℕ) → word_end (codes "true") old ≡ Ok x
    → word_end (codes "false") old ≡ Ok y → ⊥
true_or_false old x y h g =
    let same : 116 ≡ 102 =
    ap (λ (l : List ℕ). get_or l 0 0) (sym (word_parts (codes "true") old x h)
    ∙ word_parts (codes "false") old y g) in
    omega (arith, same)

mutual
  one_value : (j k : Json) (old x y : List ℕ) → ReadsValue j old x → ReadsValue k old y
      → (j ≡ k) × (x ≡ y)
  one_value null null old x y h g = (refl, one_ok _ x y h g)
  one_value (boolean true) (boolean true) old x y h g = (refl, one_ok _ x y h g)
  one_value (boolean true) (boolean false) old x y h g = absurd (true_or_false old x y h g)
  one_value (boolean false) (boolean true) old x y h g = absurd (true_or_false old y x g h)
  one_value (boolean false) (boolean false) old x y h g = (refl, one_ok _ x y h g)
  one_value (number a) (number b) old x y h g =
      let ends = one_ok _ x y h.ends g.ends in
      let same : a ++ y ≡ b ++ y =
      ap (λ (l : List ℕ). a ++ l) (sym ends) ∙ sym h.parts ∙ g.parts in
      (ap number (append_cancel_right a b y same), ends)
  one_value (string a) (string b) old x y h g =
      let (bytes, ends) = one_string a b old x y h g in
      (ap string bytes, ends)
  one_value (array es) (array fs) old x y (inside, opens, h) (other, opened, g) =
      let same = one_tail 91 old inside other opens opened in
      let P : List ℕ → Type 0 = λ l. ReadsElements fs l y in
      let (elements, ends) = one_elements es fs inside x y h (subst P (sym same) g) in
      (ap array elements, ends)
  one_value (object ms) (object ns) old x y (inside, opens, h) (other, opened, g) =
      let same = one_tail 123 old inside other opens opened in
      let P : List ℕ → Type 0 = λ l. ReadsMembers ns l y in
      let (members, ends) = one_members ms ns inside x y h (subst P (sym same) g) in
      (ap object members, ends)
  one_value j k old x y h g =
      let same : shape j ≡ shape k = sym (reads_shape j old x h) ∙ reads_shape k old y g in
      absurd (omega (arith, same))

  one_elements : (es fs : Elements) (old x y : List ℕ) → ReadsElements es old x
      → ReadsElements fs old y → (es ≡ fs) × (x ≡ y)
  one_elements no_element no_element old x y h g = (refl, one_tail 93 (past_space old) x y h g)
  one_elements no_element (element f fs) old x y h (rest, value, more) =
      absurd (not_here f (past_space old) rest (93 ∷ x) value h refl)
  one_elements (element e es) no_element old x y (rest, value, more) g =
      absurd (not_here e (past_space old) rest (93 ∷ y) value g refl)
  one_elements (element e es) (element f fs) old x y (r, h, more) (s, g, others) =
      let (same, rest) = one_value e f (past_space old) r s h g in
      let P : List ℕ → Type 0 = λ l. ReadsMoreElements fs l y in
      let (elements, ends) = one_more es fs r x y more (subst P (sym rest) others) in
      (cc, ends)

  one_more : (es fs : Elements) (old x y : List ℕ) → ReadsMoreElements es old x
      → ReadsMoreElements fs old y → (es ≡ fs) × (x ≡ y)
  one_more no_element no_element old x y h g = (refl, one_tail 93 (past_space old) x y h g)
  one_more no_element (element f fs) old x y h (next, rest, comma, value, more) =
      let same = one_head 93 44 (past_space old) x next h comma in
      absurd (omega (arith, same))
  one_more (element e es) no_element old x y (next, rest, comma, value, more) g =
      let same = one_head 44 93 (past_space old) next y comma g in
      absurd (omega (arith, same))
  one_more (element e es) (element f fs) old x y (n, r, comma, h, more)
      (m, s, other, g, others) =
      let next = one_tail 44 (past_space old) n m comma other in
      let P : List ℕ → Type 0 = λ l. ReadsValue f (past_space l) s in
      let (same, rest) = one_value e f (past_space n) r s h (subst P (sym next) g) in
      let Q : List ℕ → Type 0 = λ l. ReadsMoreElements fs l y in
      let (elements, ends) = one_more es fs r x y more (subst Q (sym rest) others) in
      (cc, ends)

  one_members : (ms ns : Members) (old x y : List ℕ) → ReadsMembers ms old x
      → ReadsMembers ns old y → (ms ≡ ns) × (x ≡ y)
  one_members no_member no_member old x y h g = (refl, one_tail 125 (past_space old) x y h g)
  one_members no_member (member n f ns) old x y h (value, rest, name, v, more) =
      let same = one_head 125 34 (past_space old) x name.reads.inside h name.reads.opens in
      absurd (omega (arith, same))
  one_members (member n e ms) no_member old x y (value, rest, name, v, more) g =
      let same = one_head 34 125 (past_space old) name.reads.inside y name.reads.opens g in
      absurd (omega (arith, same))
  one_members (member a e ms) (member b f ns) old x y (v, r, name, h, more)
      (w, s, other, g, others) =
      let (named, value) = one_name a b (past_space old) v w name other in
      let P : List ℕ → Type 0 = λ l. ReadsValue f l s in
      let (same, rest) = one_value e f v r s h (subst P (sym value) g) in
      let Q : List ℕ → Type 0 = λ l. ReadsMoreMembers ns l y in
      let (members, ends) = one_more_members ms ns r x y more (subst Q (sym rest) others) in
      (cc, ends)

  one_more_members : (ms ns : Members) (old x y : List ℕ) → ReadsMoreMembers ms old x
      → ReadsMoreMembers ns old y → (ms ≡ ns) × (x ≡ y)
  one_more_members no_member no_member old x y h g =
      (refl, one_tail 125 (past_space old) x y h g)
  one_more_members no_member (member b f ns) old x y h (next, value, rest, comma, name, v, more) =
      let same = one_head 125 44 (past_space old) x next h comma in
      absurd (omega (arith, same))
  one_more_members (member a e ms) no_member old x y (next, value, rest, comma, name, v, more) g =
      let same = one_head 44 125 (past_space old) next y comma g in
      absurd (omega (arith, same))
  one_more_members (member a e ms) (member b f ns) old x y (n, v, r, comma, name, h, more)
      (m, w, s, other_comma, other, g, others) =
      let next = one_tail 44 (past_space old) n m comma other_comma in
      let N : List ℕ → Type 0 = λ l. ReadsName b (past_space l) w in
      let (named, value) = one_name a b (past_space n) v w name (subst N (sym next) other) in
      let P : List ℕ → Type 0 = λ l. ReadsValue f l s in
      let (same, rest) = one_value e f v r s h (subst P (sym value) g) in
      let Q : List ℕ → Type 0 = λ l. ReadsMoreMembers ns l y in
      let (members, ends) = one_more_members ms ns r x y more (subst Q (sym rest) others) in
      (cc, ends)

pub one_value_lemma : OneValue
one_value_lemma = one_value

pub one_reading_lemma : SpellsOne
one_reading_lemma text j k (rest, h, ends) (other, g, ended) =
    (one_value j k (past_space text) rest other h g).0

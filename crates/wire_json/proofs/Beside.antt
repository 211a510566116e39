-- No value is read where a fault stands.
use Rattle.std.proofs.Common.{◌≡◌, inl, inr, ℕ, ◌≤◌, Bool, true, false, List, [], ◌∷◌, Option, Some, None, Ok, Err, refl, sym, ap, ◌∙◌, subst, arith}
use Rattle.std.specs.Prelude.{codes}
use Rattle.wire_json.specs.declared.fault.FaultKind.{FaultKind}
use Rattle.wire_json.specs.declared.kind.Kind.{Kind}
use Rattle.wire_json.specs.declared.kind.Kind.TheVariants as kinds
use Rattle.wire_json.specs.Bytes.{begins, is_byte, past_space, word_end}
use Rattle.wire_json.specs.Fault.{CharsFault, no_char, bad_escape, past_char, QuoteFault, no_quote, in_string, NameFault, no_name, no_colon, ValueFault, no_value, bad_word, bad_number, bad_string, deep_array, deep_object, in_array, in_object, word_of, ElementsFault, first_element, past_element, MoreElementsFault, no_comma, next_element, past_next, MemberFault, bad_name, bad_value, MembersFault, first_member, past_member, MoreMembersFault, no_comma_or_brace, next_member, past_next_member, in_value, behind_value}
use Rattle.wire_json.specs.Json.{Json, null, boolean, number, string, array, object, depth, Elements, no_element, element, elements_depth, Members, no_member, member, members_depth}
use Rattle.wire_json.specs.Kind.{kind_begun}
use Rattle.wire_json.specs.Laws.{NoValueBesideFault, NoTextBesideFault}
use Rattle.wire_json.specs.Reading.{ReadsValue, ReadsElements, ReadsMoreElements, ReadsMembers, ReadsMoreMembers}
use Rattle.wire_json.specs.Text.{ReadsChars, ReadsString, ReadsName}
use Rattle.wire_json.proofs.OneReading.{no_char_at_quote, not_here, ok_or_err, one_char, one_head, one_name, one_string, one_tail, one_value_lemma, reads_shape, shape, shape_begun, shape_small, unescaped_byte}
use Rattle.wire_json.proofs.Scalars.{word_parts}

-- a test that has both answers
pub both_answers : (test : Bool) → test ≡ true → test ≡ false → ⊥
both_answers test one other = absurd cc

pub not_begun : (b : ℕ) (old rest : List ℕ) → old ≡ b ∷ rest → begins (is_byte b) (b ∷ rest) ≡ true
    → begins (is_byte b) old ≡ false → ⊥
not_begun b old rest is here other =
    both_answers (begins (is_byte b) old) (ap (begins (is_byte b)) is ∙ here) other

-- ---- strings

chars_beside : (chars : List ℕ) (old new : List ℕ) (k : FaultKind) (left : List ℕ)
    → ReadsChars chars old new → CharsFault old k left → ⊥
chars_beside [] old new k left h (no_char quote backslash none) =
    not_begun 34 old new h refl quote
chars_beside [] old new k left h (bad_escape backslash bad) =
    both_answers (begins (is_byte 92) old) backslash (ap (begins (is_byte 92)) h)
chars_beside [] old new k left h (past_char c rest char f) =
    no_char_at_quote c old rest new h char
chars_beside (c ∷ cs) old new k left (rest, inl u, more) (no_char quote backslash none) =
    none c rest u
chars_beside (c ∷ cs) old new k left (rest, inr e, more) (no_char quote backslash none) =
    both_answers (begins (is_byte 92) old) e.backslash backslash
chars_beside (c ∷ cs) old new k left (rest, inl u, more) (bad_escape backslash bad) =
    u.unescaped.no_backslash (unescaped_byte c 92 old rest u backslash (omega arith))
chars_beside (c ∷ cs) old new k left (rest, inr e, more) (bad_escape backslash bad) =
    ok_or_err _ (c, rest) (k, left) e.escape bad
chars_beside (c ∷ cs) old new k left (rest, char, more) (past_char d other same f) =
    let P : List ℕ → Type 0 = λ l. ReadsChars cs l new in
    chars_beside cs other new k left (subst P (one_char c d old rest other char same).1 more) f

pub string_beside : (bytes old new : List ℕ) (k : FaultKind) (left : List ℕ)
    → ReadsString bytes old new → QuoteFault old k left → ⊥
string_beside bytes old new k left h (no_quote other) =
    not_begun 34 old h.inside h.opens refl other
string_beside bytes old new k left h (in_string inside opens f) =
    let P : List ℕ → Type 0 = λ l. ReadsChars h.chars l new in
    chars_beside h.chars inside new k left
    (subst P (one_tail 34 old h.inside inside h.opens opens) h.reads) f

pub name_beside : (name old new : List ℕ) (k : FaultKind) (left : List ℕ)
    → ReadsName name old new → NameFault old k left → ⊥
name_beside name old new k left h (no_name f) = string_beside name old h.behind k left h.reads f
name_beside name old new k left h (no_colon other behind reads none) =
    let same = (one_string name other old h.behind behind h.reads reads).1 in
    not_begun 58 (past_space behind) h.value (ap past_space (sym same) ∙ h.colon) refl none

-- ---- words

-- the tree of what begins here
same_shape : (j : Json) (old new : List ℕ) (begun : Option Kind) → ReadsValue j old new
    → kind_begun old ≡ begun → shape j ≡ shape_begun begun
same_shape j old new begun h is = sym (reads_shape j old new h) ∙ ap shape_begun is

no_word : (word other old new left : List ℕ) → word_end word old ≡ Ok new → Some word ≡ Some other
    → word_end other old ≡ Err left → ⊥
no_word word other old new left h is f =
    let same : word ≡ other = cc in
    let P : List ℕ → Type 0 = λ w. word_end w old ≡ Ok new in
    ok_or_err (word_end other old) new left (subst P same h) f

other_word : (a b : Kind) (old : List ℕ) → kind_begun old ≡ Some a → kind_begun old ≡ Some b
    → Some a ≡ Some b
other_word a b old h g = sym h ∙ g

word_beside : (kind : Kind) (j : Json) (word old new left : List ℕ) → ReadsValue j old new
    → kind_begun old ≡ Some kind → word_of kind ≡ Some word → word_end word old ≡ Err left → ⊥
word_beside kinds.Null null word old new left h begun is f =
    no_word (codes "null") word old new left h is f
word_beside kinds.True (boolean true) word old new left h begun is f =
    no_word (codes "true") word old new left h is f
word_beside kinds.False (boolean false) word old new left h begun is f =
    no_word (codes "false") word old new left h is f
word_beside kinds.True (boolean false) word old new left h begun is f =
    let other = other_word kinds.False kinds.True old
    (ap kind_begun (word_parts (codes "false") old new h)) begun in
    absurd cc
word_beside kinds.False (boolean true) word old new left h begun is f =
    let other = other_word kinds.True kinds.False old
    (ap kind_begun (word_parts (codes "true") old new h)) begun in
    absurd cc
word_beside kinds.Number j word old new left h begun is f = absurd cc
word_beside kinds.String j word old new left h begun is f = absurd cc
word_beside kinds.Array j word old new left h begun is f = absurd cc
word_beside kinds.Object j word old new left h begun is f = absurd cc
word_beside kind j word old new left h begun is f =
    let other = same_shape j old new (Some kind) h begun in
    absurd (omega (arith, other))

-- ---- values

mutual
  value_beside : (l : ℕ) (j : Json) (old new : List ℕ) (k : FaultKind) (left : List ℕ)
      → ReadsValue j old new → depth j ≤ l → ValueFault l old k left → ⊥
  value_beside l j old new k left h fits (no_value none) =
      let other = same_shape j old new None h none in
      omega (arith, other, shape_small j)
  value_beside l j old new k left h fits (bad_word kind word begun is f) =
      word_beside kind j word old new left h begun is f
  value_beside l (number text) old new k left h fits (bad_number begun f) =
      ok_or_err _ new left h.ends f
  value_beside l j old new k left h fits (bad_number begun f) =
      let other = same_shape j old new (Some kinds.Number) h begun in
      absurd (omega (arith, other))
  value_beside l (string bytes) old new k left h fits (bad_string begun f) =
      string_beside bytes old new k left h f
  value_beside l j old new k left h fits (bad_string begun f) =
      let other = same_shape j old new (Some kinds.String) h begun in
      absurd (omega (arith, other))
  value_beside l (array es) old new k left h fits (deep_array none begun) = omega (arith, fits)
  value_beside l j old new k left h fits (deep_array none begun) =
      let other = same_shape j old new (Some kinds.Array) h begun in
      absurd (omega (arith, other))
  value_beside l (object ms) old new k left h fits (deep_object none begun) = omega (arith, fits)
  value_beside l j old new k left h fits (deep_object none begun) =
      let other = same_shape j old new (Some kinds.Object) h begun in
      absurd (omega (arith, other))
  value_beside l (array es) old new k left h fits (in_array inner other is opened f) =
      let P : List ℕ → Type 0 = λ x. ReadsElements es x new in
      elements_beside inner es other new k left
      (subst P (one_tail 91 old h.0 other h.1 opened) h.2) (omega (arith, fits)) f
  value_beside l j old new k left h fits (in_array inner inside is opens f) =
      let other = same_shape j old new (Some kinds.Array) h (ap kind_begun opens) in
      absurd (omega (arith, other))
  value_beside l (object ms) old new k left h fits (in_object inner other is opened f) =
      let P : List ℕ → Type 0 = λ x. ReadsMembers ms x new in
      members_beside inner ms other new k left
      (subst P (one_tail 123 old h.0 other h.1 opened) h.2) (omega (arith, fits)) f
  value_beside l j old new k left h fits (in_object inner inside is opens f) =
      let other = same_shape j old new (Some kinds.Object) h (ap kind_begun opens) in
      absurd (omega (arith, other))

  elements_beside : (l : ℕ) (es : Elements) (old new : List ℕ) (k : FaultKind) (left : List ℕ)
      → ReadsElements es old new → elements_depth es ≤ l → ElementsFault l old k left → ⊥
  elements_beside l no_element old new k left h fits (first_element other f) =
      not_begun 93 (past_space old) new h refl other
  elements_beside l no_element old new k left h fits (past_element e rest reads deep f) =
      not_here e (past_space old) rest (93 ∷ new) reads h refl
  elements_beside l (element e es) old new k left (rest, h, more) fits (first_element other f) =
      value_beside l e (past_space old) rest k left h (omega (arith, fits)) f
  elements_beside l (element e es) old new k left (rest, h, more) fits
      (past_element d behind reads deep f) =
      let same = (one_value_lemma e d (past_space old) rest behind h reads).1 in
      let P : List ℕ → Type 0 = λ x. ReadsMoreElements es x new in
      more_beside l es behind new k left (subst P same more) (omega (arith, fits)) f

  more_beside : (l : ℕ) (es : Elements) (old new : List ℕ) (k : FaultKind) (left : List ℕ)
      → ReadsMoreElements es old new → elements_depth es ≤ l → MoreElementsFault l old k left → ⊥
  more_beside l no_element old new k left h fits (no_comma comma close) =
      not_begun 93 (past_space old) new h refl close
  more_beside l no_element old new k left h fits (next_element next comma f) =
      let same = one_head 93 44 (past_space old) new next h comma in
      omega (arith, same)
  more_beside l no_element old new k left h fits (past_next next e rest comma reads deep f) =
      let same = one_head 93 44 (past_space old) new next h comma in
      omega (arith, same)
  more_beside l (element e es) old new k left (n, r, comma, h, more) fits (no_comma none close) =
      not_begun 44 (past_space old) n comma refl none
  more_beside l (element e es) old new k left (n, r, comma, h, more) fits
      (next_element next other f) =
      let P : List ℕ → Type 0 = λ x. ReadsValue e (past_space x) r in
      value_beside l e (past_space next) r k left
      (subst P (one_tail 44 (past_space old) n next comma other) h) (omega (arith, fits)) f
  more_beside l (element e es) old new k left (n, r, comma, h, more) fits
      (past_next next d behind other reads deep f) =
      let P : List ℕ → Type 0 = λ x. ReadsValue e (past_space x) r in
      let here = subst P (one_tail 44 (past_space old) n next comma other) h in
      let same = (one_value_lemma e d (past_space next) r behind here reads).1 in
      let Q : List ℕ → Type 0 = λ x. ReadsMoreElements es x new in
      more_beside l es behind new k left (subst Q same more) (omega (arith, fits)) f

  pub member_beside : (l : ℕ) (name : List ℕ) (e : Json) (old value rest : List ℕ) (k : FaultKind)
      (left : List ℕ) → ReadsName name old value → ReadsValue e value rest → depth e ≤ l
      → MemberFault l old k left → ⊥
  member_beside l name e old value rest k left named h fits (bad_name f) =
      name_beside name old value k left named f
  member_beside l name e old value rest k left named h fits (bad_value other here reads f) =
      let P : List ℕ → Type 0 = λ x. ReadsValue e x rest in
      value_beside l e here rest k left
      (subst P (one_name name other old value here named reads).1 h) fits f

  members_beside : (l : ℕ) (ms : Members) (old new : List ℕ) (k : FaultKind) (left : List ℕ)
      → ReadsMembers ms old new → members_depth ms ≤ l → MembersFault l old k left → ⊥
  members_beside l no_member old new k left h fits (first_member other f) =
      not_begun 125 (past_space old) new h refl other
  members_beside l no_member old new k left h fits
      (past_member name value e rest named reads deep f) =
      let same = one_head 125 34 (past_space old) new named.reads.inside h named.reads.opens in
      omega (arith, same)
  members_beside l (member a e ms) old new k left (v, r, name, h, more) fits
      (first_member other f) =
      member_beside l a e (past_space old) v r k left name h (omega (arith, fits)) f
  members_beside l (member a e ms) old new k left (v, r, name, h, more) fits
      (past_member b value d behind named reads deep f) =
      let P : List ℕ → Type 0 = λ x. ReadsValue e x r in
      let here = subst P (one_name a b (past_space old) v value name named).1 h in
      let same = (one_value_lemma e d value r behind here reads).1 in
      let Q : List ℕ → Type 0 = λ x. ReadsMoreMembers ms x new in
      more_members_beside l ms behind new k left (subst Q same more) (omega (arith, fits)) f

  more_members_beside : (l : ℕ) (ms : Members) (old new : List ℕ) (k : FaultKind)
      (left : List ℕ) → ReadsMoreMembers ms old new → members_depth ms ≤ l
      → MoreMembersFault l old k left → ⊥
  more_members_beside l no_member old new k left h fits (no_comma_or_brace comma close) =
      not_begun 125 (past_space old) new h refl close
  more_members_beside l no_member old new k left h fits (next_member next comma f) =
      let same = one_head 125 44 (past_space old) new next h comma in
      omega (arith, same)
  more_members_beside l no_member old new k left h fits
      (past_next_member next name value e rest comma named reads deep f) =
      let same = one_head 125 44 (past_space old) new next h comma in
      omega (arith, same)
  more_members_beside l (member a e ms) old new k left (n, v, r, comma, name, h, more) fits
      (no_comma_or_brace none close) =
      not_begun 44 (past_space old) n comma refl none
  more_members_beside l (member a e ms) old new k left (n, v, r, comma, name, h, more) fits
      (next_member next other f) =
      let P : List ℕ → Type 0 = λ x. ReadsName a (past_space x) v in
      member_beside l a e (past_space next) v r k left
      (subst P (one_tail 44 (past_space old) n next comma other) name) h (omega (arith, fits)) f
  more_members_beside l (member a e ms) old new k left (n, v, r, comma, name, h, more) fits
      (past_next_member next b value d behind other named reads deep f) =
      let N : List ℕ → Type 0 = λ x. ReadsName a (past_space x) v in
      let here_name = subst N (one_tail 44 (past_space old) n next comma other) name in
      let P : List ℕ → Type 0 = λ x. ReadsValue e x r in
      let here = subst P (one_name a b (past_space next) v value here_name named).1 h in
      let same = (one_value_lemma e d value r behind here reads).1 in
      let Q : List ℕ → Type 0 = λ x. ReadsMoreMembers ms x new in
      more_members_beside l ms behind new k left (subst Q same more) (omega (arith, fits)) f

pub no_value_beside_fault_lemma : NoValueBesideFault
no_value_beside_fault_lemma l j old new k left h fits f = value_beside l j old new k left h fits f

pub no_text_beside_fault_lemma : NoTextBesideFault
no_text_beside_fault_lemma l text j k left (rest, h, ends) fits (in_value f) =
    value_beside l j (past_space text) rest k left h fits f
no_text_beside_fault_lemma l text j k left (rest, h, ends) fits
    (behind_value json behind reads deep some) =
    let same = (one_value_lemma j json (past_space text) rest behind h reads).1 in
    some (ap past_space (sym same) ∙ ends)

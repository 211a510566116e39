-- A text has one fault at most.
use Rattle.std.proofs.Common.{◌≡◌, inl, inr, ℕ, suc, ◌≤◌, true, false, List, [], ◌∷◌, Option, Some, None, Result, Ok, Err, refl, sym, ap, ◌∙◌, subst, arith}
use Rattle.wire_json.specs.declared.fault.FaultKind.{FaultKind}
use Rattle.wire_json.specs.declared.kind.Kind.{Kind}
use Rattle.wire_json.specs.declared.kind.Kind.TheVariants as kinds
use Rattle.wire_json.specs.Bytes.{begins, is_byte, past_space, word_end}
use Rattle.wire_json.specs.Fault.{CharsFault, no_char, bad_escape, past_char, QuoteFault, no_quote, in_string, NameFault, no_name, no_colon, ValueFault, no_value, bad_word, bad_number, bad_string, deep_array, deep_object, in_array, in_object, word_of, ElementsFault, first_element, past_element, MoreElementsFault, no_comma, next_element, past_next, MemberFault, bad_name, bad_value, MembersFault, first_member, past_member, MoreMembersFault, no_comma_or_brace, next_member, past_next_member, TextFault, in_value, behind_value}
use Rattle.wire_json.specs.Kind.{kind_begun}
use Rattle.wire_json.specs.Laws.{OneTextFault, OneValueFault}
use Rattle.wire_json.specs.Reading.{ReadsValue}
use Rattle.wire_json.specs.Text.{ReadsName}
use Rattle.wire_json.proofs.Beside.{both_answers, member_beside, name_beside, no_value_beside_fault_lemma, not_begun, string_beside}
use Rattle.wire_json.proofs.OneReading.{ok_or_err, one_char, one_name, one_string, one_tail, one_value_lemma, unescaped_byte}

one_err : {A E : Type 0} (r : Result A E) (x y : E) → r ≡ Err x → r ≡ Err y → x ≡ y
one_err r x y h g = cc

-- ---- strings

one_chars_fault : (old : List ℕ) (k m : FaultKind) (a b : List ℕ) → CharsFault old k a
    → CharsFault old m b → (k ≡ m) × (a ≡ b)
one_chars_fault old k m a b (no_char q s n) (no_char p t o) = (refl, refl)
one_chars_fault old k m a b (no_char q s n) (bad_escape t bad) =
    absurd (both_answers (begins (is_byte 92) old) t s)
one_chars_fault old k m a b (no_char q s n) (past_char c rest (inl u) g) = absurd (n c rest u)
one_chars_fault old k m a b (no_char q s n) (past_char c rest (inr e) g) =
    absurd (both_answers (begins (is_byte 92) old) e.backslash s)
one_chars_fault old k m a b (bad_escape s bad) (no_char q t n) =
    absurd (both_answers (begins (is_byte 92) old) s t)
one_chars_fault old k m a b (bad_escape s bad) (bad_escape t other) =
    let same = one_err _ (k, a) (m, b) bad other in (
      ap (λ (p : FaultKind × List ℕ). p.0) same,
      ap (λ (p : FaultKind × List ℕ). p.1) same,
    )
one_chars_fault old k m a b (bad_escape s bad) (past_char c rest (inl u) g) =
    absurd (u.unescaped.no_backslash (unescaped_byte c 92 old rest u s (omega arith)))
one_chars_fault old k m a b (bad_escape s bad) (past_char c rest (inr e) g) =
    absurd (ok_or_err _ (c, rest) (k, a) e.escape bad)
one_chars_fault old k m a b (past_char c rest (inl u) f) (no_char q s n) = absurd (n c rest u)
one_chars_fault old k m a b (past_char c rest (inr e) f) (no_char q s n) =
    absurd (both_answers (begins (is_byte 92) old) e.backslash s)
one_chars_fault old k m a b (past_char c rest (inl u) f) (bad_escape s bad) =
    absurd (u.unescaped.no_backslash (unescaped_byte c 92 old rest u s (omega arith)))
one_chars_fault old k m a b (past_char c rest (inr e) f) (bad_escape s bad) =
    absurd (ok_or_err _ (c, rest) (m, b) e.escape bad)
one_chars_fault old k m a b (past_char c rest char f) (past_char d other same g) =
    let P : List ℕ → Type 0 = λ l. CharsFault l m b in
    one_chars_fault rest k m a b f (subst P (sym (one_char c d old rest other char same).1) g)

one_string_fault : (old : List ℕ) (k m : FaultKind) (a b : List ℕ) → QuoteFault old k a
    → QuoteFault old m b → (k ≡ m) × (a ≡ b)
one_string_fault old k m a b (no_quote q) (no_quote p) = (refl, refl)
one_string_fault old k m a b (no_quote q) (in_string inside opens g) =
    absurd (not_begun 34 old inside opens refl q)
one_string_fault old k m a b (in_string inside opens f) (no_quote q) =
    absurd (not_begun 34 old inside opens refl q)
one_string_fault old k m a b (in_string inside opens f) (in_string other opened g) =
    let P : List ℕ → Type 0 = λ l. CharsFault l m b in
    one_chars_fault inside k m a b f (subst P (sym (one_tail 34 old inside other opens opened)) g)

one_name_fault : (old : List ℕ) (k m : FaultKind) (a b : List ℕ) → NameFault old k a
    → NameFault old m b → (k ≡ m) × (a ≡ b)
one_name_fault old k m a b (no_name f) (no_name g) = one_string_fault old k m a b f g
one_name_fault old k m a b (no_name f) (no_colon name behind reads none) =
    absurd (string_beside name old behind k a reads f)
one_name_fault old k m a b (no_colon name behind reads none) (no_name g) =
    absurd (string_beside name old behind m b reads g)
one_name_fault old k m a b (no_colon name behind reads none) (no_colon other here read no_other) =
    (refl, ap past_space (one_string name other old behind here reads read).1)

-- ---- values

-- a number for what begins here, where words have one
abbrev code : Option Kind → ℕ
code None = 5
code (Some kinds.Null) = 0
code (Some kinds.True) = 0
code (Some kinds.False) = 0
code (Some kinds.Number) = 1
code (Some kinds.String) = 2
code (Some kinds.Array) = 3
code (Some kinds.Object) = 4

word_code : (kind : Kind) (word : List ℕ) → word_of kind ≡ Some word → code (Some kind) ≡ 0
word_code kinds.Null word h = refl
word_code kinds.True word h = refl
word_code kinds.False word h = refl
word_code kinds.Number word h = absurd cc
word_code kinds.String word h = absurd cc
word_code kinds.Array word h = absurd cc
word_code kinds.Object word h = absurd cc

-- the same for what a fault is in
abbrev told : {l : ℕ} {old : List ℕ} {k : FaultKind} {left : List ℕ} → ValueFault l old k left → ℕ
told (no_value none) = 5
told (bad_word kind word begun is f) = 0
told (bad_number begun f) = 1
told (bad_string begun f) = 2
told (deep_array none begun) = 3
told (deep_object none begun) = 4
told (in_array inner inside is opens f) = 3
told (in_object inner inside is opens f) = 4

told_is : (l : ℕ) (old : List ℕ) (k : FaultKind) (left : List ℕ) (f : ValueFault l old k left)
    → code (kind_begun old) ≡ told f
told_is l old k left (no_value none) = ap code none
told_is l old k left (bad_word kind word begun is f) = ap code begun ∙ word_code kind word is
told_is l old k left (bad_number begun f) = ap code begun
told_is l old k left (bad_string begun f) = ap code begun
told_is l old k left (deep_array none begun) = ap code begun
told_is l old k left (deep_object none begun) = ap code begun
told_is l old k left (in_array inner inside is opens f) =
    ap (λ (x : List ℕ). code (kind_begun x)) opens
told_is l old k left (in_object inner inside is opens f) =
    ap (λ (x : List ℕ). code (kind_begun x)) opens

same_word : (x y : Kind) (v w old a b : List ℕ) → kind_begun old ≡ Some x → kind_begun old ≡ Some y
    → word_of x ≡ Some v → word_of y ≡ Some w → word_end v old ≡ Err a → word_end w old ≡ Err b
    → a ≡ b
same_word x y v w old a b h g i j f e =
    let kind : x ≡ y = cc in
    let word : Some v ≡ Some w = sym i ∙ ap word_of kind ∙ j in
    let same : v ≡ w = cc in
    one_err (word_end w old) a b (ap (λ (l : List ℕ). word_end l old) (sym same) ∙ f) e

mutual
  one_value_fault : (l : ℕ) (old : List ℕ) (k m : FaultKind) (a b : List ℕ) → ValueFault l old k a
      → ValueFault l old m b → (k ≡ m) × (a ≡ b)
  one_value_fault l old k m a b (no_value h) (no_value g) = (refl, refl)
  one_value_fault l old k m a b (bad_word x v h i f) (bad_word y w g j e) =
      (refl, same_word x y v w old a b h g i j f e)
  one_value_fault l old k m a b (bad_number h f) (bad_number g e) = (refl, one_err _ a b f e)
  one_value_fault l old k m a b (bad_string h f) (bad_string g e) =
      one_string_fault old k m a b f e
  one_value_fault l old k m a b (deep_array h f) (deep_array g e) = (refl, refl)
  one_value_fault l old k m a b (deep_array h f) (in_array inner inside is opens e) =
      absurd (omega (arith, h, is))
  one_value_fault l old k m a b (in_array inner inside is opens f) (deep_array g e) =
      absurd (omega (arith, g, is))
  one_value_fault l old k m a b (in_array inner inside is opens f)
      (in_array other here same opened e) =
      let one : other ≡ inner = omega (arith, is, same) in
      let P : ℕ → List ℕ → Type 0 = λ n x. ElementsFault n x m b in
      one_elements_fault inner inside k m a b f
      (subst (λ (n : ℕ). P n inside) one
      (subst (λ (x : List ℕ). P other x) (sym (one_tail 91 old inside here opens opened)) e))
  one_value_fault l old k m a b (deep_object h f) (deep_object g e) = (refl, refl)
  one_value_fault l old k m a b (deep_object h f) (in_object inner inside is opens e) =
      absurd (omega (arith, h, is))
  one_value_fault l old k m a b (in_object inner inside is opens f) (deep_object g e) =
      absurd (omega (arith, g, is))
  one_value_fault l old k m a b (in_object inner inside is opens f)
      (in_object other here same opened e) =
      let one : other ≡ inner = omega (arith, is, same) in
      let P : ℕ → List ℕ → Type 0 = λ n x. MembersFault n x m b in
      one_members_fault inner inside k m a b f
      (subst (λ (n : ℕ). P n inside) one
      (subst (λ (x : List ℕ). P other x) (sym (one_tail 123 old inside here opens opened)) e))
  one_value_fault l old k m a b f g =
      let same = sym (told_is l old k a f) ∙ told_is l old m b g in
      absurd (omega (arith, same))

  one_elements_fault : (l : ℕ) (old : List ℕ) (k m : FaultKind) (a b : List ℕ)
      → ElementsFault l old k a → ElementsFault l old m b → (k ≡ m) × (a ≡ b)
  one_elements_fault l old k m a b (first_element h f) (first_element g e) =
      one_value_fault l (past_space old) k m a b f e
  one_elements_fault l old k m a b (first_element h f) (past_element d rest reads fits g) =
      absurd (no_value_beside_fault_lemma l d (past_space old) rest k a reads fits f)
  one_elements_fault l old k m a b (past_element d rest reads fits f) (first_element h g) =
      absurd (no_value_beside_fault_lemma l d (past_space old) rest m b reads fits g)
  one_elements_fault l old k m a b (past_element d rest h fits f) (past_element e other g fit i) =
      let P : List ℕ → Type 0 = λ x. MoreElementsFault l x m b in
      one_more_fault l rest k m a b f
      (subst P (sym (one_value_lemma d e (past_space old) rest other h g).1) i)

  one_more_fault : (l : ℕ) (old : List ℕ) (k m : FaultKind) (a b : List ℕ)
      → MoreElementsFault l old k a → MoreElementsFault l old m b → (k ≡ m) × (a ≡ b)
  one_more_fault l old k m a b (no_comma h f) (no_comma g e) = (refl, refl)
  one_more_fault l old k m a b (no_comma h f) (next_element next comma e) =
      absurd (not_begun 44 (past_space old) next comma refl h)
  one_more_fault l old k m a b (no_comma h f) (past_next next d rest comma reads fits e) =
      absurd (not_begun 44 (past_space old) next comma refl h)
  one_more_fault l old k m a b (next_element next comma f) (no_comma h e) =
      absurd (not_begun 44 (past_space old) next comma refl h)
  one_more_fault l old k m a b (past_next next d rest comma reads fits f) (no_comma h e) =
      absurd (not_begun 44 (past_space old) next comma refl h)
  one_more_fault l old k m a b (next_element next comma f) (next_element other second e) =
      let P : List ℕ → Type 0 = λ x. ValueFault l (past_space x) m b in
      one_value_fault l (past_space next) k m a b f
      (subst P (sym (one_tail 44 (past_space old) next other comma second)) e)
  one_more_fault l old k m a b (next_element next comma f)
      (past_next other d rest second reads fits e) =
      let P : List ℕ → Type 0 = λ x. ValueFault l (past_space x) k a in
      absurd (no_value_beside_fault_lemma l d (past_space other) rest k a reads fits
      (subst P (one_tail 44 (past_space old) next other comma second) f))
  one_more_fault l old k m a b (past_next next d rest comma reads fits f)
      (next_element other second e) =
      let P : List ℕ → Type 0 = λ x. ValueFault l (past_space x) m b in
      absurd (no_value_beside_fault_lemma l d (past_space next) rest m b reads fits
      (subst P (sym (one_tail 44 (past_space old) next other comma second)) e))
  one_more_fault l old k m a b (past_next next d rest comma h fits f)
      (past_next other e behind second g fit i) =
      let next_is = one_tail 44 (past_space old) next other comma second in
      let N : List ℕ → Type 0 = λ x. ReadsValue d (past_space x) rest in
      let same = (one_value_lemma d e (past_space other) rest behind (subst N next_is h) g).1 in
      let P : List ℕ → Type 0 = λ x. MoreElementsFault l x m b in
      one_more_fault l rest k m a b f (subst P (sym same) i)

  one_member_fault : (l : ℕ) (old : List ℕ) (k m : FaultKind) (a b : List ℕ)
      → MemberFault l old k a → MemberFault l old m b → (k ≡ m) × (a ≡ b)
  one_member_fault l old k m a b (bad_name f) (bad_name g) = one_name_fault old k m a b f g
  one_member_fault l old k m a b (bad_name f) (bad_value name value reads g) =
      absurd (name_beside name old value k a reads f)
  one_member_fault l old k m a b (bad_value name value reads f) (bad_name g) =
      absurd (name_beside name old value m b reads g)
  one_member_fault l old k m a b (bad_value name value h f) (bad_value other here g e) =
      let P : List ℕ → Type 0 = λ x. ValueFault l x m b in
      one_value_fault l value k m a b f
      (subst P (sym (one_name name other old value here h g).1) e)

  one_members_fault : (l : ℕ) (old : List ℕ) (k m : FaultKind) (a b : List ℕ)
      → MembersFault l old k a → MembersFault l old m b → (k ≡ m) × (a ≡ b)
  one_members_fault l old k m a b (first_member h f) (first_member g e) =
      one_member_fault l (past_space old) k m a b f e
  one_members_fault l old k m a b (first_member h f)
      (past_member name value d rest named reads fits g) =
      absurd (member_beside l name d (past_space old) value rest k a named reads fits f)
  one_members_fault l old k m a b (past_member name value d rest named reads fits f)
      (first_member h g) =
      absurd (member_beside l name d (past_space old) value rest m b named reads fits g)
  one_members_fault l old k m a b (past_member name value d rest named h fits f)
      (past_member other here e behind called g fit i) =
      let value_is = (one_name name other (past_space old) value here named called).1 in
      let N : List ℕ → Type 0 = λ x. ReadsValue d x rest in
      let same = (one_value_lemma d e here rest behind (subst N value_is h) g).1 in
      let P : List ℕ → Type 0 = λ x. MoreMembersFault l x m b in
      one_more_members_fault l rest k m a b f (subst P (sym same) i)

  one_more_members_fault : (l : ℕ) (old : List ℕ) (k m : FaultKind) (a b : List ℕ)
      → MoreMembersFault l old k a → MoreMembersFault l old m b → (k ≡ m) × (a ≡ b)
  one_more_members_fault l old k m a b (no_comma_or_brace h f) (no_comma_or_brace g e) =
      (refl, refl)
  one_more_members_fault l old k m a b (no_comma_or_brace h f) (next_member next comma e) =
      absurd (not_begun 44 (past_space old) next comma refl h)
  one_more_members_fault l old k m a b (no_comma_or_brace h f)
      (past_next_member next name value d rest comma named reads fits e) =
      absurd (not_begun 44 (past_space old) next comma refl h)
  one_more_members_fault l old k m a b (next_member next comma f) (no_comma_or_brace h e) =
      absurd (not_begun 44 (past_space old) next comma refl h)
  one_more_members_fault l old k m a b
      (past_next_member next name value d rest comma named reads fits f) (no_comma_or_brace h e) =
      absurd (not_begun 44 (past_space old) next comma refl h)
  one_more_members_fault l old k m a b (next_member next comma f) (next_member other second e) =
      let P : List ℕ → Type 0 = λ x. MemberFault l (past_space x) m b in
      one_member_fault l (past_space next) k m a b f
      (subst P (sym (one_tail 44 (past_space old) next other comma second)) e)
  one_more_members_fault l old k m a b (next_member next comma f)
      (past_next_member other name value d rest second named reads fits e) =
      let P : List ℕ → Type 0 = λ x. MemberFault l (past_space x) k a in
      absurd (member_beside l name d (past_space other) value rest k a named reads fits
      (subst P (one_tail 44 (past_space old) next other comma second) f))
  one_more_members_fault l old k m a b
      (past_next_member next name value d rest comma named reads fits f)
      (next_member other second e) =
      let P : List ℕ → Type 0 = λ x. MemberFault l (past_space x) m b in
      absurd (member_beside l name d (past_space next) value rest m b named reads fits
      (subst P (sym (one_tail 44 (past_space old) next other comma second)) e))
  one_more_members_fault l old k m a b
      (past_next_member next name value d rest comma named h fits f)
      (past_next_member other called here e behind second title g fit i) =
      let next_is = one_tail 44 (past_space old) next other comma second in
      let T : List ℕ → Type 0 = λ x. ReadsName name (past_space x) value in
      let value_is =
      (one_name name called (past_space other) value here (subst T next_is named) title).1 in
      let N : List ℕ → Type 0 = λ x. ReadsValue d x rest in
      let same = (one_value_lemma d e here rest behind (subst N value_is h) g).1 in
      let P : List ℕ → Type 0 = λ x. MoreMembersFault l x m b in
      one_more_members_fault l rest k m a b f (subst P (sym same) i)

pub one_value_fault_lemma : OneValueFault
one_value_fault_lemma = one_value_fault

pub one_text_fault_lemma : OneTextFault
one_text_fault_lemma l text k m a b (in_value f) (in_value g) =
    one_value_fault l (past_space text) k m a b f g
one_text_fault_lemma l text k m a b (in_value f) (behind_value json rest reads fits some) =
    absurd (no_value_beside_fault_lemma l json (past_space text) rest k a reads fits f)
one_text_fault_lemma l text k m a b (behind_value json rest reads fits some) (in_value g) =
    absurd (no_value_beside_fault_lemma l json (past_space text) rest m b reads fits g)
one_text_fault_lemma l text k m a b (behind_value json rest h fits some)
    (behind_value other behind g fit more) =
    (refl, ap past_space (one_value_lemma json other (past_space text) rest behind h g).1)

-- Payloads of numbers from the front: none is left, or one stands before the others.
use Rattle.std.proofs.Common.{◌≡◌, ℕ, ◌<◌, List, [], ◌∷◌, ◌++◌, length, refl, sym, ap, ◌∙◌}
use Rattle.std.proofs.Common.{subst, append_assoc, arith, length-append}
use Rattle.std.proofs.lemmas.List.{append-nil}
use Rattle.std.specs.Prelude.{map}
use Rattle.wire_codec.specs.Packed.{SpellsEach, Appends}
use Rattle.wire_codec.specs.Read.{Reads}
use Rattle.wire_codec.specs.ValueMap.{ValueMap}
use Rattle.wire_fields.specs.Packed.{IsNumberText, OneText, some_bytes}
use Rattle.wire_fields.specs.declared.form.Form.{Form}

-- no number has a text of no bytes
no_text : (form : Form) (x : ℕ) (text rest : List ℕ) → length (text ++ rest) ≡ 0
    → IsNumberText form x text → ⊥
no_text form x [] rest empty h = some_bytes form x [] h refl
no_text form x (b ∷ text) rest empty h = absurd (omega (arith, empty, length-append (b ∷ text) rest))

module _ {T : Type 0} (form : Form) (values : ValueMap T) where
  -- a payload of no bytes has no numbers
  pub none_appended : (payload : List ℕ) → length payload ≡ 0 → (before after : List T)
      → Appends (IsNumberText form) values payload before after → after ≡ before
  none_appended payload empty before after h = of_numbers h.numbers h.spelled h.appended
    where
      of_numbers : (xs : List ℕ) → SpellsEach (IsNumberText form) xs payload
          → after ≡ before ++ map values.dec xs → after ≡ before
      of_numbers [] spelled is = is ∙ append-nil before
      of_numbers (x ∷ xs) (one, more, parts, text, others) is =
          absurd (no_text form x one more (ap length (sym parts) ∙ empty) text)

  pub nothing_appended : (payload : List ℕ) → length payload ≡ 0 → (before after : List T)
      → after ≡ before → Appends (IsNumberText form) values payload before after
  nothing_appended [] empty before after same =
      record { numbers = []; spelled = refl; appended = same ∙ sym (append-nil before) }
  nothing_appended (b ∷ payload) empty before after same = absurd (omega (arith, empty))

  -- the first number of a payload, and those behind it
  pub front_appended : OneText form → (payload rest : List ℕ) (x : ℕ) (before after : List T)
      → Reads payload (IsNumberText form x) rest
      → Appends (IsNumberText form) values payload before after
      → Appends (IsNumberText form) values rest (before ++ values.dec x ∷ []) after
  front_appended one payload rest x before after read h =
      of_numbers h.numbers h.spelled h.appended
    where
      of_numbers : (xs : List ℕ) → SpellsEach (IsNumberText form) xs payload
          → after ≡ before ++ map values.dec xs
          → Appends (IsNumberText form) values rest (before ++ values.dec x ∷ []) after
      of_numbers [] spelled is =
          absurd (no_text form x read.text rest (ap length (sym read.parts ∙ spelled))
          read.spelled)
      of_numbers (y ∷ ys) (first, more, parts, text, others) is =
          let same = one payload more rest y x
          (record { text = first; parts = parts; spelled = text }) read in
          record {
            numbers = ys;
            spelled = subst (λ t. SpellsEach (IsNumberText form) ys t) same.1 others;
            appended = is
                ∙ ap (λ (k : ℕ). before ++ (values.dec k ∷ map values.dec ys)) same.0
                ∙ sym (append_assoc before (values.dec x ∷ []) (map values.dec ys));
          }

  -- a payload that begins with no number is none of numbers
  pub no_front : (payload : List ℕ) → 0 < length payload
      → ((x : ℕ) (rest : List ℕ) → Reads payload (IsNumberText form x) rest → ⊥)
      → (before after : List T) → Appends (IsNumberText form) values payload before after → ⊥
  no_front payload some absent before after h = of_numbers h.numbers h.spelled
    where
      of_numbers : (xs : List ℕ) → SpellsEach (IsNumberText form) xs payload → ⊥
      of_numbers [] spelled = absurd (omega (arith, some, ap length spelled))
      of_numbers (x ∷ xs) (one, more, parts, text, others) =
          absent x more (record { text = one; parts = parts; spelled = text })

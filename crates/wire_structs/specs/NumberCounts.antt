-- How many numbers there are, in the place of them.
use Rattle.std.proofs.Common.{◌≡◌, ap, ◌∙◌, sym, refl}
use Rattle.std.specs.Prelude.{ℕ, ◌+◌, List, [], length}
use Rattle.wire_codec.specs.Folds.{Step, IsSingle}
use Rattle.wire_codec.specs.Records.{none}
use Rattle.wire_codec.specs.ValueMap.{ValueMap}
use Rattle.wire_fields.specs.Numbers.{in_64_bits}
use Rattle.wire_fields.specs.Packed.{OneText, adds_numbers, adds_numbers_single, one_text}
use Rattle.wire_fields.specs.Shape.{Lawful}
use Rattle.wire_fields.specs.declared.form.Form.{Form}

-- as many more as the record adds to an empty list
abbrev pub counts_numbers : {T : Type 0} → Form → ValueMap T → Step ℕ
counts_numbers {T} form values m n p c z =
    (vs : List T) × adds_numbers form values [] n p c vs × (z ≡ in_64_bits (m + length vs))

pub counts_numbers_single : {T : Type 0} (form : Form) (values : ValueMap T) → OneText form
    → IsSingle (counts_numbers form values)
counts_numbers_single {T} form values one m u z w n p c d (vs, adds, is) (xs, adds_too, is_too) =
    let same = adds_numbers_single form values one [] [] vs xs n p c d adds adds_too in (
      same.0,
      λ e. is ∙ ap (λ (x : ℕ). in_64_bits (x + length vs)) e
          ∙ ap (λ (ys : List T). in_64_bits (u + length ys)) (same.1 refl) ∙ sym is_too,
    )

-- as many numbers as there are, charged nothing
abbrev pub numbers_count : {T : Type 0} → Form → ValueMap T → Lawful ℕ
numbers_count form values = record {
  kind = record { default = 0; records = λ n m. none; takes = counts_numbers form values };
  single = λ reading. counts_numbers_single form values (one_text reading.varint form);
}

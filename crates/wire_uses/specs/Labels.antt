-- Labels: entries of a key and a text, in the order of the keys.
use Rattle.std.specs.BTreeMap.{insert_entry, is_at}
use Rattle.std.specs.Cmp.Lexicographic.{slice_cmp}
use Rattle.std.specs.Map.{lookup}
use Rattle.std.specs.Ordering.{nat_cmp}
use Rattle.std.specs.Prelude.{ℕ, List, Option}

-- the text of the label whose key has these bytes, where there is one
abbrev pub label_at : List ℕ → List (List ℕ × List ℕ) → Option (List ℕ)
label_at key labels = lookup (is_at (slice_cmp nat_cmp key)) labels

-- the labels with this text at the key: in place of the text of a label that has the key, and else
-- as a label of its own, where the order of the keys has it
abbrev pub with_label : List ℕ → List ℕ → List (List ℕ × List ℕ) → List (List ℕ × List ℕ)
with_label key text labels = insert_entry (slice_cmp nat_cmp) labels key text

-- A blank tape after the first pass, and after the second.
use Rattle.std.proofs.Common.{◌≡◌, ℕ, ◌≤◌, List, [], length, refl, sym, ap, ◌∙◌, zero-add, add-zero}
use Rattle.std.specs.Prelude.{Result, OnOk}
use Rattle.std.proofs.lemmas.List.{append-nil}
use Rattle.std.proofs.lemmas.Result.{on_ok_weaker}
use Rattle.wire_base.specs.declared.error.EncodeError.{EncodeError}
use Rattle.wire_codec.specs.Encoding.{read_tape}
use Rattle.wire_codec.specs.Records.{Records, text_size}
use Rattle.wire_codec.specs.Sizes.{sizes, cut_sizes}
use Rattle.wire_codec.specs.Tape.{Tape, blank, recorded, advanced, unread_of, NextAre}
use Rattle.wire_codec.proofs.SizesLaws.{cut_sizes-small}

-- the tape has the sizes of the records, none of them read
measured : (rs : Records) (t : Tape) → t ≡ recorded blank (cut_sizes rs) → text_size rs ≤ 2147483647
    → t ≡ record { sizes = sizes rs; cursor = 0 }
measured rs t is small = is ∙ ap (λ (ns : List ℕ). recorded blank ns) (cut_sizes-small rs small)

pub next_are_sizes : (rs : Records) (t : Tape) → t ≡ recorded blank (cut_sizes rs)
    → text_size rs ≤ 2147483647 → NextAre (sizes rs) t
next_are_sizes rs t is small = record {
  rest = [];
  parts = ap unread_of (measured rs t is small)
      ∙ sym (append-nil (sizes rs));
}

from_start : (rs : Records) → advanced (record { sizes = sizes rs; cursor = 0 })
    (length (sizes rs)) ≡ read_tape rs
from_start rs = rw zero-add refl

pub all_read_now : (rs : Records) (t new : Tape) → t ≡ recorded blank (cut_sizes rs)
    → text_size rs ≤ 2147483647 → new ≡ advanced t (length (sizes rs)) → new ≡ read_tape rs
all_read_now rs t new is small read = read
    ∙ ap (λ (u : Tape). advanced u (length (sizes rs))) (measured rs t is small) ∙ from_start rs

pub all_read : (rs : Records) (t new : Tape) {T : Type 0} (r : Result T EncodeError)
    → t ≡ recorded blank (cut_sizes rs) → text_size rs ≤ 2147483647
    → OnOk r (new ≡ advanced t (length (sizes rs))) → OnOk r (new ≡ read_tape rs)
all_read rs t new r is small read = on_ok_weaker r (all_read_now rs t new is small) read

pub flat_measured : (rs : Records) (t : Tape) → sizes rs ≡ [] → t ≡ recorded t (cut_sizes rs)
flat_measured rs t none = rw none
    (ap (λ (ns : List ℕ). record { sizes = ns; cursor = t.cursor }) (sym (append-nil t.sizes)))

pub flat_written : (rs : Records) (t : Tape) → sizes rs ≡ [] → t ≡ advanced t (length (sizes rs))
flat_written rs t none = rw none
    (ap (λ (n : ℕ). record { sizes = t.sizes; cursor = n }) (sym (add-zero t.cursor)))

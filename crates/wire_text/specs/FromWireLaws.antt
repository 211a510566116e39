-- What the types of this crate make of a payload follows from its bytes.
use Rattle.std.proofs.Common.{refl, sym, ◌∙◌}
use Rattle.std.specs.Prelude.{Ok, Err}
use Rattle.wire_text.specs.FromWire.{IsByBytes, answers_text, answers_all}

pub answers_text_by_bytes : IsByBytes answers_text
answers_text_by_bytes payload (Ok value) (Ok other) one two = one.1 ∙ sym two.1
answers_text_by_bytes payload (Ok value) (Err f) one two = absurd (two.0 one.0)
answers_text_by_bytes payload (Err e) (Ok other) one two = absurd (one.0 two.0)
answers_text_by_bytes payload (Err e) (Err f) one two = rw (one.1, two.1) refl

pub answers_all_by_bytes : IsByBytes answers_all
answers_all_by_bytes payload (Ok value) (Ok other) one two = one ∙ sym two
answers_all_by_bytes payload (Ok value) (Err f) one two = absurd two
answers_all_by_bytes payload (Err e) other one two = absurd one

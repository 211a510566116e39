-- Records that are measured: the length of their text, and the sizes that go on the tape.
use Rattle.std.specs.Prelude.{◌≡◌, ℕ}
use Rattle.wire_codec.specs.Records.{Records, text_size}
use Rattle.wire_codec.specs.Sizes.{cut, cut_sizes}
use Rattle.wire_codec.specs.Tape.{Tape, recorded}

-- the length is that of the text, both cut, and the sizes stand behind those of the old tape
pub record Measures (rs : Records) (old new : Tape) (len : ℕ) : Type 0 where
  pub size : cut len ≡ cut (text_size rs)
  pub sizes : new ≡ recorded old (cut_sizes rs)

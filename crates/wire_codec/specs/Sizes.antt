-- The sizes of embedded messages, which are measured first and then written in front of them.
use Rattle.std.specs.Prelude.{ℕ, ◌-◌, ◌^◌, min, List, [], ◌∷◌, ◌++◌, map}
use Rattle.wire_codec.specs.Records.{ValuePayload, varint, fixed64, fixed32, bytes, group, embedded}
use Rattle.wire_codec.specs.Records.{Records, none, field, text_size}

-- the text lengths of all embedded messages, an outer one before its inner ones, left to right
abbrev mutual
  pub payload_sizes : ValuePayload → List ℕ
  payload_sizes (varint v) = []
  payload_sizes (fixed64 v) = []
  payload_sizes (fixed32 v) = []
  payload_sizes (bytes b) = []
  payload_sizes (group rs) = sizes rs
  payload_sizes (embedded rs) = text_size rs ∷ sizes rs

  pub sizes : Records → List ℕ
  sizes none = []
  sizes (field n p rest) = payload_sizes p ++ sizes rest

-- a size, cut at the greatest number of 32 bits
abbrev pub cut : ℕ → ℕ
cut n = min n (2 ^ 32 - 1)

-- the sizes, each cut
abbrev pub cut_sizes : Records → List ℕ
cut_sizes rs = map cut (sizes rs)

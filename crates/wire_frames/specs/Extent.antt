-- A frame at the front of bytes, by how many bytes it has.
use Rattle.std.specs.Prelude.{ℕ, ◌-◌, ◌≤◌, List, length, take}
use Rattle.wire_frames.specs.declared.extent.Extent.{Extent}
use Rattle.wire_frames.specs.declared.frame.FrameText.{FrameText}
use Rattle.wire_frames.specs.declared.frame.Framing.{Framing}
use Rattle.wire_frames.specs.Prefix.{IsPrefix}

-- so many bytes are a frame, and so many of these its prefix
pub record IsExtent (form : Framing) (limit : ℕ) (bytes : List ℕ) (extent : Extent) : Type 0 where
  pub tells : IsPrefix form extent.compressed (extent.len - extent.prefix)
      (take extent.prefix bytes)
  pub ordered : extent.prefix ≤ extent.len
  pub within : extent.len - extent.prefix ≤ limit
  pub there : extent.len ≤ length bytes

-- the text of the frame
abbrev pub text_at : List ℕ → Extent → FrameText
text_at bytes extent = record {
  compressed = extent.compressed;
  prefix = extent.prefix;
  text = take extent.len bytes;
}

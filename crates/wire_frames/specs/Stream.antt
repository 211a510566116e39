-- What a decoder is at.
use Rattle.std.specs.Prelude.{ℕ, List, [], ◌++◌}
use Rattle.wire_frames.specs.declared.frame.Framing.{Framing}

-- the form of the frames, the most bytes of a payload, the bytes that were kept of the chunks
-- before, and what is left of the last chunk
pub record Stream : Type 0 where
  pub framing : Framing
  pub limit : ℕ
  pub held : List ℕ
  pub chunk : List ℕ

-- the bytes that were fed and are no part of a frame that was given
abbrev pub unread : Stream → List ℕ
unread s = s.held ++ s.chunk

-- before the first chunk
abbrev pub empty_stream : Framing → ℕ → Stream
empty_stream form limit = record { framing = form; limit = limit; held = []; chunk = [] }

-- a chunk more: what was unread is held now
abbrev pub fed : Stream → List ℕ → Stream
fed s chunk = record s { held = unread s; chunk = chunk }

-- some bytes were taken, and this is left
abbrev pub left : Stream → List ℕ → Stream
left s rest = record s { held = []; chunk = rest }

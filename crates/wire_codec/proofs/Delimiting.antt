-- A text with its length written before it.
use Rattle.std.proofs.Common.{◌≡◌, ℕ, ◌≤◌, List, length, Result, Ok, Err, subst, arith, inl, inr}
use Rattle.std.proofs.Common.{refl}
use Rattle.std.proofs.lemmas.Result.{on_ok_weaker, IfErr-weaker}
use Rattle.wire_base.specs.declared.error.EncodeError.{EncodeError}
use Rattle.wire_base.specs.declared.error.EncodeError.TheVariants.{OutOfMemory}
use Rattle.wire_base.specs.WriteLaws.{TwoParts, PieceByPiece}
use Rattle.wire_base.specs.Sink.{Held, Writes}
use Rattle.wire_base.specs.Varint.{shortest_varint}
use Rattle.wire_base.specs.Delimited.{delimited_text}
use Rattle.wire_codec.specs.Encoding.{Encodes, TriesToWrite}

-- a write, by a call that wants memory for the sizes too
pub encodes : (text : List ℕ) (old new : Held) (r : Result (Unit {0}) EncodeError)
    → Writes text old new r → Encodes text old new r
encodes text old new r w = record {
  ok = w.ok;
  err = w.err;
  cause = w.cause;
  memory = IfErr-weaker r _ _ (λ e grows is. inl (grows is)) w.memory;
}

-- memory was refused before anything was written
pub unwritten : PieceByPiece → (text : List ℕ) (old : Held)
    → Encodes text old old (Err OutOfMemory)
unwritten pieces text old =
    let none = pieces.start text old in
    record {
      ok = tt;
      err = record {
        front = none.front;
        rest = text;
        parts = none.parts;
        held = none.written.ok;
      };
      cause = tt;
      memory = λ is. inr refl;
    }

-- the same, whether the message may have so many bytes or not
pub tries_unwritten : PieceByPiece → (len : ℕ) (text : List ℕ) (old : Held)
    → TriesToWrite len text old old (Err OutOfMemory)
tries_unwritten pieces len text old = record {
  within = tt;
  fits = λ fits. unwritten pieces text old;
  too_large = λ large. (inr refl, refl);
}

-- a write that is not refused for size
pub tries_small : (len : ℕ) (text : List ℕ) (old new : Held) (r : Result (Unit {0}) EncodeError)
    → len ≤ 2147483647 → Encodes text old new r → TriesToWrite len text old new r
tries_small len text old new r small w =
    record {
      within = on_ok_weaker r (λ done. small) w.ok;
      fits = λ fits. w;
      too_large =
          λ large. absurd (omega arith);
    }

module _ (two : TwoParts) (text : List ℕ) (old : Held) where
  -- the length is refused
  pub length_refused : (new : Held) (v : ℕ) (e : EncodeError) → v ≡ length text
      → Writes (shortest_varint v) old new (Err e) → Encodes (delimited_text text) old new (Err e)
  length_refused new v e is w = encodes (delimited_text text) old new (Err e)
      (two.refused (shortest_varint (length text)) text old new e
      (subst (λ (n : ℕ). Writes (shortest_varint n) old new (Err e)) is w))

  -- the length is written
  pub behind_length : (mid new : Held) (v : ℕ) (done : Unit {0})
      (r : Result (Unit {0}) EncodeError) → v ≡ length text
      → Writes (shortest_varint v) old mid (Ok done) → Writes text mid new r
      → Encodes (delimited_text text) old new r
  behind_length mid new v done r is before w = encodes (delimited_text text) old new r
      (two.behind (shortest_varint (length text)) text old mid new done r
      (subst (λ (n : ℕ). Writes (shortest_varint n) old mid (Ok done)) is before) w)

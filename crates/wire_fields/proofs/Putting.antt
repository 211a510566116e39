-- Records written part by part, with the sizes of a tape.
use Rattle.std.proofs.Common.{◌≡◌, ℕ, ◌+◌, ◌≤◌, List, [], ◌∷◌, ◌++◌, length, drop, refl, sym, ap}
use Rattle.std.proofs.Common.{◌∙◌, subst, append_assoc, arith, length-append, add_assoc, add-zero}
use Rattle.std.proofs.lemmas.List.{append-nil, drop-drop}
use Rattle.std.proofs.Math.Seq.{drop-append_seam}
use Rattle.std.specs.Prelude.{Result, Ok, Err}
use Rattle.wire_codec.specs.EncodeError.{EncodeError}
use Rattle.wire_codec.specs.Laws.{JoinedTextsAndSizes, PieceByPiece}
use Rattle.wire_codec.specs.Records.{Records, none, field, embedded, group}
use Rattle.wire_codec.specs.Records.{text_size, text}
use Rattle.wire_codec.specs.Sizes.{sizes}
use Rattle.wire_codec.specs.Tag.{tag_text}
use Rattle.wire_codec.specs.Tape.{Tape, NextAre, advanced, unread_of}
use Rattle.wire_codec.specs.Varint.{shortest_varint}
use Rattle.wire_codec.specs.WireType.TheVariants.{LengthDelimited, StartGroup, EndGroup}
use Rattle.wire_codec.specs.Writes.{Held, Writes, IsWrittenTo}
use Rattle.wire_fields.proofs.Measuring.{Splits, size_joined}

-- records in front of these were written, with their sizes, and these are left
pub record IsPutTo (whole left : Records) (t u : Tape) (old now : Held) : Type 0 where
  pub written : IsWrittenTo (text whole) old now (text left)
  pub next : NextAre (sizes left) u
  pub read : advanced u (length (sizes left)) ≡ advanced t (length (sizes whole))
  pub small : text_size left ≤ 2147483647

-- ---- tapes

pub next_in_front : (a b : List ℕ) (t : Tape) → NextAre (a ++ b) t → NextAre a t
next_in_front a b t h = record { rest = b ++ h.rest; parts = h.parts ∙ append_assoc a b h.rest }

pub next_behind : (a b : List ℕ) (t u : Tape) → NextAre (a ++ b) t → u ≡ advanced t (length a)
    → NextAre b u
next_behind a b t u h is = record {
  rest = h.rest;
  parts = ap unread_of is ∙ sym (drop-drop (length a) t.cursor t.sizes)
      ∙ ap (λ (ns : List ℕ). drop (length a) ns) (h.parts ∙ append_assoc a b h.rest)
      ∙ drop-append_seam a (b ++ h.rest);
}

advanced_twice : (t : Tape) (m n : ℕ) → advanced (advanced t m) n ≡ advanced t (m + n)
advanced_twice t m n =
    ap (λ (k : ℕ). record { sizes = t.sizes; cursor = k }) (add_assoc t.cursor m n)

pub not_advanced : (t : Tape) → advanced t 0 ≡ t
not_advanced t = ap (λ (k : ℕ). record { sizes = t.sizes; cursor = k }) (add-zero t.cursor)

-- ---- parts

pub start : PieceByPiece → (whole : Records) (t : Tape) (old : Held)
    → NextAre (sizes whole) t → text_size whole ≤ 2147483647 → IsPutTo whole whole t t old old
start pieces whole t old next small = record {
  written = pieces.start (text whole) old;
  next = next;
  read = refl;
  small = small;
}

module _ (joins : JoinedTextsAndSizes) (whole left piece after : Records) (t u : Tape)
    (old now : Held) (w : IsPutTo whole left t u old now)
    (parts : Splits left piece after) where
  pub part_next : NextAre (sizes piece) u
  part_next = next_in_front (sizes piece) (sizes after) u
      (subst (λ (ns : List ℕ). NextAre ns u) (ap sizes parts.is ∙ joins.sizes piece after) w.next)

  pub part_small : text_size piece ≤ 2147483647
  part_small = omega (arith, w.small, ap text_size parts.is, size_joined joins piece after)

  pub refused : PieceByPiece → (new : Held) (e : EncodeError)
      → Writes (text piece) now new (Err e) → Writes (text whole) old new (Err e)
  refused pieces new e put = pieces.refused (text whole) old now new (text left) (text piece)
      (text after) e w.written (ap text parts.is ∙ joins.text piece after) put

  pub more : PieceByPiece → (v : Tape) (next : Held) (done : Unit {0})
      → Writes (text piece) now next (Ok done) → v ≡ advanced u (length (sizes piece))
      → IsPutTo whole after t v old next
  more pieces v next done put is = record {
    written = pieces.more (text whole) old now next (text left) (text piece) (text after) done
        w.written (ap text parts.is ∙ joins.text piece after) put;
    next = next_behind (sizes piece) (sizes after) u v
        (subst (λ (ns : List ℕ). NextAre ns u) (ap sizes parts.is ∙ joins.sizes piece after) w.next)
        is;
    read = ap (λ (x : Tape). advanced x (length (sizes after))) is
        ∙ advanced_twice u (length (sizes piece)) (length (sizes after))
        ∙ ap (λ (k : ℕ). advanced u k) (sym (length-append (sizes piece) (sizes after))
        ∙ ap length (sym (ap sizes parts.is ∙ joins.sizes piece after))) ∙ w.read;
    small = omega (arith, w.small, ap text_size parts.is, size_joined joins piece after);
  }

-- what is left is written, and has no sizes
pub last : PieceByPiece → (whole left : Records) (t u : Tape)
    (old now new : Held) (r : Result (Unit {0}) EncodeError) → IsPutTo whole left t u old now
    → Writes (text left) now new r → Writes (text whole) old new r
last pieces whole left t u old now new r w put =
    pieces.last (text whole) old now new (text left) r w.written put

pub all_read : (whole left : Records) (t u : Tape) (old now : Held)
    → IsPutTo whole left t u old now → sizes left ≡ []
    → u ≡ advanced t (length (sizes whole))
all_read whole left t u old now w flat =
    sym (not_advanced u) ∙ ap (λ (ns : List ℕ). advanced u (length ns)) (sym flat) ∙ w.read

-- ---- embedded messages and groups

pub embedded_parts : (n len : ℕ) (rs : Records) → len ≡ text_size rs
    → text (field n (embedded rs) none)
    ≡ (tag_text n LengthDelimited ++ shortest_varint len) ++ text rs
embedded_parts n len rs is =
    let tag = tag_text n LengthDelimited in
    ap (λ (t : List ℕ). tag ++ t) (append-nil (shortest_varint (text_size rs) ++ text rs))
    ∙ sym (append_assoc tag (shortest_varint (text_size rs)) (text rs))
    ∙ ap (λ (k : ℕ). (tag ++ shortest_varint k) ++ text rs) (sym is)

module _ (n len : ℕ) (rs : Records) (t u : Tape)
    (next : NextAre (sizes (field n (embedded rs) none)) t)
    (is : unread_of t ≡ len ∷ unread_of u) where
  both : len ∷ unread_of u ≡ text_size rs ∷ ((sizes rs ++ []) ++ next.rest)
  both = sym is ∙ next.parts

  -- the size that is read is that of the message
  pub read_size : len ≡ text_size rs
  read_size = let e = both in cc

pub group_parts : (n : ℕ) (rs : Records) → text (field n (group rs) none)
    ≡ tag_text n StartGroup ++ (text rs ++ tag_text n EndGroup)
group_parts n rs =
    ap (λ (t : List ℕ). tag_text n StartGroup ++ t) (append-nil (text rs ++ tag_text n EndGroup))

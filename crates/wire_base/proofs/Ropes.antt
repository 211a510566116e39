-- Segments and tails, joined and counted.
use Rattle.std.proofs.Common.{◌≡◌, ℕ, ◌+◌, ◌<◌, List, [], ◌∷◌, ◌++◌, length, take, get_or, ap, sym, refl, ◌∙◌, append-nil, length-append, arith}
use Rattle.std.proofs.lemmas.List.{take_more}
use Rattle.std.proofs.lemmas.List.Elements.{All-append, All-push, All-same, All-nil, All-cons}
use Rattle.std.proofs.lemmas.List.Folds.{concat-append}
use Rattle.std.specs.List.{concat}
use Rattle.wire_base.specs.Rope.{RopeParts, AllFilled, tail_segments, all_segments, rope_bytes, with_segment}

-- one segment more at the end
pub concat-push : (segments : List (List ℕ)) (last : List ℕ)
    → concat (segments ++ last ∷ []) ≡ concat segments ++ last
concat-push segments last = concat-append segments (last ∷ [])
    ∙ ap (λ l. concat segments ++ l) (append-nil last)

-- a tail's segments have its bytes
pub concat-tail_segments : (tail : List ℕ) → concat (tail_segments tail) ≡ tail
concat-tail_segments [] = refl
concat-tail_segments (b ∷ bytes) = append-nil (b ∷ bytes)

-- a tail's segments are of some bytes
pub AllFilled-tail_segments : (tail : List ℕ) → AllFilled (tail_segments tail)
AllFilled-tail_segments [] = All-nil (λ s. 0 < length s)
AllFilled-tail_segments (b ∷ bytes) =
    All-cons (λ s. 0 < length s) (b ∷ bytes) [] (omega arith) (All-nil (λ s. 0 < length s))

-- all the segments joined are all the bytes
pub concat-all_segments : (segments : List (List ℕ)) (tail : List ℕ)
    → concat (segments ++ tail_segments tail) ≡ concat segments ++ tail
concat-all_segments segments tail = concat-append segments (tail_segments tail)
    ∙ ap (λ l. concat segments ++ l) (concat-tail_segments tail)

-- each segment has a byte still where the tail is one of them
pub AllFilled-all_segments : (segments : List (List ℕ)) (tail : List ℕ) → AllFilled segments
    → AllFilled (segments ++ tail_segments tail)
AllFilled-all_segments segments tail filled =
    All-append (λ s. 0 < length s) segments (tail_segments tail) filled
    (AllFilled-tail_segments tail)

-- a segment more at the end is its bytes more
pub rope_bytes-with_segment : (r : RopeParts) (bytes : List ℕ)
    → rope_bytes (with_segment r bytes) ≡ rope_bytes r ++ bytes
rope_bytes-with_segment r bytes =
    append-nil (concat (all_segments r ++ bytes ∷ []))
    ∙ concat-push (all_segments r) bytes
    ∙ ap (λ l. l ++ bytes) (concat-all_segments r.segments r.tail)

-- how many bytes there are with a segment more
pub length-with_segment : (old new : List (List ℕ)) (tail after bytes : List ℕ)
    → new ≡ (old ++ tail_segments tail) ++ bytes ∷ [] → after ≡ []
    → length (concat new ++ after) ≡ length (concat old ++ tail) + length bytes
length-with_segment old new tail after bytes is none =
    rw (
      is,
      none,
      append-nil (concat ((old ++ tail_segments tail) ++ bytes ∷ [])),
      concat-push
          (old ++ tail_segments tail) bytes,
      concat-all_segments old tail,
    )
    (length-append (concat old ++ tail) bytes)

-- with a segment more each has a byte still
pub AllFilled-with_segment : (old new : List (List ℕ)) (tail bytes : List ℕ)
    → new ≡ (old ++ tail_segments tail) ++ bytes ∷ [] → AllFilled old → 0 < length bytes
    → AllFilled new
AllFilled-with_segment old new tail bytes is filled some =
    All-same (λ s. 0 < length s) new _ is
    (All-push (λ s. 0 < length s) (old ++ tail_segments tail) bytes
    (AllFilled-all_segments old tail filled) some)

-- one segment more of those joined so far
pub concat-take_more : (segments : List (List ℕ)) (i : ℕ) (segment : List ℕ) → i < length segments
    → segment ≡ get_or segments i segment
    → concat (take (i + 1) segments) ≡ concat (take i segments) ++ segment
concat-take_more segments i segment some is =
    ap concat (take_more segments i segment some)
    ∙ concat-push (take i segments) (get_or segments i segment)
    ∙ ap (λ l. concat (take i segments) ++ l) (sym is)

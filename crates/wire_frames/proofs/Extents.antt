-- A frame by how many bytes it has.
use Rattle.std.proofs.Common.{◌≡◌, ℕ, ◌+◌, ◌-◌, ◌<◌, ◌≤◌, ◌⊎◌, inl, inr, List, [], ◌++◌, length, take, drop, ◌∷◌, refl, sym, ap, subst, ◌∙◌, arith, length-drop, length-take-le, take-append-drop}
use Rattle.std.proofs.lemmas.Bool.{cases_lt}
use Rattle.std.proofs.lemmas.List.{take-append-le, take-take}
use Rattle.std.proofs.Math.Seq.{take-append-add, drop-append-add}
use Rattle.wire_base.specs.Read.{Reads}
use Rattle.wire_frames.specs.declared.extent.Extent.{Extent}
use Rattle.wire_frames.specs.declared.frame.FrameText.{FrameText}
use Rattle.wire_frames.specs.declared.frame.Framing.{Framing}
use Rattle.wire_frames.specs.Extent.{IsExtent, text_at}
use Rattle.wire_frames.specs.Frames.{frame_of, IsFrame, IsUnfinished, IsWhole}
use Rattle.wire_frames.specs.Laws.{UnfinishedHasNoNext}
use Rattle.wire_frames.specs.Prefix.{IsPrefix}

-- the text of the frame, and what follows it
pub text_stands : (form : Framing) (limit : ℕ) (bytes : List ℕ) (x : Extent)
    → IsExtent form limit bytes x → IsWhole form limit (text_at bytes x)
text_stands form limit bytes x h =
    let run = take x.len bytes in
    let all : length run ≡ x.len = length-take-le x.len bytes h.there in
    let prefix : take x.prefix run ≡ take x.prefix bytes =
    take-take x.prefix x.len bytes h.ordered in
    let size : length (drop x.prefix run) ≡ x.len - x.prefix =
    length-drop x.prefix run ∙ ap (λ (n : ℕ). n - x.prefix) all in
    record {
      frame = record {
        prefix = take x.prefix run;
        parts = sym (take-append-drop x.prefix run);
        tells = subst (λ (k : ℕ). IsPrefix form x.compressed k (take x.prefix run)) (sym size)
            (subst (λ (t : List ℕ). IsPrefix form x.compressed (x.len - x.prefix) t) (sym prefix)
            h.tells);
        within = omega (arith, size, h.within);
      };
      prefix = omega (arith, all, h.ordered);
    }

-- a whole text at the front is a frame there
pub whole_stands : (form : Framing) (limit : ℕ) (whole : FrameText) (bytes rest : List ℕ)
    → IsWhole form limit whole → bytes ≡ whole.text ++ rest
    → Reads bytes (IsFrame form limit (frame_of whole)) rest
whole_stands form limit whole bytes rest h parts =
    record { text = whole.text; parts = parts; spelled = h.frame }

-- the frame
pub frame_stands : (form : Framing) (limit : ℕ) (bytes : List ℕ) (x : Extent)
    → IsExtent form limit bytes x
    → Reads bytes (IsFrame form limit (frame_of (text_at bytes x))) (drop x.len bytes)
frame_stands form limit bytes x h =
    whole_stands form limit (text_at bytes x) bytes (drop x.len bytes)
    (text_stands form limit bytes x h) (sym (take-append-drop x.len bytes))

-- a frame that stands at the front of more bytes stands at the front of those that have all of it
stands_in_front : (form : Framing) (limit : ℕ) (front more : List ℕ) (x : Extent)
    → IsExtent form limit (front ++ more) x → x.len ≤ length front → IsExtent form limit front x
stands_in_front form limit front more x h there =
    let short : x.prefix ≤ length front = omega (arith, h.ordered) in
    record {
      tells = subst (λ (t : List ℕ). IsPrefix form x.compressed (x.len - x.prefix) t)
          (take-append-le x.prefix front more short) h.tells;
      ordered = h.ordered;
      within = h.within;
      there = there;
    }

-- what is held is less than the frame
pub held_is_less : UnfinishedHasNoNext → (form : Framing) (limit : ℕ) (held chunk : List ℕ)
    (x : Extent) → IsUnfinished form limit held → IsExtent form limit (held ++ chunk) x
    → length held < x.len
held_is_less none form limit held chunk x begun h = at_length (cases_lt (length held) x.len)
  where
    at_length : (length held < x.len) ⊎ (x.len ≤ length held) → length held < x.len
    at_length (inl less) = less
    at_length (inr there) =
        let stands = stands_in_front form limit held chunk x h there in
        absurd (none form limit held begun
        (inl (_, drop x.len held, frame_stands form limit held x stands)))

-- so many bytes of two runs, where they reach into the second
pub take-joined : (n : ℕ) (xs ys : List ℕ) → length xs ≤ n
    → take n (xs ++ ys) ≡ xs ++ take (n - length xs) ys
take-joined n xs ys reach =
    let whole : n ≡ length xs + (n - length xs) = omega arith in
    ap (λ (m : ℕ). take m (xs ++ ys)) whole ∙ take-append-add xs ys (n - length xs)

pub drop-joined : (n : ℕ) (xs ys : List ℕ) → length xs ≤ n
    → drop n (xs ++ ys) ≡ drop (n - length xs) ys
drop-joined n xs ys reach =
    let whole : n ≡ length xs + (n - length xs) = omega arith in
    ap (λ (m : ℕ). drop m (xs ++ ys)) whole ∙ drop-append-add xs ys (n - length xs)

-- the run that is taken off, and what is left, where so many bytes are held
pub run_is : (held chunk run : List ℕ) (len n : ℕ) → n ≡ length held → length held ≤ len
    → run ≡ held ++ take (len - n) chunk → run ≡ take len (held ++ chunk)
run_is held chunk run len n size reach is =
    is ∙ ap (λ (m : ℕ). held ++ take (len - m) chunk) size ∙ sym (take-joined len held chunk reach)

pub rest_is : (held chunk rest : List ℕ) (len n : ℕ) → n ≡ length held → length held ≤ len
    → rest ≡ drop (len - n) chunk → rest ≡ drop len (held ++ chunk)
rest_is held chunk rest len n size reach is =
    is ∙ ap (λ (m : ℕ). drop (len - m) chunk) size ∙ sym (drop-joined len held chunk reach)

pub nothing_joined : (xs ys : List ℕ) → xs ++ ys ≡ [] → length xs ≡ 0
nothing_joined [] ys none = refl
nothing_joined (x ∷ xs) ys none = absurd cc

-- What stands at the front of bytes: a frame, a fault, or too little; one of them, and once.
use Rattle.std.proofs.Common.{◌≡◌, ℕ, ◌<◌, ◌≤◌, ◌⊎◌, inl, inr, Bool, List, ◌++◌, length, take, drop, refl, sym, ap, subst, ◌∙◌, append_assoc, arith, length-append, length-take-le, take-append-drop}
use Rattle.std.proofs.lemmas.Bool.{cases_lt}
use Rattle.std.proofs.lemmas.List.{take_at, drop_at}
use Rattle.wire_base.specs.Read.{Reads}
use Rattle.wire_base.specs.VarintLaws.{OneVarint, NoVarintBesideFault, OneVarintFault, VarintOrFaultStands}
use Rattle.wire_frames.specs.declared.error.FrameError.TheVariants.{FrameTooLarge}
use Rattle.wire_frames.specs.declared.frame.Frame.{Frame}
use Rattle.wire_frames.specs.declared.frame.Framing.{Framing}
use Rattle.wire_frames.specs.Frames.{IsFrame, IsUnfinished, in_prefix, in_payload, no_prefix, too_large, HasNext}
use Rattle.wire_frames.specs.Laws.{OneFrame, OneFrameFault, NoFrameBesideFault, UnfinishedHasNoNext, NextOrUnfinished}
use Rattle.wire_frames.specs.Prefix.{IsPrefix}
use Rattle.wire_frames.proofs.Prefixes.{one_prefix, no_prefix_beside_begun, no_prefix_beside_fault, no_begun_beside_fault, one_prefix_fault, PrefixOutcome, prefix_outcome}

-- ---- a frame by its prefix

pub prefix_of : (form : Framing) (limit : ℕ) (x : Frame) (bytes rest : List ℕ)
    → Reads bytes (IsFrame form limit x) rest
    → Reads bytes (IsPrefix form x.compressed (length x.payload)) (x.payload ++ rest)
prefix_of form limit x bytes rest h = record {
  text = h.spelled.prefix;
  parts = h.parts ∙ ap (λ (t : List ℕ). t ++ rest) h.spelled.parts
      ∙ append_assoc h.spelled.prefix x.payload rest;
  spelled = h.spelled.tells;
}

-- the frame behind a prefix
abbrev pub frame_behind : Bool → ℕ → List ℕ → Frame
frame_behind c len behind = record { compressed = c; payload = take len behind }

pub frame_from : (form : Framing) (limit : ℕ) (c : Bool) (len : ℕ) (bytes behind : List ℕ)
    → Reads bytes (IsPrefix form c len) behind → len ≤ limit → len ≤ length behind
    → Reads bytes (IsFrame form limit (frame_behind c len behind)) (drop len behind)
frame_from form limit c len bytes behind h fits there =
    let same = length-take-le len behind there in
    record {
      text = h.text ++ take len behind;
      parts = h.parts
          ∙ ap (λ (t : List ℕ). h.text ++ t) (sym (take-append-drop len behind))
          ∙ sym (append_assoc h.text (take len behind) (drop len behind));
      spelled = record {
        prefix = h.text;
        parts = refl;
        tells = subst (λ (k : ℕ). IsPrefix form c k h.text) (sym same) h.spelled;
        within = omega arith;
      };
    }

-- ---- one of each

abbrev frame_with : Bool → List ℕ → Frame
frame_with c payload = record { compressed = c; payload = payload }

pub one_frame : OneVarint → OneFrame
one_frame varint form limit x y bytes r s h k =
    let same = one_prefix varint form _ _ _ _ bytes _ _
    (prefix_of form limit x bytes r h) (prefix_of form limit y bytes s k) in
    let payload : x.payload ≡ y.payload = sym (take_at x.payload r (length y.payload) same.value)
    ∙ ap (λ (t : List ℕ). take (length y.payload) t) same.rest
    ∙ take_at y.payload s (length y.payload) refl in (
      ap (λ (c : Bool). frame_with c x.payload) same.flag
          ∙ ap (λ (p : List ℕ). frame_with y.compressed p) payload,
      sym (drop_at x.payload r (length y.payload) same.value)
          ∙ ap (λ (t : List ℕ). drop (length y.payload) t) same.rest
          ∙ drop_at y.payload s (length y.payload) refl,
    )

pub one_fault : OneVarint → NoVarintBesideFault → OneFrameFault
one_fault varint beside form limit bytes e f (no_prefix h) (no_prefix k) =
    one_prefix_fault form bytes e f h k
one_fault varint beside form limit bytes e f (no_prefix h) (too_large c len behind k large is) =
    absurd (no_prefix_beside_fault beside form c len bytes behind e k h)
one_fault varint beside form limit bytes e f (too_large c len behind h large is) (no_prefix k) =
    absurd (no_prefix_beside_fault beside form c len bytes behind f h k)
one_fault varint beside form limit bytes e f (too_large c len behind h large is)
    (too_large d other rest k big named) =
    is ∙ ap FrameTooLarge (one_prefix varint form c d len other bytes behind rest h k).value
    ∙ sym named

-- ---- no two beside one another

pub no_frame_beside_fault : OneVarint → NoVarintBesideFault → NoFrameBesideFault
no_frame_beside_fault varint beside form limit bytes e (x, rest, h) (no_prefix fault) =
    no_prefix_beside_fault beside form _ _ bytes _ e (prefix_of form limit x bytes rest h) fault
no_frame_beside_fault varint beside form limit bytes e (x, rest, h)
    (too_large c len behind k large is) =
    let same = one_prefix varint form _ _ _ _ bytes _ _ (prefix_of form limit x bytes rest h) k in
    omega (arith, same.value, h.spelled.within, large)

pub unfinished_has_no_next : OneVarint → NoVarintBesideFault → OneVarintFault
    → UnfinishedHasNoNext
unfinished_has_no_next varint beside one form limit bytes (in_prefix begun) (inl (x, rest, h)) =
    no_prefix_beside_begun beside form _ _ bytes _ (prefix_of form limit x bytes rest h) begun
unfinished_has_no_next varint beside one form limit bytes (in_prefix begun)
    (inr (e, no_prefix fault)) = no_begun_beside_fault one form bytes e begun fault
unfinished_has_no_next varint beside one form limit bytes (in_prefix begun)
    (inr (e, too_large c len behind h large is)) =
    no_prefix_beside_begun beside form c len bytes behind h begun
unfinished_has_no_next varint beside one form limit bytes (in_payload c len behind h fits few)
    (inl (x, rest, k)) =
    let same = one_prefix varint form _ _ _ _ bytes _ _ h (prefix_of form limit x bytes rest k) in
    omega (arith, same.value, ap length same.rest, length-append x.payload rest, few)
unfinished_has_no_next varint beside one form limit bytes (in_payload c len behind h fits few)
    (inr (e, no_prefix fault)) = no_prefix_beside_fault beside form c len bytes behind e h fault
unfinished_has_no_next varint beside one form limit bytes (in_payload c len behind h fits few)
    (inr (e, too_large d other rest k large is)) =
    let same = one_prefix varint form c d len other bytes behind rest h k in
    omega (arith, same.value, fits, large)

-- ---- one of the three stands

abbrev Outcome : Framing → ℕ → List ℕ → Type 0
Outcome form limit bytes = HasNext form limit bytes ⊎ IsUnfinished form limit bytes

in_limit : (form : Framing) (limit : ℕ) (c : Bool) (len : ℕ) (bytes behind : List ℕ)
    → Reads bytes (IsPrefix form c len) behind → len ≤ limit
    → (length behind < len) ⊎ (len ≤ length behind) → Outcome form limit bytes
in_limit form limit c len bytes behind h fits (inl few) = inr (in_payload c len behind h fits few)
in_limit form limit c len bytes behind h fits (inr there) =
    inl (inl (
      frame_behind c len behind,
      drop len behind,
      frame_from form limit c len bytes behind h fits there,
    ))

at_prefix : (form : Framing) (limit : ℕ) (c : Bool) (len : ℕ) (bytes behind : List ℕ)
    → Reads bytes (IsPrefix form c len) behind → (limit < len) ⊎ (len ≤ limit)
    → Outcome form limit bytes
at_prefix form limit c len bytes behind h (inl large) =
    inl (inr (FrameTooLarge len, too_large c len behind h large refl))
at_prefix form limit c len bytes behind h (inr fits) =
    in_limit form limit c len bytes behind h fits (cases_lt (length behind) len)

at_outcome : (form : Framing) (limit : ℕ) (bytes : List ℕ) → PrefixOutcome form bytes
    → Outcome form limit bytes
at_outcome form limit bytes (inl (c, len, behind, h)) =
    at_prefix form limit c len bytes behind h (cases_lt limit len)
at_outcome form limit bytes (inr (inl begun)) = inr (in_prefix begun)
at_outcome form limit bytes (inr (inr (e, fault))) = inl (inr (e, no_prefix fault))

pub next_or_unfinished : VarintOrFaultStands → NextOrUnfinished
next_or_unfinished stands form limit bytes =
    at_outcome form limit bytes (prefix_outcome stands form bytes)

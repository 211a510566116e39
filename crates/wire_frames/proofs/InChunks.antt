-- Frames one after another, however their bytes come.
use Rattle.std.proofs.Common.{◌≡◌, ℕ, List, [], ◌∷◌, ◌++◌, length, length-append, refl, sym, ap, subst, ◌∙◌, arith}
use Rattle.std.proofs.lemmas.Nat.{from_be_bytes-to_be_bytes_4}
use Rattle.std.specs.Int.{w32, to_be_bytes}
use Rattle.wire_base.specs.VarintLaws.{DelimitedReadsBack}
use Rattle.wire_frames.specs.declared.error.FrameError.{FrameError}
use Rattle.wire_frames.specs.declared.frame.Frame.{Frame}
use Rattle.wire_frames.specs.declared.frame.Framing.{Framing}
use Rattle.wire_frames.specs.Encoding.{grpc_text}
use Rattle.wire_frames.specs.Frames.{Frames, HoldsFrame, FrameFault, no_prefix, too_large}
use Rattle.wire_frames.specs.Laws.{BytesBehind, FramesAddUp, OneFrame, OneFrameList, FrameMovesOn, WrittenIsRead}
use Rattle.wire_frames.specs.Prefix.{flag_of}
use Rattle.wire_frames.proofs.Prefixes.{Reads-behind, fault_behind, prefix_is_some}

-- ---- bytes behind

Frames-behind : (form : Framing) (limit : ℕ) (xs : List Frame) (old new more : List ℕ)
    → Frames form limit xs old new → Frames form limit xs (old ++ more) (new ++ more)
Frames-behind form limit [] old new more h = ap (λ (t : List ℕ). t ++ more) h
Frames-behind form limit (x ∷ xs) old new more (mid, first, others) = (
  mid ++ more,
  Reads-behind old mid more first,
  Frames-behind form limit xs mid new more others,
)

FrameFault-behind : (form : Framing) (limit : ℕ) (bytes more : List ℕ) (e : FrameError)
    → FrameFault form limit bytes e → FrameFault form limit (bytes ++ more) e
FrameFault-behind form limit bytes more e (no_prefix fault) =
    no_prefix (fault_behind form bytes more e fault)
FrameFault-behind form limit bytes more e (too_large c len behind h large is) =
    too_large c len (behind ++ more) (Reads-behind bytes behind more h) large is

pub bytes_behind : BytesBehind
bytes_behind = record { frames = Frames-behind; fault = FrameFault-behind }

-- ---- frames behind frames

Frames-joined : (form : Framing) (limit : ℕ) (xs ys : List Frame) (old mid new : List ℕ)
    → Frames form limit xs old mid → Frames form limit ys mid new
    → Frames form limit (xs ++ ys) old new
Frames-joined form limit [] ys old mid new h k =
    subst (λ (t : List ℕ). Frames form limit ys t new) (sym h) k
Frames-joined form limit (x ∷ xs) ys old mid new (first, read, others) k =
    (first, read, Frames-joined form limit xs ys first mid new others k)

pub frames_add_up : FramesAddUp
frames_add_up = record {
  one_more = λ form limit xs x old mid new h k.
      Frames-joined form limit xs (x ∷ []) old mid new h (new, k, refl);
  joined = Frames-joined;
}

-- ---- one list

module _ (one : OneFrame) (form : Framing) (limit : ℕ) where
  pub one_list_here : (xs ys : List Frame) (bytes r s : List ℕ)
      → Frames form limit xs bytes r → Frames form limit ys bytes s
      → (HoldsFrame form limit r → ⊥) → (HoldsFrame form limit s → ⊥)
      → (xs ≡ ys) × (r ≡ s)
  one_list_here [] [] bytes r s h k stops ends = (refl, sym h ∙ k)
  one_list_here [] (y ∷ ys) bytes r s h (mid, read, others) stops ends =
      absurd (stops (subst (λ (t : List ℕ). HoldsFrame form limit t) h (y, mid, read)))
  one_list_here (x ∷ xs) [] bytes r s (mid, read, others) k stops ends =
      absurd (ends (subst (λ (t : List ℕ). HoldsFrame form limit t) k (x, mid, read)))
  one_list_here (x ∷ xs) (y ∷ ys) bytes r s (mid, read, others) (end, took, rest) stops ends =
      let first = one form limit x y bytes mid end read took in
      let behind = one_list_here xs ys mid r s others
      (subst (λ (t : List ℕ). Frames form limit ys t s) (sym first.1) rest) stops ends in (
        ap (λ (z : Frame). z ∷ xs) first.0 ∙ ap (λ (zs : List Frame). y ∷ zs) behind.0,
        behind.1,
      )

pub one_list : OneFrame → OneFrameList
one_list one form limit = one_list_here one form limit

-- ---- a byte at least

pub frame_moves_on : FrameMovesOn
frame_moves_on form limit x bytes rest h =
    let some = prefix_is_some form x.compressed (length x.payload) h.spelled.prefix
    h.spelled.tells in
    omega (
      arith,
      some,
      ap length h.parts ∙ length-append h.text rest,
      ap length h.spelled.parts ∙ length-append h.spelled.prefix x.payload,
    )

-- ---- what is written is read

pub written_is_read : DelimitedReadsBack → WrittenIsRead
written_is_read back = record {
  delimited = λ limit payload more fits small.
      let h = back payload more small in
      record {
        text = h.text;
        parts = h.parts;
        spelled = record {
          prefix = h.spelled.text;
          parts = h.spelled.parts;
          tells = (refl, h.spelled.spelled);
          within = fits;
        };
      };
  grpc = λ limit frame more fits small. record {
    text = grpc_text frame.compressed frame.payload;
    parts = refl;
    spelled = record {
      prefix = flag_of frame.compressed ∷ to_be_bytes w32 (length frame.payload);
      parts = refl;
      tells = record {
        number = to_be_bytes w32 (length frame.payload);
        parts = refl;
        four = refl;
        value = from_be_bytes-to_be_bytes_4 (length frame.payload) small;
      };
      within = fits;
    };
  };
}

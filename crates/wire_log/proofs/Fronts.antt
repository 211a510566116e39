-- The front of a log that is put.
use Rattle.std.proofs.Common.{◌≡◌, ◌≢◌, ℕ, ◌≤◌, inl, List, [], ◌∷◌, ◌++◌, length, Option, Some, None, refl, sym, ap, subst, ◌∙◌, append_assoc, length-append, arith}
use Rattle.std.specs.Prelude.{IfNone}
use Rattle.std.proofs.lemmas.List.{append-nil}
use Rattle.wire_base.specs.Read.{Reads}
use Rattle.wire_frames.specs.declared.frame.Frame.{Frame}
use Rattle.wire_frames.specs.declared.frame.FrameText.{FrameText}
use Rattle.wire_frames.specs.declared.frame.Framing.{Framing}
use Rattle.wire_frames.specs.Frames.{frame_of, IsFrame, IsWhole, Frames, IsUnfinished}
use Rattle.wire_frames.specs.Laws.{FramesAddUp, OneFrame, UnfinishedHasNoNext}
use Rattle.wire_frames.specs.Stream.{Stream, unread}
use Rattle.wire_log.specs.declared.entry.Stop.{Stop}
use Rattle.wire_log.specs.declared.entry.Stop.TheVariants as stops
use Rattle.wire_log.specs.Entries.{HoldsRecords, TakesEntry, HoldsEntry, StopsHere, no_memory}
use Rattle.wire_log.specs.Fronts.{HaveRecords, ReadsEntries, IsLongest, PutsFront, StopsBehind}

pub at_none : {T : Type 0} (o : Option T) (P : Type 0) → ((x : T) → o ≡ Some x → ⊥) → IfNone o P → P
at_none None P full h = h
at_none (Some x) P full h = absurd (full x refl)

-- the frame of a text at the front
pub whole_read : (form : Framing) (limit : ℕ) (whole : FrameText) (bytes rest : List ℕ)
    → IsWhole form limit whole → bytes ≡ whole.text ++ rest
    → Reads bytes (IsFrame form limit (frame_of whole)) rest
whole_read form limit whole bytes rest h parts =
    record { text = whole.text; parts = parts; spelled = h.frame }

-- ---- the longest front

frames_shorten : (form : Framing) (limit : ℕ) (xs : List Frame) (bytes rest : List ℕ)
    → Frames form limit xs bytes rest → length rest ≤ length bytes
frames_shorten form limit [] bytes rest h = omega (arith, ap length h)
frames_shorten form limit (x ∷ xs) bytes rest (mid, first, others) =
    omega (
      arith,
      frames_shorten form limit xs mid rest others,
      ap length first.parts,
      length-append first.text mid,
    )

-- frames up to where none of records stands reach as far as any that are of records
module _ (one : OneFrame) (form : Framing) (limit : ℕ) where
  reach : (xs ys : List Frame) (bytes r s : List ℕ) → Frames form limit xs bytes r
      → (HoldsEntry form limit r → ⊥) → Frames form limit ys bytes s → HaveRecords ys
      → length r ≤ length s
  reach xs [] bytes r s h ends k records =
      omega (arith, frames_shorten form limit xs bytes r h, ap length k)
  reach [] (y ∷ ys) bytes r s h ends (mid, read, others) ((fields, spelled), records) =
      absurd (ends (subst (λ (t : List ℕ). HoldsEntry form limit t) h
      (y, mid, fields, read, spelled)))
  reach (x ∷ xs) (y ∷ ys) bytes r s (mid, first, more) ends (end, read, others)
      ((fields, spelled), records) =
      let same = one form limit x y bytes mid end first read in
      reach xs ys mid r s more ends
      (subst (λ (t : List ℕ). Frames form limit ys t s) (sym same.1) others) records

  pub longest : (bytes rest : List ℕ) → ReadsEntries form limit bytes rest
      → (HoldsEntry form limit rest → ⊥) → IsLongest form limit bytes rest
  longest bytes rest h ends other k =
      reach h.frames k.frames bytes rest other h.read ends k.read k.records

pub no_entry_unfinished : UnfinishedHasNoNext → (form : Framing) (limit : ℕ) (bytes : List ℕ)
    → IsUnfinished form limit bytes → HoldsEntry form limit bytes → ⊥
no_entry_unfinished none form limit bytes begun (frame, rest, fields, read, spelled) =
    none form limit bytes begun (inl (frame, rest, read))

-- ---- what is put

HaveRecords-push : (xs : List Frame) (x : Frame) → HaveRecords xs → HoldsRecords x.payload
    → HaveRecords (xs ++ x ∷ [])
HaveRecords-push [] x h k = (k, tt)
HaveRecords-push (y ∷ xs) x h k = (h.0, HaveRecords-push xs x h.1 k)

-- so far a front was put, and the decoder stands behind it
pub record HasPut (was now : Stream) (old new : List ℕ) : Type 0 where
  pub front : PutsFront was (unread now) old new
  pub framing : now.framing ≡ was.framing
  pub limit : now.limit ≡ was.limit

pub entry_put : FramesAddUp → (was now next : Stream) (old new out : List ℕ) (whole : FrameText)
    → HasPut was now old new → TakesEntry now next whole → out ≡ new ++ whole.text
    → HasPut was next old out
entry_put sums was now next old new out whole h k put =
    let before = h.front.entries.frames in
    let frame = rw (h.framing, h.limit) at k.frame in
    let taken = whole_read was.framing was.limit whole (unread now) (unread next) frame k.parts in
    record {
      front = record {
        text = h.front.text ++ whole.text;
        parts = h.front.parts ∙ ap (λ (t : List ℕ). h.front.text ++ t) k.parts
            ∙ sym (append_assoc h.front.text whole.text (unread next));
        put = put ∙ ap (λ (t : List ℕ). t ++ whole.text) h.front.put
            ∙ append_assoc old h.front.text whole.text;
        entries = record {
          frames = before ++ frame_of whole ∷ [];
          read = sums.one_more was.framing was.limit before (frame_of whole) (unread was)
              (unread now) (unread next) h.front.entries.read taken;
          records = HaveRecords-push before (frame_of whole) h.front.entries.records k.records;
        };
      };
      framing = ap (λ (s : Stream). s.framing) k.rest ∙ h.framing;
      limit = ap (λ (s : Stream). s.limit) k.rest ∙ h.limit;
    }

-- the next is none
pub stops_behind : OneFrame → (was now : Stream) (old new out : List ℕ) (e : Stop)
    → HasPut was now old new → StopsHere now.framing now.limit (unread now) e
    → (e ≢ stops.OutOfMemory → HoldsEntry now.framing now.limit (unread now) → ⊥) → out ≡ new
    → StopsBehind was old out e
stops_behind one was now old new out e h stop only same =
    let here = rw (h.framing, h.limit) at stop in
    let ends = rw (h.framing, h.limit) at only in
    record {
      rest = unread now;
      front = subst (λ (t : List ℕ). PutsFront was (unread now) old t) (sym same) h.front;
      stop = here;
      longest = λ other. longest one was.framing was.limit (unread was) (unread now)
          h.front.entries (ends other);
    }

-- it is there, and memory ran out when it was put
pub wants_memory : (was now next : Stream) (old new out : List ℕ) (whole : FrameText)
    (e : Stop) → HasPut was now old new → TakesEntry now next whole → e ≡ stops.OutOfMemory
    → out ≡ new → StopsBehind was old out e
wants_memory was now next old new out whole e h k is same =
    let frame = rw (h.framing, h.limit) at k.frame in
    let taken = whole_read was.framing was.limit whole (unread now) (unread next) frame k.parts in
    record {
      rest = unread now;
      front = subst (λ (t : List ℕ). PutsFront was (unread now) old t) (sym same) h.front;
      stop = no_memory (frame_of whole, unread next, taken) is;
      longest = λ other. absurd (other is);
    }

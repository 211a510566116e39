-- What is kept of a log so far.
use Rattle.std.proofs.Common.{◌≡◌, ◌≢◌, ℕ, ◌-◌, List, [], ◌∷◌, ◌++◌, length, refl, sym, ap, subst, ◌∙◌, append_assoc}
use Rattle.std.proofs.lemmas.List.{append-nil}
use Rattle.wire_frames.specs.declared.frame.FrameText.{FrameText}
use Rattle.wire_frames.specs.Frames.{frame_of}
use Rattle.wire_frames.specs.Stream.{Stream, unread}
use Rattle.wire_log.specs.declared.entry.Broken.{Broken}
use Rattle.wire_log.specs.declared.entry.LogReader.{LogReader}
use Rattle.wire_log.specs.declared.entry.Stop.{Stop}
use Rattle.wire_log.specs.declared.entry.Stop.TheVariants as stops
use Rattle.wire_log.specs.Entries.{TakesEntry, LeavesOut, no_memory}
use Rattle.wire_log.specs.Kept.{no_frame, kept, dropped, PutsKept, StopsKeeping}
use Rattle.wire_log.proofs.Fronts.{whole_read}
use Rattle.wire_run.specs.declared.frame_place.FramePlace.{FramePlace}

-- so far a front was kept, and the log stands behind it
pub record HasKept (was now : LogReader) (old new : List ℕ) (told tells : List Broken)
    : Type 0 where
  pub front : PutsKept was (unread now.decoder) old new told tells
  pub fed : now.fed ≡ was.fed
  pub framing : now.decoder.framing ≡ was.decoder.framing
  pub limit : now.decoder.limit ≡ was.decoder.limit

pub nothing_kept : (was : LogReader) (old : List ℕ) (told : List Broken)
    → HasKept was was old old told told
nothing_kept was old told = record {
  front = record {
    text = [];
    left_out = [];
    put = sym (append-nil old);
    tell = sym (append-nil told);
    keeps = no_frame refl refl refl;
  };
  fed = refl;
  framing = refl;
  limit = refl;
}

pub entry_kept : (was now next : LogReader) (old new out : List ℕ) (told tells : List Broken)
    (whole : FrameText) → HasKept was now old new told tells
    → TakesEntry now.decoder next.decoder whole → next.fed ≡ now.fed → out ≡ new ++ whole.text
    → HasKept was next old out told tells
entry_kept was now next old new out told tells whole h k fed put =
    let frame = rw (h.framing, h.limit) at k.frame in
    record {
      front = record {
        text = h.front.text ++ whole.text;
        left_out = h.front.left_out;
        put = put ∙ ap (λ (t : List ℕ). t ++ whole.text) h.front.put
            ∙ append_assoc old h.front.text whole.text;
        tell = h.front.tell;
        keeps = kept whole (unread now.decoder) h.front.text h.front.keeps frame k.parts
            k.records refl;
      };
      fed = fed ∙ h.fed;
      framing = ap (λ (s : Stream). s.framing) k.rest ∙ h.framing;
      limit = ap (λ (s : Stream). s.limit) k.rest ∙ h.limit;
    }

pub entry_dropped : (was now next : LogReader) (old new : List ℕ)
    (told tells more : List Broken) (broken : Broken) → HasKept was now old new told tells
    → LeavesOut now next broken → next.fed ≡ now.fed → more ≡ tells ++ broken ∷ []
    → HasKept was next old new told more
entry_dropped was now next old new told tells more broken h k fed tell =
    let frame = rw (h.framing, h.limit) at k.frame in
    record {
      front = record {
        text = h.front.text;
        left_out = h.front.left_out ++ broken ∷ [];
        put = h.front.put;
        tell = tell ∙ ap (λ (t : List Broken). t ++ broken ∷ []) h.front.tell
            ∙ append_assoc told h.front.left_out (broken ∷ []);
        keeps = dropped k.whole (unread now.decoder) h.front.left_out broken h.front.keeps frame
            k.parts k.is_broken
            (ap (λ (p : FramePlace). p.start) k.place
            ∙ ap (λ (n : ℕ). n - length (unread now.decoder)) h.fed) refl;
      };
      fed = fed ∙ h.fed;
      framing = ap (λ (s : Stream). s.framing) k.rest ∙ h.framing;
      limit = ap (λ (s : Stream). s.limit) k.rest ∙ h.limit;
    }

memory_is_other : (e : Stop) → e ≡ stops.OutOfMemory → (broken : Broken) → e ≢ stops.Records broken
memory_is_other e is broken other =
    let no : stops.OutOfMemory ≡ stops.Records broken = sym is ∙ other in absurd cc

-- a frame follows, and memory ran out when it was put
pub keeping_wants : (was now : LogReader) (next : Stream) (old new out : List ℕ)
    (told tells : List Broken) (whole : FrameText) (e : Stop) → HasKept was now old new told tells
    → TakesEntry now.decoder next whole → e ≡ stops.OutOfMemory → out ≡ new
    → StopsKeeping was old out told tells e
keeping_wants was now next old new out told tells whole e h k is same =
    let frame = rw (h.framing, h.limit) at k.frame in
    let taken = whole_read was.decoder.framing was.decoder.limit whole (unread now.decoder)
    (unread next) frame k.parts in
    record {
      rest = unread now.decoder;
      front = subst (λ (t : List ℕ). PutsKept was (unread now.decoder) old t told tells)
          (sym same) h.front;
      stop = no_memory (frame_of whole, unread next, taken) is;
      no_records = memory_is_other e is;
    }

-- Loops over frames and over chunks.
use Rattle.std.proofs.Common.{◌≡◌, ◌≢◌, ℕ, List, [], ◌∷◌, ◌++◌, Result, Ok, Err, sym, ap, subst, ◌∙◌, append_assoc}
use Rattle.std.specs.Prelude.{OnOk}
use Rattle.std.specs.Result.{result_or}
use Rattle.std.proofs.lemmas.List.{append-nil}
use Rattle.std.specs.List.{concat}
use Rattle.wire_frames.specs.declared.error.FrameError.{FrameError}
use Rattle.wire_frames.specs.declared.error.FrameError.TheVariants.{OutOfMemory, Truncated, LengthTooLong, UnknownFlag, FrameTooLarge}
use Rattle.wire_frames.specs.declared.frame.Frame.{Frame}
use Rattle.wire_frames.specs.declared.frame.Framing.{Framing}
use Rattle.wire_frames.specs.Frames.{Frames, IsUnfinished, FrameFault, no_prefix, too_large, FrameRefusal, EndRefusal, fault, memory, next, cut_short}
use Rattle.wire_frames.specs.Laws.{BytesBehind, FramesAddUp}
use Rattle.wire_frames.specs.declared.frame.Framing.TheVariants.{Delimited, Grpc}
use Rattle.wire_frames.specs.Prefix.{PrefixFault}
use Rattle.wire_frames.specs.Stops.{StopsAt}
use Rattle.wire_frames.specs.Stream.{Stream, unread}

-- what is said of a success, where another error was put in the place of one
pub said_of_success : {T E D : Type 0} (r : Result T E) (e : D) (x : T) (P : Type 0)
    → Ok x ≡ result_or r (Err e) → OnOk r P → P
said_of_success (Ok y) e x P is h = h
said_of_success (Err y) e x P is h = absurd cc

-- so far some frames were taken off the decoder, and stand behind those before
pub record HasTaken (was now : Stream) (before frames : List Frame) : Type 0 where
  pub more : List Frame
  pub listed : frames ≡ before ++ more
  pub read : Frames was.framing was.limit more (unread was) (unread now)
  pub framing : now.framing ≡ was.framing
  pub limit : now.limit ≡ was.limit

-- so far some of all bytes were fed, and the frames are those at their front
pub record IsFed (form : Framing) (limit : ℕ) (all : List ℕ) (chunks : List (List ℕ))
    (decoder : Stream) (frames : List Frame) : Type 0 where
  pub fed : List ℕ
  pub parts : all ≡ fed ++ concat chunks
  pub read : Frames form limit frames fed (unread decoder)
  pub unfinished : IsUnfinished form limit (unread decoder)
  pub framing : decoder.framing ≡ form
  pub limit_is : decoder.limit ≡ limit

module _ (form : Framing) (limit : ℕ) (all : List ℕ) where
  -- before the first chunk
  pub nothing_fed : (chunks : List (List ℕ)) (decoder : Stream) (frames : List Frame)
      → IsUnfinished form limit [] → all ≡ concat chunks
      → decoder ≡ record { framing = form; limit = limit; held = []; chunk = [] } → frames ≡ []
      → IsFed form limit all chunks decoder frames
  nothing_fed chunks decoder frames begun parts is none = record {
    fed = [];
    parts = parts;
    read = subst (λ (xs : List Frame). Frames form limit xs [] (unread decoder)) (sym none)
        (sym (ap unread is));
    unfinished = subst (λ (t : List ℕ). IsUnfinished form limit t) (sym (ap unread is)) begun;
    framing = ap (λ (s : Stream). s.framing) is;
    limit_is = ap (λ (s : Stream). s.limit) is;
  }

  -- a chunk behind them
  fed_parts : (fed chunk : List ℕ) (chunks others : List (List ℕ)) → all ≡ fed ++ concat chunks
      → chunks ≡ chunk ∷ others → all ≡ (fed ++ chunk) ++ concat others
  fed_parts fed chunk chunks others parts is =
      parts ∙ ap (λ (cs : List (List ℕ)). fed ++ concat cs) is
      ∙ sym (append_assoc fed chunk (concat others))

  -- the frames of a chunk more
  pub chunk_more : BytesBehind → FramesAddUp → (chunk : List ℕ) (chunks others : List (List ℕ))
      (was now done : Stream) (frames listed more : List Frame)
      → IsFed form limit all chunks was frames → chunks ≡ chunk ∷ others
      → unread now ≡ unread was ++ chunk → listed ≡ frames ++ more
      → Frames form limit more (unread now) (unread done) → IsUnfinished form limit (unread done)
      → done.framing ≡ form → done.limit ≡ limit → IsFed form limit all others done listed
  chunk_more behind sums chunk chunks others was now done frames listed more h is text list read
      begun framing limit_is =
      let before = subst (λ (t : List ℕ). Frames form limit frames (h.fed ++ chunk) t) (sym text)
      (behind.frames form limit frames h.fed (unread was) chunk h.read) in
      record {
        fed = h.fed ++ chunk;
        parts = fed_parts h.fed chunk chunks others h.parts is;
        read = subst (λ (xs : List Frame). Frames form limit xs (h.fed ++ chunk) (unread done))
            (sym list)
            (sums.joined form limit frames more (h.fed ++ chunk) (unread now) (unread done) before
            read);
        unfinished = begun;
        framing = framing;
        limit_is = limit_is;
      }

  -- no later bytes change a refusal for a fault
  refusal_behind : BytesBehind → (bytes more : List ℕ) (e : FrameError) → e ≢ OutOfMemory
      → e ≢ Truncated → EndRefusal form limit bytes e → EndRefusal form limit (bytes ++ more) e
  refusal_behind behind bytes more e other whole (next (fault h)) =
      next (fault (behind.fault form limit bytes more e h))
  refusal_behind behind bytes more e other whole (next (memory h is)) = absurd (other is)
  refusal_behind behind bytes more e other whole (cut_short h some is) = absurd (whole is)

  -- a fault in a chunk more
  pub stops_in_chunk : BytesBehind → FramesAddUp → (chunk : List ℕ)
      (chunks others : List (List ℕ)) (was now : Stream) (frames : List Frame) (e : FrameError)
      → IsFed form limit all chunks was frames → chunks ≡ chunk ∷ others
      → unread now ≡ unread was ++ chunk → e ≢ OutOfMemory → e ≢ Truncated
      → StopsAt form limit (unread now) e → StopsAt form limit all e
  stops_in_chunk behind sums chunk chunks others was now frames e h is text other whole k =
      let after = concat others in
      let parts = fed_parts h.fed chunk chunks others h.parts is in
      let before = subst (λ (t : List ℕ). Frames form limit frames (h.fed ++ chunk) t) (sym text)
      (behind.frames form limit frames h.fed (unread was) chunk h.read) in
      let joined = sums.joined form limit frames k.frames (h.fed ++ chunk) (unread now) k.rest
      before k.read in
      record {
        frames = frames ++ k.frames;
        rest = k.rest ++ after;
        read = subst (λ (t : List ℕ). Frames form limit (frames ++ k.frames) t (k.rest ++ after))
            (sym parts)
            (behind.frames form limit (frames ++ k.frames) (h.fed ++ chunk) k.rest after joined);
        refused = refusal_behind behind k.rest after e other whole k.refused;
      }

  -- the input ends inside of a frame
  pub stops_at_end : (chunks : List (List ℕ)) (decoder : Stream) (frames : List Frame)
      (e : FrameError) → IsFed form limit all chunks decoder frames → chunks ≡ []
      → unread decoder ≢ [] → e ≡ Truncated → StopsAt form limit all e
  stops_at_end chunks decoder frames e h none some is =
      let parts : all ≡ h.fed = h.parts ∙ ap (λ (cs : List (List ℕ)). h.fed ++ concat cs) none
      ∙ append-nil h.fed in
      record {
        frames = frames;
        rest = unread decoder;
        read = subst (λ (t : List ℕ). Frames form limit frames t (unread decoder)) (sym parts)
            h.read;
        refused = cut_short h.unfinished some is;
      }

-- a stream that goes on is not cut short
prefix_is_whole : (form : Framing) (bytes : List ℕ) (e : FrameError) → PrefixFault form bytes e
    → e ≢ Truncated
prefix_is_whole Delimited bytes e h is =
    let no : LengthTooLong ≡ Truncated = sym h.1 ∙ is in absurd cc
prefix_is_whole Grpc bytes e (flag, more, parts, large, named) is =
    let no : UnknownFlag flag ≡ Truncated = sym named ∙ is in absurd cc

fault_is_whole : (form : Framing) (limit : ℕ) (bytes : List ℕ) (e : FrameError)
    → FrameFault form limit bytes e → e ≢ Truncated
fault_is_whole form limit bytes e (no_prefix h) is = prefix_is_whole form bytes e h is
fault_is_whole form limit bytes e (too_large c len behind h large named) is =
    let no : FrameTooLarge len ≡ Truncated = sym named ∙ is in absurd cc

pub not_truncated : (form : Framing) (limit : ℕ) (bytes : List ℕ) (e : FrameError)
    → FrameRefusal form limit bytes e → e ≢ Truncated
not_truncated form limit bytes e (fault h) is = fault_is_whole form limit bytes e h is
not_truncated form limit bytes e (memory h named) is =
    let no : OutOfMemory ≡ Truncated = sym named ∙ is in absurd cc

-- Why no frame of records is taken off the front.
use Rattle.std.proofs.Common.{◌≡◌, ◌≢◌, ℕ, ◌⊎◌, inl, inr, List, [], refl, sym, subst, ◌∙◌}
use Rattle.std.specs.Prelude.{Result, Ok, Err, IfErr, OnErr}
use Rattle.wire_base.specs.Charge.{charge}
use Rattle.wire_base.specs.Ending.{by_input}
use Rattle.wire_base.specs.FaultLaws.{NoListBesideFault}
use Rattle.wire_base.specs.Read.{Reads}
use Rattle.wire_base.specs.RecordLaws.{WholeInput}
use Rattle.wire_frames.specs.declared.error.FrameError.{FrameError}
use Rattle.wire_frames.specs.declared.error.FrameError.TheVariants.{LengthTooLong, UnknownFlag, FrameTooLarge, OutOfMemory}
use Rattle.wire_frames.specs.declared.frame.Frame.{Frame}
use Rattle.wire_frames.specs.declared.frame.Framing.{Framing}
use Rattle.wire_frames.specs.declared.frame.Framing.TheVariants.{Delimited, Grpc}
use Rattle.wire_frames.specs.Frames.{IsFrame, FrameFault, no_prefix, too_large, FrameRefusal, fault, memory}
use Rattle.wire_frames.specs.Laws.{NoFrameBesideFault, OneFrame}
use Rattle.wire_frames.specs.Prefix.{PrefixFault}
use Rattle.wire_log.specs.declared.entry.Broken.{Broken}
use Rattle.wire_log.specs.declared.entry.LogReader.{LogReader}
use Rattle.wire_log.specs.declared.entry.Stop.{Stop}
use Rattle.wire_log.specs.declared.entry.Stop.TheVariants as stops
use Rattle.wire_log.specs.Entries.{entry_limits, SpellsEntry, HoldsRecords, HoldsEntry, LeavesOut, StopsHere, no_frame, no_memory}
use Rattle.wire_read.specs.declared.event.Fault.{Fault}
use Rattle.wire_read.specs.Faults.{IsFault}

-- ---- no frame

prefix_wants_none : (form : Framing) (bytes : List ℕ) (e : FrameError) → PrefixFault form bytes e
    → e ≢ OutOfMemory
prefix_wants_none Delimited bytes e h is =
    let no : LengthTooLong ≡ OutOfMemory = sym h.1 ∙ is in absurd cc
prefix_wants_none Grpc bytes e (flag, more, parts, large, named) is =
    let no : UnknownFlag flag ≡ OutOfMemory = sym named ∙ is in absurd cc

fault_wants_none : (form : Framing) (limit : ℕ) (bytes : List ℕ) (e : FrameError)
    → FrameFault form limit bytes e → e ≢ OutOfMemory
fault_wants_none form limit bytes e (no_prefix h) is = prefix_wants_none form bytes e h is
fault_wants_none form limit bytes e (too_large c len behind h large named) is =
    let no : FrameTooLarge len ≡ OutOfMemory = sym named ∙ is in absurd cc

-- the stop of a frame's error
abbrev pub FrameStop : FrameError → Stop → Type 0
FrameStop error e = ((error ≢ OutOfMemory) × (e ≡ stops.Frame error))
    ⊎ ((error ≡ OutOfMemory) × (e ≡ stops.OutOfMemory))

pub frame_stops : (form : Framing) (limit : ℕ) (bytes : List ℕ) (error : FrameError) (e : Stop)
    → FrameRefusal form limit bytes error → FrameStop error e → StopsHere form limit bytes e
frame_stops form limit bytes error e (fault h) (inl (other, is)) = no_frame error h is
frame_stops form limit bytes error e (fault h) (inr (wants, is)) =
    absurd (fault_wants_none form limit bytes error h wants)
frame_stops form limit bytes error e (memory h wants) (inl (other, is)) = absurd (other wants)
frame_stops form limit bytes error e (memory h wants) (inr (same, is)) = no_memory h is

pub no_entry_refused : NoFrameBesideFault → (form : Framing) (limit : ℕ) (bytes : List ℕ)
    (error : FrameError) (e : Stop) → FrameRefusal form limit bytes error → FrameStop error e
    → e ≢ stops.OutOfMemory → HoldsEntry form limit bytes → ⊥
no_entry_refused beside form limit bytes error e refused (inr (wants, is)) not_memory entry =
    not_memory is
no_entry_refused beside form limit bytes error e (memory h wants) (inl (other, is)) not_memory
    entry = other wants
no_entry_refused beside form limit bytes error e (fault h) (inl (other, is)) not_memory
    (frame, rest, fields, read, spelled) =
    beside form limit bytes error (frame, rest, read) h

-- ---- no records

-- the fault of a payload leaves no records in it
pub no_records_beside : NoListBesideFault → WholeInput → (payload : List ℕ) (fault : Fault)
    → IsFault entry_limits payload fault → HoldsRecords payload → ⊥
no_records_beside beside whole payload wrong is (fields, spelled) =
    beside entry_limits by_input payload [] wrong.error fields is.of_list
    ((whole (charge fields) entry_limits fields payload []).1
    (spelled.spelled, spelled.within, refl))

pub none_at_fault : NoListBesideFault → WholeInput → (payload : List ℕ)
    (r : Result (Unit {0}) Fault) → IfErr r (IsFault entry_limits payload)
    → OnErr r (HoldsRecords payload → ⊥)
none_at_fault beside whole payload (Ok done) h = h
none_at_fault beside whole payload (Err wrong) h = no_records_beside beside whole payload wrong h

-- no frame of records stands where one whose payload is none does
pub no_entry_broken : OneFrame → (form : Framing) (limit : ℕ) (bytes rest : List ℕ)
    (frame : Frame) → Reads bytes (IsFrame form limit frame) rest
    → (HoldsRecords frame.payload → ⊥) → HoldsEntry form limit bytes → ⊥
no_entry_broken one form limit bytes rest frame read none (x, behind, fields, took, spelled) =
    let same = one form limit x frame bytes behind rest took read in
    none (fields, subst (λ (f : Frame). SpellsEntry fields f.payload) same.0 spelled)

-- what is told of one frame is told of no other
pub told_of : (was now : LogReader) (told : Broken) → LeavesOut was now told → (broken : Broken)
    → stops.Records told ≡ stops.Records broken → LeavesOut was now broken
told_of was now told h broken same =
    let is : told ≡ broken = cc in
    subst (λ (b : Broken). LeavesOut was now b) is h

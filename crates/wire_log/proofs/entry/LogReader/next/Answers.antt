use Rattle.std.proofs.Common.{refl}
use Rattle.wire_log.specs.Entries.{no_records}
use Rattle.wire_log.proofs.Fronts.{whole_read}
use Rattle.wire_log.proofs.Stops.{frame_stops, no_entry_refused, no_entry_broken, told_of}
use Rattle.wire_log.proofs.entry.LogReader.next.Goals as goal

pub returns-in-Ok-None-clause-none : goal.returns-in-Ok-None-clause-none
returns-in-Ok-None-clause-none c = rw c.in-Ok-None.field-0-is at c.in-Ok-None.ensures.none

pub returns-in-Err-clause-stop : goal.returns-in-Err-clause-stop
returns-in-Err-clause-stop c =
    frame_stops _ _ _ _ _ c.in-Err.ensures.refused c.frame_stop.ensures

pub returns-in-Err-clause-only : goal.returns-in-Err-clause-only
returns-in-Err-clause-only c =
    no_entry_refused c.no_frame_beside_fault.ensures _ _ _ _ _ c.in-Err.ensures.refused
    c.frame_stop.ensures

pub returns-in-Err-check_records-clause-stop : goal.returns-in-Err-check_records-clause-stop
returns-in-Err-check_records-clause-stop c =
    let frame = rw c.in-Ok-Some.field-0-is at c.in-Ok-Some.ensures.frame in
    let parts = rw c.in-Ok-Some.field-0-is at c.in-Ok-Some.ensures.parts in
    let wrong = rw c.payload.ensures at c.in-Err-check_records.ensures.fault in
    no_records _ _ _ (whole_read _ _ _ _ _ frame parts) wrong refl

pub returns-in-Err-check_records-clause-left_out :
    goal.returns-in-Err-check_records-clause-left_out
returns-in-Err-check_records-clause-left_out c =
    let was = c.args.self.now in
    let frame = rw c.in-Ok-Some.field-0-is at c.in-Ok-Some.ensures.frame in
    let parts = rw c.in-Ok-Some.field-0-is at c.in-Ok-Some.ensures.parts in
    let rest = rw c.in-Ok-Some.field-0-is at c.in-Ok-Some.ensures.rest in
    let wrong = rw c.payload.ensures at c.in-Err-check_records.ensures.fault in
    let none = rw c.payload.ensures at c.in-Err-check_records.ensures.none in
    let read = whole_read _ _ _ _ _ frame parts in
    let shorter = c.frame_moves_on.ensures was.decoder.framing was.decoder.limit _ _ _ read in
    told_of was _ _ (record {
      whole = c.in-Ok-Some.whole;
      frame = frame;
      parts = parts;
      rest = rest;
      shorter = shorter;
      is_broken = record { no_records = none; fault = wrong; prefix = refl };
      place = c.place-place.ensures;
    })

pub returns-in-Err-check_records-clause-only : goal.returns-in-Err-check_records-clause-only
returns-in-Err-check_records-clause-only c = λ other.
    let frame = rw c.in-Ok-Some.field-0-is at c.in-Ok-Some.ensures.frame in
    let parts = rw c.in-Ok-Some.field-0-is at c.in-Ok-Some.ensures.parts in
    let none = rw c.payload.ensures at c.in-Err-check_records.ensures.none in
    no_entry_broken c.one_frame.ensures _ _ _ _ _ (whole_read _ _ _ _ _ frame parts) none

-- What the page is told of an event, and where there is no fault.
use Rattle.std.specs.Prelude.{ℕ}
use Rattle.wire_read.specs.declared.event.Event.{Event}
use Rattle.wire_read.specs.declared.numbers.FaultNumbers.{FaultNumbers}
use Rattle.wire_read.specs.Numbers.{kind_of, value_of}
use Rattle.wire_page.specs.declared.record.Record.{Record}

abbrev pub page_record : Event → Record
page_record e = record {
  kind = kind_of e.value;
  number = e.number;
  value = value_of e.value;
  start = e.start;
  behind_tag = e.payload;
  end = e.end;
}

-- no fault
abbrev pub stopped : ℕ → FaultNumbers
stopped s = record { status = s; detail = 0; part = 0; record_place = 0; part_place = 0 }

-- The fault of bytes.
use Rattle.std.specs.Prelude.{◌≡◌, ℕ, List}
use Rattle.wire_base.specs.Ending.{by_input}
use Rattle.wire_base.specs.Fault.{ListFault}
use Rattle.wire_base.specs.Field.{Fields}
use Rattle.wire_base.specs.Limits.{Limits}
use Rattle.wire_read.specs.declared.event.Fault.{Fault}
use Rattle.wire_read.specs.Opened.{Group, LongestFront, ending_of, left_open, numbers}
use Rattle.wire_read.specs.PartFault.{PartFault}
use Rattle.wire_read.specs.Reading.{place_of}

-- Behind the longest front that spells records within the limits, open groups counted, stands a
-- record, of which a part is at fault. The error is that of decoding all of the bytes, and both
-- places are told.
pub record IsFault (l : Limits) (all : List ℕ) (fault : Fault) : Type 0 where
  pub levels : List Group
  pub fields : Fields
  pub rest : List ℕ
  pub place : List ℕ
  pub longest : LongestFront l levels fields all rest
  pub part : PartFault (left_open l levels fields) (ending_of (numbers levels)) rest fault.part
      place fault.error
  pub of_list : ListFault l by_input all fault.error
  pub record_place : fault.record_place ≡ place_of all rest
  pub part_place : fault.part_place ≡ place_of all place

-- The limits that a caller names for decoding.
use Rattle.std.specs.Prelude.{ℕ, min}
use Rattle.wire_base.specs.Limits.{Limits, counted, with_elements, with_unknown_bytes}

pub record Options : Type 0 where
  pub recursion_limit : ℕ
  pub max_message_size : ℕ
  pub unknown_field_limit : ℕ
  pub element_memory_limit : ℕ
  pub unknown_byte_limit : ℕ

-- those of a caller that names none
abbrev pub default_options : Options
default_options = record {
  recursion_limit = 100;
  max_message_size = 2147483647;
  unknown_field_limit = 1000000;
  element_memory_limit = 33554432;
  unknown_byte_limit = 18446744073709551615;
}

-- what the records of an input may take where no options are named: 100 levels, 1,000,000 unknown
-- fields and 32 MiB for elements
abbrev pub default_limits : Limits
default_limits = with_elements (counted 100 1000000) 33554432

-- what the records of an input may take
abbrev pub limits_of : Options → Limits
limits_of o =
    with_unknown_bytes
    (with_elements (counted o.recursion_limit o.unknown_field_limit) o.element_memory_limit)
    o.unknown_byte_limit

-- the same options but for one limit
abbrev pub with_recursion : Options → ℕ → Options
with_recursion o limit = record {
  recursion_limit = limit;
  max_message_size = o.max_message_size;
  unknown_field_limit = o.unknown_field_limit;
  element_memory_limit = o.element_memory_limit;
  unknown_byte_limit = o.unknown_byte_limit;
}

-- a message has at most 2147483647 bytes, whatever is asked for
abbrev pub with_message_size : Options → ℕ → Options
with_message_size o limit = record {
  recursion_limit = o.recursion_limit;
  max_message_size = min limit 2147483647;
  unknown_field_limit = o.unknown_field_limit;
  element_memory_limit = o.element_memory_limit;
  unknown_byte_limit = o.unknown_byte_limit;
}

abbrev pub with_unknown_fields : Options → ℕ → Options
with_unknown_fields o limit = record {
  recursion_limit = o.recursion_limit;
  max_message_size = o.max_message_size;
  unknown_field_limit = limit;
  element_memory_limit = o.element_memory_limit;
  unknown_byte_limit = o.unknown_byte_limit;
}

abbrev pub with_element_memory : Options → ℕ → Options
with_element_memory o limit = record {
  recursion_limit = o.recursion_limit;
  max_message_size = o.max_message_size;
  unknown_field_limit = o.unknown_field_limit;
  element_memory_limit = limit;
  unknown_byte_limit = o.unknown_byte_limit;
}

abbrev pub with_payload_bytes : Options → ℕ → Options
with_payload_bytes o limit = record {
  recursion_limit = o.recursion_limit;
  max_message_size = o.max_message_size;
  unknown_field_limit = o.unknown_field_limit;
  element_memory_limit = o.element_memory_limit;
  unknown_byte_limit = limit;
}

-- What may still be taken, and what is taken: levels of nesting, and counts. Levels are a greatest
-- value and are given back; counts are sums and are not. What is said of budgets stands here: one
-- more is an edit of this module and of its laws, and of what takes from it.
use Rattle.std.specs.Prelude.{ℕ, ◌+◌, ◌-◌, ◌≤◌, max, Option, Some, None}

-- ---- counts

-- how much is taken of each thing that is counted
pub record Counts : Type 0 where
  pub unknown_fields : ℕ
  pub element_memory : ℕ
  pub unknown_bytes : ℕ

-- how much of each may still be taken; none is no limit
pub record Budgets : Type 0 where
  pub unknown_fields : Option ℕ
  pub element_memory : Option ℕ
  pub unknown_bytes : Option ℕ

-- a budget that has so much left
abbrev pub HasRoom : Option ℕ → ℕ → Type 0
HasRoom None taken = Unit {0}
HasRoom (Some left) taken = taken ≤ left

-- what is left of a budget
abbrev pub less : Option ℕ → ℕ → Option ℕ
less None taken = None
less (Some left) taken = Some (left - taken)

-- a budget is not greater than it was, and none stays none
abbrev pub IsNoMore : Option ℕ → Option ℕ → Type 0
IsNoMore None None = Unit {0}
IsNoMore (Some new) None = ⊥
IsNoMore None (Some old) = ⊥
IsNoMore (Some new) (Some old) = new ≤ old

-- there is room for each count
pub record HaveRoom (left : Budgets) (taken : Counts) : Type 0 where
  pub unknown_fields : HasRoom left.unknown_fields taken.unknown_fields
  pub element_memory : HasRoom left.element_memory taken.element_memory
  pub unknown_bytes : HasRoom left.unknown_bytes taken.unknown_bytes

-- what is left of each budget
abbrev pub each_less : Budgets → Counts → Budgets
each_less left taken = record {
  unknown_fields = less left.unknown_fields taken.unknown_fields;
  element_memory = less left.element_memory taken.element_memory;
  unknown_bytes = less left.unknown_bytes taken.unknown_bytes;
}

-- no budget is greater than it was
pub record AreNoMore (new old : Budgets) : Type 0 where
  pub unknown_fields : IsNoMore new.unknown_fields old.unknown_fields
  pub element_memory : IsNoMore new.element_memory old.element_memory
  pub unknown_bytes : IsNoMore new.unknown_bytes old.unknown_bytes

-- each count of two things together
abbrev pub sums : Counts → Counts → Counts
sums a b = record {
  unknown_fields = a.unknown_fields + b.unknown_fields;
  element_memory = a.element_memory + b.element_memory;
  unknown_bytes = a.unknown_bytes + b.unknown_bytes;
}

abbrev pub no_counts : Counts
no_counts = record { unknown_fields = 0; element_memory = 0; unknown_bytes = 0 }

abbrev pub no_budgets : Budgets
no_budgets = record { unknown_fields = None; element_memory = None; unknown_bytes = None }

-- ---- limits and charges

-- how much may still be taken
pub record Limits : Type 0 where
  pub depth : ℕ
  pub counts : Budgets

-- how much a record or a list of records takes
pub record Charge : Type 0 where
  pub depth : ℕ
  pub counts : Counts

-- a charge within the limits
pub record Fits (c : Charge) (l : Limits) : Type 0 where
  pub depth : c.depth ≤ l.depth
  pub counts : HaveRoom l.counts c.counts

-- what a charge leaves: the levels are given back, the counts are not
abbrev pub left_after : Limits → Charge → Limits
left_after l c = record { depth = l.depth; counts = each_less l.counts c.counts }

-- the charge of two things, one after the other
abbrev pub both : Charge → Charge → Charge
both a b = record { depth = max a.depth b.depth; counts = sums a.counts b.counts }

abbrev pub no_charge : Charge
no_charge = record { depth = 0; counts = no_counts }

-- the charge of one unknown field, apart from its bytes and from what stands inside it
abbrev pub one_field : Charge
one_field = record {
  depth = 0;
  counts = record { unknown_fields = 1; element_memory = 0; unknown_bytes = 0 };
}

-- the charge of so many bytes, which are the payload of an unknown field
abbrev pub bytes_charge : ℕ → Charge
bytes_charge bytes = record {
  depth = 0;
  counts = record { unknown_fields = 0; element_memory = 0; unknown_bytes = bytes };
}

-- the charge of an element of so many bytes
abbrev pub element_of : ℕ → Charge
element_of bytes = record {
  depth = 0;
  counts = record { unknown_fields = 0; element_memory = bytes; unknown_bytes = 0 };
}

-- the charge of what stands one level down, in a group or a message
abbrev pub nested : Charge → Charge
nested c = record { depth = c.depth + 1; counts = c.counts }

-- what is left one level down
abbrev pub inner : Limits → Limits
inner l = record { depth = l.depth - 1; counts = l.counts }

-- what is left one level up again
abbrev pub outer : Limits → Limits
outer l = record { depth = l.depth + 1; counts = l.counts }

-- no count is greater than it was; the levels may be anything
pub record NoCountGrew (old new : Limits) : Type 0 where
  pub counts : AreNoMore new.counts old.counts

-- ---- limits of a kind

-- so many levels, and no count
abbrev pub uncounted : ℕ → Limits
uncounted levels = record { depth = levels; counts = no_budgets }

-- so many levels and so many unknown fields
abbrev pub counted : ℕ → ℕ → Limits
counted levels fields = record {
  depth = levels;
  counts = record {
    unknown_fields = Some fields;
    element_memory = None;
    unknown_bytes = None;
  };
}

-- the same limits, with so many bytes for elements
abbrev pub with_elements : Limits → ℕ → Limits
with_elements l bytes = record {
  depth = l.depth;
  counts = record {
    unknown_fields = l.counts.unknown_fields;
    element_memory = Some bytes;
    unknown_bytes = l.counts.unknown_bytes;
  };
}

-- the same limits, with so many bytes for the payloads of unknown fields
abbrev pub with_unknown_bytes : Limits → ℕ → Limits
with_unknown_bytes l bytes = record {
  depth = l.depth;
  counts = record {
    unknown_fields = l.counts.unknown_fields;
    element_memory = l.counts.element_memory;
    unknown_bytes = Some bytes;
  };
}

-- What holds of what is printed. Each statement is proved as the contract of a law.
use Rattle.std.specs.Prelude.{◌≡◌, ℕ, List}
use Rattle.wire_base.specs.Limits.{Limits}
use Rattle.wire_dump.specs.declared.layout.Layout.{Layout}
use Rattle.wire_dump.specs.Dumped.{IsDumped}
use Rattle.wire_dump.specs.Shortened.{IsShortened}

-- an input has one text in a layout, whatever its limits are
abbrev pub OneDump : Type 0
OneDump =
    (layout : Layout) (place : ℕ) (l m : Limits) (all old new other : List ℕ)
    → IsDumped layout place l all old new → IsDumped layout place m all old other → new ≡ other

-- and its records have one shortest text
abbrev pub OneShortened : Type 0
OneShortened =
    (l m : Limits) (all text other : List ℕ)
    → IsShortened l all text → IsShortened m all other → text ≡ other

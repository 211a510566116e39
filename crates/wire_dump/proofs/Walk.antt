-- The lines of the items so far.
use Rattle.std.proofs.Common.{◌≡◌, ℕ, suc, ◌+◌, ◌-◌, List, [], ◌∷◌, ◌++◌, length, refl, sym, ap, ◌∙◌, subst, append_assoc, append-nil, arith, ◌≤◌, min, take, reverse, length-append}
use Rattle.std.proofs.lemmas.List.{length-reverse, length-take}
use Rattle.wire_base.specs.declared.tag.WireType.TheVariants.{EndGroup}
use Rattle.wire_base.specs.Field.{Fields, none}
use Rattle.wire_base.specs.Items.{Item, start, end, whole, IsItem}
use Rattle.wire_base.specs.Limits.{Limits}
use Rattle.wire_base.specs.Tag.{IsTagSpelling}
use Rattle.wire_read.specs.declared.event.Fault.{Fault}
use Rattle.wire_read.specs.Laws.{ItemsTellRecords, ReaderGoesOn, ReaderIsDone, ReaderStops}
use Rattle.wire_read.specs.Opened.{Group, numbers}
use Rattle.wire_read.specs.Reading.{At, IsAt, IsDone, Moves, Stops, groups_of}
use Rattle.wire_read.specs.declared.reader.Reader.{Reader}
use Rattle.wire_read.specs.Rebuilt.{Records, put, put_all, rebuilt}
use Rattle.wire_dump.specs.declared.layout.Layout.{Layout}
use Rattle.wire_dump.specs.Dumps.{DumpsOpen, DumpsRecord, nothing}
use Rattle.wire_dump.specs.Dumped.{IsDumped, IsDumpedFront, ItemLines, Prints}
use Rattle.wire_dump.specs.Lines.{opening, end_line}
use Rattle.wire_dump.specs.Places.{Line, line_of, printed, all_width}
use Rattle.wire_dump.proofs.Open.{open_end, open_record, open_start}
use Rattle.wire_dump.proofs.Put.{printed-append, width-append}

-- from old to new the lines of the items so far are put
pub record Sofar (y : Layout) (place : ℕ) (l : Limits) (all : List ℕ) (s : At)
    (old new : List ℕ) : Type 0 where
  pub items : List Item
  pub front : List ℕ
  pub lines : List Line
  pub stands : IsAt l all items s
  pub parts : all ≡ front ++ s.rest
  pub dumped : DumpsOpen y.budget y.level (rebuilt items).levels (rebuilt items).fields front lines
  pub covers : all_width lines ≡ length front
  pub written : new ≡ old ++ printed y.has_offsets place lines

pub put_all-append : (items : List Item) (i : Item) (r : Records)
    → put_all (items ++ i ∷ []) r ≡ put i (put_all items r)
put_all-append [] i r = refl
put_all-append (j ∷ items) i r = put_all-append items i (put j r)

pub length-numbers : (levels : List Group) → length (numbers levels) ≡ length levels
length-numbers [] = refl
length-numbers (g ∷ levels) = ap suc (length-numbers levels)

pub begun : (y : Layout) (place : ℕ) (l : Limits) (all : List ℕ) (s : At) (old : List ℕ)
    → IsAt l all [] s → all ≡ s.rest → Sofar y place l all s old old
begun y place l all s old stands whole_rest = record {
  items = [];
  front = [];
  lines = [];
  stands = stands;
  parts = whole_rest;
  dumped = nothing refl refl;
  covers = refl;
  written = sym (append-nil old);
}

-- the records that the items are of
shown : ItemsTellRecords → (l : Limits) (all : List ℕ) (items : List Item) (s : At)
    (place : IsAt l all items s)
    → rebuilt items ≡ record { levels = place.levels; fields = place.fields }
shown tell l all items s place = ap rebuilt place.items_are ∙ tell place.levels place.fields

pub open_count : ItemsTellRecords → (l : Limits) (all : List ℕ) (items : List Item) (s : At)
    → IsAt l all items s → s.groups ≡ numbers (rebuilt items).levels
open_count tell l all items s place =
    place.groups ∙ ap (λ (r : Records). numbers r.levels) (sym (shown tell l all items s place))

-- ---- an item more

abbrev with : List Group → Fields → Records
with levels fs = record { levels = levels; fields = fs }

abbrev Shows : Layout → Records → List ℕ → List Line → Type 0
Shows y r text lines = DumpsOpen y.budget y.level r.levels r.fields text lines

one_item : (y : Layout) (i : Item) (levels : List Group) (fs : Fields) (s t : At)
    (behind front text : List ℕ) (lines more : List Line)
    → s.groups ≡ numbers levels → Moves i s behind t → IsItem i text
    → DumpsOpen y.budget y.level levels fs front lines
    → ItemLines y (length t.groups) i text more
    → Shows y (put i (with levels fs)) (front ++ text) (lines ++ more)
one_item y (start n) levels fs s t behind front text lines more same (opens, is, groups, limits) tag
    h are =
    let count : length t.groups - 1 ≡ length levels =
    omega (arith, ap length groups, ap length same, length-numbers levels) in
    let line_is : more ≡ line_of text (opening (y.level + length levels) n) =
    are ∙ ap (λ (x : ℕ). line_of text (opening (y.level + x) n)) count in
    subst (λ (x : List Line). Shows y (put (start n) (with levels fs)) (front ++ text) (lines ++ x))
    (sym line_is) (open_start y.budget y.level n levels fs front text lines h tag)
one_item y (end n) [] fs s t behind front text lines more same (tag, is, groups, limits) last h
    are =
    let bad : [] ≡ n ∷ t.groups = sym same ∙ groups in
    let no : ⊥ = cc in
    absurd no
one_item y (end n) (g ∷ outside) fs s t behind front text lines more same (tag, is, groups, limits)
    last h are =
    let both : g.number ∷ numbers outside ≡ n ∷ t.groups = sym same ∙ groups in
    let number_is : g.number ≡ n = cc in
    let count : length t.groups ≡ length outside =
    omega (arith, ap length groups, ap length same, length-numbers outside) in
    let line_is : more ≡ line_of text (end_line (y.level + length outside)) =
    are ∙ ap (λ (x : ℕ). line_of text (end_line (y.level + x))) count in
    subst (λ (x : List Line). Shows y (put (end n) (with (g ∷ outside) fs)) (front ++ text)
    (lines ++ x)) (sym line_is)
    (open_end y.budget y.level g outside fs front text lines h
    (subst (λ (x : ℕ). IsTagSpelling x EndGroup text) (sym number_is) last))
one_item y (whole n p) levels fs s t behind front text lines more same
    (tag, taken, flat, groups, left) is h are =
    let count : length t.groups ≡ length levels =
    omega (arith, ap length groups, ap length same, length-numbers levels) in
    open_record y.budget y.level n p levels fs front text lines more h
    (subst (λ (x : ℕ). DumpsRecord (y.budget - x) (y.level + x) n p text more) count are)

pub next_item : ItemsTellRecords → ReaderGoesOn → (y : Layout) (place : ℕ) (l : Limits)
    (all : List ℕ) (i : Item) (s t : At) (behind text old mid new : List ℕ) (at : ℕ)
    (h : Sofar y place l all s old mid) → Moves i s behind t → s.rest ≡ text ++ t.rest
    → IsItem i text → at ≡ place + length h.front
    → Prints y at (ItemLines y (length t.groups) i text) text mid new
    → Sofar y place l all t old new
next_item tell goes_on y place l all i s t behind text old mid new at h moves parts is at_is puts =
    let r = rebuilt h.items in
    let o = y.has_offsets in
    let same = open_count tell l all h.items s h.stands in
    let here : at ≡ place + all_width h.lines = omega (arith, at_is, h.covers) in
    record {
      items = h.items ++ i ∷ [];
      front = h.front ++ text;
      lines = h.lines ++ puts.lines;
      stands = goes_on l all h.items i s t behind h.stands moves;
      parts = h.parts ∙ ap (λ (x : List ℕ). h.front ++ x) parts
          ∙ sym (append_assoc h.front text t.rest);
      dumped = subst (λ (x : Records). Shows y x (h.front ++ text) (h.lines ++ puts.lines))
          (sym (put_all-append h.items i (with [] none)))
          (one_item y i r.levels r.fields s t behind h.front text h.lines puts.lines same moves is
          h.dumped puts.are);
      covers = omega (
        arith,
        h.covers,
        puts.covers,
        width-append h.lines puts.lines,
        length-append h.front text,
      );
      written = puts.written
          ∙ ap (λ (x : List ℕ). x ++ printed o at puts.lines) h.written
          ∙ append_assoc old (printed o place h.lines) (printed o at puts.lines)
          ∙ ap (λ (x : ℕ). old ++ (printed o place h.lines ++ printed o x puts.lines)) here
          ∙ ap (λ (x : List ℕ). old ++ x) (sym (printed-append o place h.lines puts.lines));
    }

-- ---- the end, and a fault

pub finished : ItemsTellRecords → ReaderIsDone → (y : Layout) (place : ℕ) (l : Limits)
    (all : List ℕ) (s : At) (old new : List ℕ) → Sofar y place l all s old new → IsDone s
    → IsDumped y place l all old new
finished tell is_done y place l all s old new h done =
    let (fs, spelled, fits, is) = is_done l all h.items s h.stands done in
    let all_shown : rebuilt h.items ≡ with [] fs = ap rebuilt is ∙ tell [] fs in
    let front_is : h.front ≡ all =
    sym (h.parts ∙ ap (λ (x : List ℕ). h.front ++ x) done.rest ∙ append-nil h.front) in
    record {
      fields = fs;
      lines = h.lines;
      spelled = spelled;
      fits = fits;
      dumped = subst (λ (x : List ℕ). Shows y (with [] fs) x h.lines) front_is
          (subst (λ (x : Records). Shows y x h.front h.lines) all_shown h.dumped);
      covers = h.covers ∙ ap length front_is;
      written = h.written;
    }

pub stopped : ItemsTellRecords → ReaderStops → (y : Layout) (place : ℕ) (l : Limits)
    (all : List ℕ) (s : At) (f : Fault) (old new : List ℕ)
    → Sofar y place l all s old new → Stops f all s
    → IsDumpedFront y place l all f s.groups old new
stopped tell law y place l all s f old new h stops =
    let (is, here, groups, items) = law l all h.items s f h.stands stops in
    record {
      refused = record { is = is; groups_are = groups };
      front = h.front;
      lines = h.lines;
      parts = h.parts ∙ ap (λ (x : List ℕ). h.front ++ x) here;
      dumped = subst (λ (x : Records). Shows y x h.front h.lines)
          (ap rebuilt items ∙ tell is.levels is.fields) h.dumped;
      covers = h.covers;
      written = h.written;
    }

-- ---- how many groups are open

pub few_open : (r : Reader) (numbers_are : List ℕ) → reverse numbers_are ≡ groups_of r
    → length numbers_are ≤ 100
few_open r xs e =
    let taken = take (min r.group_count (min r.depth 100)) r.groups in
    omega (
      arith,
      ap length e,
      length-reverse xs,
      length-reverse taken,
      length-take (min r.group_count (min r.depth 100)) r.groups,
    )

pub counted_open : (r : Reader) (numbers_are : List ℕ) → reverse numbers_are ≡ groups_of r
    → length numbers_are ≡ length (groups_of r)
counted_open r xs e = sym (length-reverse xs) ∙ ap length e

-- The lines of the items so far, with a schema.
use Rattle.std.proofs.Common.{◌≡◌, ℕ, ◌+◌, ◌-◌, Bool, List, [], ◌∷◌, ◌++◌, length, refl, sym, ap, ◌∙◌, subst, append_assoc, append-nil, arith, Option}
use Rattle.wire_base.specs.declared.tag.WireType.TheVariants.{EndGroup}
use Rattle.wire_base.specs.Field.{Fields, none}
use Rattle.wire_base.specs.Items.{Item, start, end, whole, IsItem}
use Rattle.wire_base.specs.Limits.{Limits}
use Rattle.wire_base.specs.Tag.{IsTagSpelling}
use Rattle.wire_read.specs.declared.event.Fault.{Fault}
use Rattle.wire_read.specs.declared.event.Value.{Value}
use Rattle.wire_read.specs.declared.event.Value.TheVariants as values
use Rattle.wire_read.specs.Laws.{ItemsTellRecords, ReaderGoesOn, ReaderIsDone, ReaderStops}
use Rattle.wire_read.specs.Opened.{Group, numbers}
use Rattle.wire_read.specs.Reading.{At, IsAt, IsDone, Moves, Stops, item}
use Rattle.wire_read.specs.Rebuilt.{Records, put, rebuilt}
use Rattle.wire_dynamic.specs.declared.field.Field.{Field}
use Rattle.wire_dynamic.specs.declared.schema.Schema.{Schema}
use Rattle.wire_dynamic.specs.Walks.{field_in, innermost, told_in}
use Rattle.wire_dump.specs.declared.output.Output.{Output}
use Rattle.wire_dump.specs.declared.output.Typed.{Typed}
use Rattle.wire_dump.specs.Lines.{end_line}
use Rattle.wire_dump.specs.Shown.{AreRecords, IsFrontText, ItemSpans, PutsText}
use Rattle.wire_dump.specs.Shows.{ShowsOpen, ShowsRecord, Span, budget_at, group_opening, line_span, nothing}
use Rattle.wire_dump.proofs.ShownOpen.{field_inside, open_end, open_record, open_start}
use Rattle.wire_dump.proofs.ShownPut.{or_false, puts_more}
use Rattle.wire_dump.proofs.Walk.{length-numbers, open_count, put_all-append}

-- the lines of a front, by its items
pub record AreItems (s : Schema) (d k root : ℕ) (items : List Item) (front : List ℕ)
    (spans : List Span) : Type 0 where
  pub shown : ShowsOpen s d k root (rebuilt items).levels (rebuilt items).fields front spans

-- the lines of the items so far are put
pub record Sofar (t : Typed) (d k root place : ℕ) (l : Limits) (all : List ℕ) (s : At)
    (old : List ℕ) (before : Bool) (new : List ℕ) (after : Bool) : Type 0 where
  pub items : List Item
  pub front : List ℕ
  pub stands : IsAt l all items s
  pub parts : all ≡ front ++ s.rest
  pub puts : PutsText t place (AreItems t.schema.now d k root items front) front old before new
      after

pub begun : (t : Typed) (d k root place : ℕ) (l : Limits) (all : List ℕ) (s : At) (out : Output)
    → IsAt l all [] s → all ≡ s.rest
    → Sofar t d k root place l all s out.text.items out.has_note out.text.items out.has_note
begun t d k root place l all s out stands whole_rest = record {
  items = [];
  front = [];
  stands = stands;
  parts = whole_rest;
  puts = record {
    spans = [];
    are = record { shown = nothing refl refl };
    covers = refl;
    written = sym (append-nil out.text.items);
    kept = sym (or_false out.has_note);
    strict = λ _. refl;
  };
}

-- ---- an item more

abbrev with : List Group → Fields → Records
with levels fs = record { levels = levels; fields = fs }

abbrev Holds : Schema → ℕ → ℕ → ℕ → Records → List ℕ → List Span → Type 0
Holds s d k root r text spans = ShowsOpen s d k root r.levels r.fields text spans

-- the field of an item that is told in these groups
abbrev IsTold : Schema → ℕ → Option Field → Item → List ℕ → Type 0
IsTold s root found (start n) groups = found ≡ field_in s n (innermost s root groups)
IsTold s root found (end n) groups = Unit {0}
IsTold s root found (whole n p) groups = found ≡ field_in s n (innermost s root groups)

pub told : (s : Schema) (root n : ℕ) (found : Option Field) (v : Value) (old new : List ℕ)
    → found ≡ field_in s n (innermost s root (told_in v old new))
    → IsTold s root found (item n v) old
told s root n found (values.Varint x) old new e = e
told s root n found (values.Fixed64 x) old new e = e
told s root n found (values.Fixed32 x) old new e = e
told s root n found (values.Bytes b) old new e = e
told s root n found values.GroupStart old new e = e
told s root n found values.GroupEnd old new e = tt

one_item : (t : Schema) (d k root : ℕ) (found : Option Field) (i : Item) (levels : List Group)
    (fs : Fields) (a b : At) (behind front text : List ℕ) (spans more : List Span)
    → a.groups ≡ numbers levels → Moves i a behind b → IsItem i text
    → IsTold t root found i a.groups
    → ShowsOpen t d k root levels fs front spans
    → ItemSpans t d (budget_at t root b.groups) k (length b.groups) found i text more
    → Holds t d k root (put i (with levels fs)) (front ++ text) (spans ++ more)
one_item t d k root found (start n) levels fs a b behind front text spans more same
    (opens, is, groups, limits) tag tells h are =
    let count : length b.groups - 1 ≡ length levels =
    omega (arith, ap length groups, ap length same, length-numbers levels) in
    let in_it : found ≡ field_inside t root levels n =
    tells ∙ ap (λ (x : List ℕ). field_in t n (innermost t root x)) same in
    let line_is : more ≡ group_opening t (k + length levels) n (field_inside t root levels n) text =
    are ∙ ap (λ (x : ℕ). group_opening t (k + x) n found text) count
    ∙ ap (λ (x : Option Field). group_opening t (k + length levels) n x text) in_it in
    subst (λ (x : List Span). Holds t d k root (put (start n) (with levels fs)) (front ++ text)
    (spans ++ x))
    (sym line_is) (open_start t d k root n levels fs front text spans h tag)
one_item t d k root found (end n) [] fs a b behind front text spans more same
    (tag, is, groups, limits) last tells h are =
    let bad : [] ≡ n ∷ b.groups = sym same ∙ groups in
    let no : ⊥ = cc in
    absurd no
one_item t d k root found (end n) (g ∷ outside) fs a b behind front text spans more same
    (tag, is, groups, limits) last tells h are =
    let both : g.number ∷ numbers outside ≡ n ∷ b.groups = sym same ∙ groups in
    let number_is : g.number ≡ n = cc in
    let count : length b.groups ≡ length outside =
    omega (arith, ap length groups, ap length same, length-numbers outside) in
    let line_is : more ≡ line_span text (end_line (k + length outside)) =
    are ∙ ap (λ (x : ℕ). line_span text (end_line (k + x))) count in
    subst (λ (x : List Span). Holds t d k root (put (end n) (with (g ∷ outside) fs))
    (front ++ text) (spans ++ x)) (sym line_is)
    (open_end t d k root g outside fs front text spans h
    (subst (λ (x : ℕ). IsTagSpelling x EndGroup text) (sym number_is) last))
one_item t d k root found (whole n p) levels fs a b behind front text spans more same
    (tag, taken, flat, groups, left) is tells h are =
    let count : length b.groups ≡ length levels =
    omega (arith, ap length groups, ap length same, length-numbers levels) in
    let in_it : found ≡ field_inside t root levels n =
    tells ∙ ap (λ (x : List ℕ). field_in t n (innermost t root x)) same in
    let budget = budget_at t root (numbers levels) in
    open_record t d k root n p levels fs front text spans more h
    (subst (λ (x : Option Field). ShowsRecord t (d - length levels) budget (k + length levels) x n p
    text more) in_it
    (subst (λ (x : ℕ). ShowsRecord t (d - x) budget (k + x) found n p text more) count
    (subst (λ (x : List ℕ). ShowsRecord t (d - length b.groups) (budget_at t root x)
    (k + length b.groups) found n p text more) (groups ∙ same) are)))

pub next_item : ItemsTellRecords → ReaderGoesOn → (t : Typed) (d k root place : ℕ) (l : Limits)
    (all : List ℕ) (n : ℕ) (v : Value) (found : Option Field) (a b : At) (behind text old : List ℕ)
    (before : Bool) (mid : List ℕ) (half : Bool) (new : List ℕ) (after : Bool) (at : ℕ)
    (h : Sofar t d k root place l all a old before mid half) → Moves (item n v) a behind b
    → a.rest ≡ text ++ b.rest → IsItem (item n v) text → at ≡ place + length h.front
    → found ≡ field_in t.schema.now n (innermost t.schema.now root (told_in v a.groups b.groups))
    → PutsText t at (ItemSpans t.schema.now d (budget_at t.schema.now root b.groups) k
    (length b.groups) found (item n v) text) text mid half new after
    → Sofar t d k root place l all b old before new after
next_item tell goes_on t d k root place l all n v found a b behind text old before mid half new
    after at h moves parts is at_is tells puts =
    let i = item n v in
    let s = t.schema.now in
    let r = rebuilt h.items in
    let same = open_count tell l all h.items a h.stands in
    record {
      items = h.items ++ i ∷ [];
      front = h.front ++ text;
      stands = goes_on l all h.items i a b behind h.stands moves;
      parts = h.parts ∙ ap (λ (x : List ℕ). h.front ++ x) parts
          ∙ sym (append_assoc h.front text b.rest);
      puts = puts_more t place at (AreItems s d k root h.items h.front)
          (ItemSpans s d (budget_at s root b.groups) k (length b.groups) found i text)
          (AreItems s d k root (h.items ++ i ∷ []) (h.front ++ text)) h.front text old before mid
          half new after h.puts at_is puts
          (record {
            shown = subst (λ (x : Records). Holds s d k root x (h.front ++ text)
                (h.puts.spans ++ puts.spans))
                (sym (put_all-append h.items i (with [] none)))
                (one_item s d k root found i r.levels r.fields a b behind h.front text
                h.puts.spans puts.spans same moves is (told s root n found v a.groups b.groups tells)
                h.puts.are.shown puts.are);
          });
    }

-- ---- the end, and a fault

pub finished : ItemsTellRecords → ReaderIsDone → (t : Typed) (d k root place : ℕ) (l : Limits)
    (all : List ℕ) (a : At) (old : List ℕ) (before : Bool) (new : List ℕ) (after : Bool)
    → Sofar t d k root place l all a old before new after → IsDone a
    → PutsText t place (AreRecords t.schema.now d k root l all) all old before new after
finished tell is_done t d k root place l all a old before new after h done =
    let s = t.schema.now in
    let (fs, spelled, fits, is) = is_done l all h.items a h.stands done in
    let all_shown : rebuilt h.items ≡ with [] fs = ap rebuilt is ∙ tell [] fs in
    let front_is : h.front ≡ all =
    sym (h.parts ∙ ap (λ (x : List ℕ). h.front ++ x) done.rest ∙ append-nil h.front) in
    let spans = h.puts.spans in
    record {
      spans = spans;
      are = record {
        fields = fs;
        spelled = spelled;
        fits = fits;
        shown = subst (λ (x : List ℕ). Holds s d k root (with [] fs) x spans) front_is
            (subst (λ (x : Records). Holds s d k root x h.front spans) all_shown
            h.puts.are.shown);
      };
      covers = h.puts.covers ∙ ap length front_is;
      written = h.puts.written;
      kept = h.puts.kept;
      strict = h.puts.strict;
    }

pub stopped : ItemsTellRecords → ReaderStops → (t : Typed) (d k root place : ℕ) (l : Limits)
    (all : List ℕ) (a : At) (f : Fault) (old : List ℕ) (before : Bool) (new : List ℕ)
    (after : Bool) → Sofar t d k root place l all a old before new after → Stops f all a
    → IsFrontText t d k root place l all f old before new after
stopped tell law t d k root place l all a f old before new after h stops =
    let s = t.schema.now in
    let (is, here, groups, items) = law l all h.items a f h.stands stops in
    record {
      groups = a.groups;
      front = h.front;
      puts = record {
        spans = h.puts.spans;
        are = record {
          refused = record { is = is; groups_are = groups };
          parts = h.parts ∙ ap (λ (x : List ℕ). h.front ++ x) here;
          shown = subst (λ (x : Records). Holds s d k root x h.front h.puts.spans)
              (ap rebuilt items ∙ tell is.levels is.fields) h.puts.are.shown;
        };
        covers = h.puts.covers;
        written = h.puts.written;
        kept = h.puts.kept;
        strict = h.puts.strict;
      };
    }

-- What is put of a packed list is its lines.
use Rattle.std.proofs.Common.{◌≡◌, ◌≢◌, ℕ, ◌+◌, Bool, true, false, List, [], ◌∷◌, ◌++◌, length, refl, sym, ap, ◌∙◌, subst, append_assoc, append-nil, arith, None, Some}
use Rattle.std.specs.List.{AllZip}
use Rattle.wire_base.specs.declared.tag.WireType.{WireType}
use Rattle.wire_base.specs.Field.{bytes}
use Rattle.wire_base.specs.Read.{Reads}
use Rattle.wire_base.specs.VarintLaws.{OneVarint}
use Rattle.wire_scalar.specs.Packed.{SpellsEach}
use Rattle.wire_dynamic.specs.declared.field.Field.{Field}
use Rattle.wire_dump.specs.declared.output.Output.{Output}
use Rattle.wire_dump.specs.declared.output.Typed.{Typed}
use Rattle.wire_dump.specs.Dumps.{SpellsRecord}
use Rattle.wire_dump.specs.Numbers.{IsNumber, number_type}
use Rattle.wire_dump.specs.Places.{range_text}
use Rattle.wire_dump.specs.Shown.{IsUnfit, PutsSpans, each_printed}
use Rattle.wire_dump.specs.Shows.{FitsField, IsNoString, IsNumberLine, ShowsRecord, packed}
use Rattle.wire_dump.proofs.ShownPut.{or_false}
use Rattle.wire_dump.proofs.ShownRecord.{each_push, number_behind, packed_alone, printed_push, zip_push}

-- a line is put for each number of a front of the list
pub record Sofar (t : Typed) (k n place end : ℕ) (f : Field) (w : WireType)
    (payload rest old : List ℕ) (before : Bool) (out : Output) : Type 0 where
  pub front : List ℕ
  pub numbers : List ℕ
  pub texts : List (List ℕ)
  pub parts : payload ≡ front ++ rest
  pub spelled : SpellsEach (IsNumber w) numbers front
  pub zipped : AllZip (IsNumberLine t.schema.now k n f) numbers texts
  pub written : out.text.items ≡ old ++ each_printed t.has_offsets place end texts
  pub kept : out.has_note ≡ before

pub begun : (t : Typed) (k n place end : ℕ) (f : Field) (w : WireType) (payload : List ℕ)
    (out : Output)
    → Sofar t k n place end f w payload payload out.text.items out.has_note out
begun t k n place end f w payload out = record {
  front = [];
  numbers = [];
  texts = [];
  parts = refl;
  spelled = refl;
  zipped = tt;
  written = sym (append-nil out.text.items);
  kept = refl;
}

pub one_more : (t : Typed) (k n place end x : ℕ) (f : Field) (w : WireType)
    (payload rest more old line : List ℕ) (before : Bool) (mid new : Output)
    → Sofar t k n place end f w payload rest old before mid
    → Reads rest (IsNumber w x) more → IsNumberLine t.schema.now k n f x line
    → new.text.items ≡ mid.text.items ++ (range_text t.has_offsets place end ++ line)
    → new.has_note ≡ mid.has_note
    → Sofar t k n place end f w payload more old before new
one_more t k n place end x f w payload rest more old line before mid new h read is e kept =
    let o = t.has_offsets in
    record {
      front = h.front ++ read.text;
      numbers = h.numbers ++ x ∷ [];
      texts = h.texts ++ line ∷ [];
      parts = h.parts ∙ ap (λ (z : List ℕ). h.front ++ z) read.parts
          ∙ sym (append_assoc h.front read.text more);
      spelled = each_push w h.numbers h.front read.text x h.spelled read.spelled;
      zipped = zip_push (IsNumberLine t.schema.now k n f) h.numbers h.texts x line h.zipped is;
      written = e
          ∙ ap (λ (z : List ℕ). z ++ (range_text o place end ++ line)) h.written
          ∙ append_assoc old (each_printed o place end h.texts) (range_text o place end ++ line)
          ∙ ap (λ (z : List ℕ). old ++ z) (sym (printed_push o place end h.texts line));
      kept = kept ∙ h.kept;
    }

pub finished : (t : Typed) (d b k n place : ℕ) (f : Field) (w : WireType)
    (payload rest text old : List ℕ) (before : Bool) (out : Output)
    → Sofar t k n place (place + length text) f w payload rest old before out → rest ≡ []
    → SpellsRecord n (bytes payload) text → f.is_repeated ≡ true → number_type f.kind ≡ Some w
    → PutsSpans t place (ShowsRecord t.schema.now d b k (Some f) n (bytes payload) text) text old
    before out
finished t d b k n place f w payload rest text old before out h none is repeated kind =
    let all : payload ≡ h.front =
    h.parts ∙ ap (λ (z : List ℕ). h.front ++ z) none ∙ append-nil h.front in
    let spelled = subst (λ (z : List ℕ). SpellsEach (IsNumber w) h.numbers z) (sym all) h.spelled in
    let each = each_printed t.has_offsets place (place + length text) h.texts in
    record {
      spans = record { width = length text; texts = h.texts; has_note = false } ∷ [];
      are = packed h.numbers h.texts is repeated (w, kind, spelled) h.zipped refl;
      covers = omega arith;
      written = h.written ∙ ap (λ (z : List ℕ). old ++ z) (sym (append-nil each));
      kept = h.kept ∙ sym (or_false before);
      strict = λ _. refl;
    }

-- ---- lists that are none

one_type : (w v : WireType) → Some w ≡ Some v → w ≡ v
one_type w v e = cc

pub broken_list : OneVarint → (t : Typed) (d k n place end : ℕ) (f : Field) (w : WireType)
    (payload rest old : List ℕ) (before : Bool) (out : Output)
    → Sofar t k n place end f w payload rest old before out → rest ≢ []
    → IsNoString f.kind → number_type f.kind ≡ Some w
    → ((x : ℕ) (more : List ℕ) → Reads rest (IsNumber w x) more → ⊥)
    → IsUnfit d f (bytes payload) old out
broken_list law t d k n place end f w payload rest old before out h some no_string kind none =
    record {
      never = λ fits.
          let found = packed_alone d f f.kind payload no_string fits in
          let xs = found.1.0 in
          let v = found.1.1.0 in
          let is = found.1.1.1 in
          let spelled = found.1.1.2 in
          let same : v ≡ w = one_type v w (sym is ∙ kind) in
          let all = subst (λ (z : List ℕ). SpellsEach (IsNumber w) xs z) h.parts
          (subst (λ (z : WireType). SpellsEach (IsNumber z) xs payload) same spelled) in
          let (x, more, read) = number_behind law w h.numbers xs h.front rest h.spelled all some in
          none x more read;
      more = each_printed t.has_offsets place end h.texts;
      written = h.written;
    }

pub no_list : (d : ℕ) (f : Field) (payload : List ℕ) → IsNoString f.kind
    → number_type f.kind ≡ None → FitsField d f (bytes payload) → ⊥
no_list d f payload no_string none fits =
    let found = packed_alone d f f.kind payload no_string fits in
    absurd (cc (found.1.1.1, none))

pub one_only : (d : ℕ) (f : Field) (payload : List ℕ) → IsNoString f.kind
    → f.is_repeated ≡ false → FitsField d f (bytes payload) → ⊥
one_only d f payload no_string single fits =
    let found = packed_alone d f f.kind payload no_string fits in
    absurd (cc (found.0, single))

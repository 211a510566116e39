-- What is put of a message in a message is its lines.
use Rattle.std.proofs.Common.{◌≡◌, ℕ, ◌+◌, ◌-◌, ◌<◌, Bool, List, [], ◌++◌, length, refl, sym, ap, ◌∙◌, subst, append_assoc, append-nil, arith, length-append, Some}
use Rattle.wire_base.specs.Charge.{charge}
use Rattle.wire_base.specs.Ending.{by_input}
use Rattle.wire_base.specs.Fault.{ListFault}
use Rattle.wire_base.specs.FaultLaws.{NoListBesideFault}
use Rattle.wire_base.specs.Field.{bytes}
use Rattle.wire_base.specs.Limits.{Fits, Limits, uncounted}
use Rattle.wire_base.specs.RecordLaws.{WholeInput}
use Rattle.wire_read.specs.declared.event.Fault.{Fault}
use Rattle.wire_dynamic.specs.declared.field.Field.{Field}
use Rattle.wire_dynamic.specs.declared.field.Kind.{Kind}
use Rattle.wire_dynamic.specs.declared.field.Kind.TheVariants as kinds
use Rattle.wire_dump.specs.declared.output.Output.{Output}
use Rattle.wire_dump.specs.declared.output.Typed.{Typed}
use Rattle.wire_dump.specs.Dumps.{SpellsRecord}
use Rattle.wire_dump.specs.Lines.{end_line}
use Rattle.wire_dump.specs.Places.{range_text}
use Rattle.wire_dump.specs.Shown.{AreRecords, IsShownFront, IsUnfit, PutsSpans, shown}
use Rattle.wire_dump.specs.Shows.{BytesFit, FitsField, IsMessageWithin, ShowsRecord, Span, field_opening, line_span, message}
use Rattle.wire_dump.proofs.ShownPut.{one_line, puts_more}
use Rattle.wire_dump.proofs.Texts.{payload_last}

abbrev Is : List Span → List Span → Type 0
Is wanted spans = spans ≡ wanted

-- a message between two lines
pub message_shown : (t : Typed) (d b k n root place inner end : ℕ) (f : Field) (l : Limits)
    (payload text old : List ℕ) (before : Bool) (one two three : Output)
    → 0 < d → f.kind ≡ kinds.Message root → l ≡ uncounted (d - 1)
    → SpellsRecord n (bytes payload) text → end ≡ place + length text
    → inner ≡ end - length payload
    → one.text.items
    ≡ old ++ (range_text t.has_offsets place inner ++ field_opening t.schema.now k f)
    → one.has_note ≡ before
    → PutsSpans t inner (AreRecords t.schema.now (d - 1) (k + 1) root l payload) payload
    one.text.items one.has_note two
    → three.text.items ≡ two.text.items ++ (range_text t.has_offsets end end ++ end_line k)
    → three.has_note ≡ two.has_note
    → PutsSpans t place (ShowsRecord t.schema.now d b k (Some f) n (bytes payload) text) text old
    before three
message_shown t d b k n root place inner end f l payload text old before one two three some kind
    limits is at_end at_inner opened kept put closed kept_too =
    let s = t.schema.now in
    let o = t.has_offsets in
    let (head, parts) = payload_last n payload text is in
    let sizes : length text ≡ length head + length payload =
    ap length parts ∙ length-append head payload in
    let at_head : inner ≡ place + length head = omega (arith, sizes, at_end, at_inner) in
    let first_line = line_span head (field_opening s k f) in
    let last_line = line_span [] (end_line k) in
    let first : PutsSpans t place (Is first_line) head old before one =
    one_line t place (Is first_line) head (field_opening s k f) old before one refl
    (opened ∙ ap (λ (x : ℕ). old ++ (range_text o place x ++ field_opening s k f)) at_head) kept in
    let at_both : end ≡ place + length (head ++ payload) =
    omega (arith, at_end, sizes, length-append head payload) in
    let no_more : end ≡ end + 0 = omega arith in
    let both : PutsSpans t place (Is (first_line ++ put.spans)) (head ++ payload) old before two =
    puts_more t place inner (Is first_line)
    (AreRecords s (d - 1) (k + 1) root l payload) (Is (first_line ++ put.spans)) head payload old
    before one.text.items one.has_note two.text.items two.has_note first at_head put
    (ap (λ (x : List Span). x ++ put.spans) first.are) in
    let last : PutsSpans t end (Is last_line) [] two.text.items two.has_note three =
    one_line t end (Is last_line) [] (end_line k) two.text.items two.has_note three refl
    (closed ∙ ap (λ (x : ℕ). two.text.items ++ (range_text o end x ++ end_line k)) no_more)
    kept_too in
    let within : IsMessageWithin d payload = record {
      allowed = some;
      fields = put.are.fields;
      spelled = put.are.spelled;
      within = subst (λ (x : Limits). Fits (charge put.are.fields) x) limits put.are.fits;
    } in
    let spans_are : both.spans ++ last.spans ≡ first_line ++ (put.spans ++ last_line) =
    ap (λ (x : List Span). x ++ last.spans) both.are
    ∙ ap (λ (x : List Span). (first_line ++ put.spans) ++ x) last.are
    ∙ append_assoc first_line put.spans last_line in
    let all : PutsSpans t place (ShowsRecord s d b k (Some f) n (bytes payload) text)
    ((head ++ payload) ++ []) old before three =
    puts_more t place end (Is (first_line ++ put.spans)) (Is last_line)
    (ShowsRecord s d b k (Some f) n (bytes payload) text) (head ++ payload) [] old before
    two.text.items two.has_note three.text.items three.has_note both at_both last
    (message put.are.fields head put.spans is parts kind within put.are.shown spans_are) in
    let text_is : (head ++ payload) ++ [] ≡ text = append-nil (head ++ payload) ∙ sym parts in
    subst (λ (x : List ℕ). PutsSpans t place
    (ShowsRecord s d b k (Some f) n (bytes payload) text) x old before three) text_is all

pub of_message : (d root : ℕ) (f : Field) (payload : List ℕ) → f.kind ≡ kinds.Message root
    → FitsField d f (bytes payload) → IsMessageWithin d payload
of_message d root f payload kind fits =
    subst (λ (x : Kind). BytesFit d f x payload) kind fits

pub no_levels : (d root : ℕ) (f : Field) (payload : List ℕ) → f.kind ≡ kinds.Message root
    → d ≡ 0 → FitsField d f (bytes payload) → ⊥
no_levels d root f payload kind none fits =
    let some = (of_message d root f payload kind fits).allowed in
    omega (arith, some, none)

-- a fault of the bytes
pub broken_inside : WholeInput → NoListBesideFault → (t : Typed) (d k root inner : ℕ) (f : Field)
    (l : Limits) (payload old : List ℕ) (head : List ℕ) (fault : Fault)
    (one two : Output) → f.kind ≡ kinds.Message root → l ≡ uncounted (d - 1)
    → one.text.items ≡ old ++ head
    → IsShownFront t (d - 1) (k + 1) root inner l payload fault one.text.items one.has_note
    two
    → IsUnfit d f (bytes payload) old two
broken_inside whole_input beside t d k root inner f l payload old head fault one two kind
    limits opened h =
    let m = uncounted (d - 1) in
    let refused : ListFault m by_input payload fault.error =
    subst (λ (x : Limits). ListFault x by_input payload fault.error) limits
    h.puts.are.refused.is.of_list in
    let more = shown t.has_offsets inner h.puts.spans in
    record {
      never = λ fits.
          let within = of_message d root f payload kind fits in
          beside m by_input payload [] fault.error within.fields refused
          ((whole_input (charge within.fields) m within.fields payload []).1
          (within.spelled, within.within, refl));
      more = head ++ more;
      written = h.puts.written ∙ ap (λ (x : List ℕ). x ++ more) opened
          ∙ append_assoc old head more;
    }

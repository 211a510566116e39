-- What is put of a record is the record's lines.
use Rattle.std.proofs.Common.{◌≡◌, ◌≢◌, ℕ, ◌+◌, ◌-◌, ◌<◌, ◌≤◌, List, [], ◌∷◌, ◌++◌, length, min, take, refl, sym, ap, ◌∙◌, subst, append_assoc, append-nil, arith, length-append, Bool}
use Rattle.std.proofs.lemmas.List.{take-append-le}
use Rattle.std.proofs.Math.Seq.{take-length}
use Rattle.wire_base.specs.Charge.{charge}
use Rattle.wire_base.specs.Ending.{by_input}
use Rattle.wire_base.specs.Fault.{ListFault}
use Rattle.wire_base.specs.FaultLaws.{NoListBesideFault}
use Rattle.wire_base.specs.Field.{Fields, bytes}
use Rattle.wire_base.specs.Items.{IsItem}
use Rattle.wire_base.specs.Limits.{Fits, Limits, uncounted}
use Rattle.wire_base.specs.RecordLaws.{WholeInput}
use Rattle.wire_read.specs.Reading.{item}
use Rattle.wire_read.specs.declared.event.Fault.{Fault}
use Rattle.wire_read.specs.declared.event.Value.{Value}
use Rattle.wire_read.specs.declared.event.Value.TheVariants as values
use Rattle.wire_dump.specs.declared.layout.Layout.{Layout}
use Rattle.wire_dump.specs.declared.layout.Margin.{Margin}
use Rattle.wire_base.specs.Spells.{Spells}
use Rattle.wire_dump.specs.Dumps.{IsGuessedMessage, SpellsRecord, number, eight_bytes, four_bytes, message, string}
use Rattle.wire_dump.specs.Dumped.{IsDumped, IsDumpedFront, ItemLines, Prints, RecordLines}
use Rattle.wire_dump.specs.Dumped.{further_in}
use Rattle.wire_dump.specs.Front.{IsNoGuess}
use Rattle.wire_dump.specs.Lines.{number_line, fixed_line, string_line, opening, end_line}
use Rattle.wire_dump.specs.Places.{Line, line_of, printed, range_text, all_width}
use Rattle.wire_dump.proofs.Texts.{payload_last}

-- ---- lines

-- the margin of a line of these bytes
pub record IsMargin (y : Layout) (place end : ℕ) (m : Margin) : Type 0 where
  pub shown : m.is_shown ≡ y.has_offsets
  pub start : m.start ≡ place
  pub end_is : m.end ≡ end

pub with_margin : (y : Layout) (place end : ℕ) (m : Margin) (line old new : List ℕ)
    → IsMargin y place end m → new ≡ old ++ (range_text m.is_shown m.start m.end ++ line)
    → new ≡ old ++ (range_text y.has_offsets place end ++ line)
with_margin y place end m line old new is e =
    e ∙ ap (λ (o : Bool). old ++ (range_text o m.start m.end ++ line)) is.shown
    ∙ ap (λ (x : ℕ). old ++ (range_text y.has_offsets x m.end ++ line)) is.start
    ∙ ap (λ (x : ℕ). old ++ (range_text y.has_offsets place x ++ line)) is.end_is

pub printed_one : (o : Bool) (place : ℕ) (text line : List ℕ)
    → printed o place (line_of text line) ≡ range_text o place (place + length text) ++ line
printed_one o place text line =
    ap (λ (x : List ℕ). range_text o place (place + length text) ++ x) (append-nil line)

pub line_put : (y : Layout) (place : ℕ) (m : Margin) (text line old new : List ℕ)
    (IsLines : List Line → Type 0)
    → IsLines (line_of text line) → IsMargin y place (place + length text) m
    → new ≡ old ++ (range_text m.is_shown m.start m.end ++ line)
    → Prints y place IsLines text old new
line_put y place m text line old new IsLines are is e = record {
  lines = line_of text line;
  are = are;
  covers = omega arith;
  written = with_margin y place (place + length text) m line old new is e
      ∙ ap (λ (x : List ℕ). old ++ x) (sym (printed_one y.has_offsets place text line));
}

-- ---- items of one line

pub number_lines : (y : Layout) (count level n x : ℕ) (v : Value) (text : List ℕ)
    → level ≡ y.level + count → v ≡ values.Varint x → IsItem (item n v) text
    → ItemLines y count (item n v) text (line_of text (number_line level n x))
number_lines y count level n x v text at_level e =
    subst (λ (w : Value). IsItem (item n w) text
    → ItemLines y count (item n w) text (line_of text (number_line level n x))) (sym e)
    (λ i. number i.1 (ap (λ (k : ℕ). line_of text (number_line k n x)) at_level))

pub eight_lines : (y : Layout) (count level n x : ℕ) (v : Value) (text : List ℕ)
    → level ≡ y.level + count → v ≡ values.Fixed64 x → IsItem (item n v) text
    → ItemLines y count (item n v) text (line_of text (fixed_line level n 16 x))
eight_lines y count level n x v text at_level e =
    subst (λ (w : Value). IsItem (item n w) text
    → ItemLines y count (item n w) text (line_of text (fixed_line level n 16 x))) (sym e)
    (λ i. eight_bytes i.1 (ap (λ (k : ℕ). line_of text (fixed_line k n 16 x)) at_level))

pub four_lines : (y : Layout) (count level n x : ℕ) (v : Value) (text : List ℕ)
    → level ≡ y.level + count → v ≡ values.Fixed32 x → IsItem (item n v) text
    → ItemLines y count (item n v) text (line_of text (fixed_line level n 8 x))
four_lines y count level n x v text at_level e =
    subst (λ (w : Value). IsItem (item n w) text
    → ItemLines y count (item n w) text (line_of text (fixed_line level n 8 x))) (sym e)
    (λ i. four_bytes i.1 (ap (λ (k : ℕ). line_of text (fixed_line k n 8 x)) at_level))

pub start_lines : (y : Layout) (count level n : ℕ) (v : Value) (text : List ℕ)
    → level ≡ y.level + (count - 1) → v ≡ values.GroupStart
    → ItemLines y count (item n v) text (line_of text (opening level n))
start_lines y count level n v text at_level e =
    subst (λ (w : Value). ItemLines y count (item n w) text (line_of text (opening level n)))
    (sym e)
    (ap (λ (k : ℕ). line_of text (opening k n)) at_level)

pub end_lines : (y : Layout) (count level n : ℕ) (v : Value) (text : List ℕ)
    → level ≡ y.level + count → v ≡ values.GroupEnd
    → ItemLines y count (item n v) text (line_of text (end_line level))
end_lines y count level n v text at_level e =
    subst (λ (w : Value). ItemLines y count (item n w) text (line_of text (end_line level)))
    (sym e)
    (ap (λ (k : ℕ). line_of text (end_line k)) at_level)

-- ---- payloads

pub no_budget : (y : Layout) (n : ℕ) (payload text : List ℕ) → y.budget ≡ 0
    → SpellsRecord n (bytes payload) text
    → RecordLines y n (bytes payload) text (line_of text (string_line y.level n payload))
no_budget y n payload text none is =
    string is (λ fs m. let some = m.allowed in omega arith) refl

pub no_bytes : (y : Layout) (n : ℕ) (payload text : List ℕ) → payload ≡ []
    → SpellsRecord n (bytes payload) text
    → RecordLines y n (bytes payload) text (line_of text (string_line y.level n payload))
no_bytes y n payload text none is = string is (λ fs m. m.nonempty none) refl

pub no_records : (y : Layout) (n : ℕ) (payload text : List ℕ)
    → ((fs : Fields) → Spells fs payload → ⊥) → SpellsRecord n (bytes payload) text
    → RecordLines y n (bytes payload) text (line_of text (string_line y.level n payload))
no_records y n payload text never is = string is (λ fs m. never fs m.spelled) refl

pub printed-append : (o : Bool) (place : ℕ) (xs ys : List Line)
    → printed o place (xs ++ ys) ≡ printed o place xs ++ printed o (place + all_width xs) ys
printed-append o place [] ys =
    let same : place ≡ place + 0 = omega arith in
    ap (λ (x : ℕ). printed o x ys) same
printed-append o place (l ∷ xs) ys =
    let mid = place + l.width in
    let m = range_text o place mid in
    let same : mid + all_width xs ≡ place + (l.width + all_width xs) = omega arith in
    ap (λ (x : List ℕ). m ++ (l.text ++ x)) (printed-append o mid xs ys)
    ∙ ap (λ (x : List ℕ). m ++ x) (sym (append_assoc l.text (printed o mid xs)
    (printed o (mid + all_width xs) ys)))
    ∙ sym (append_assoc m (l.text ++ printed o mid xs) (printed o (mid + all_width xs) ys))
    ∙ ap (λ (x : ℕ). (m ++ (l.text ++ printed o mid xs)) ++ printed o x ys) same

pub width-append : (xs ys : List Line) → all_width (xs ++ ys) ≡ all_width xs + all_width ys
width-append [] ys = omega arith
width-append (l ∷ xs) ys = omega (arith, width-append xs ys)

-- a message between two lines
message_printed : (o : Bool) (place end : ℕ) (head first last : List ℕ) (lines : List Line)
    → end ≡ (place + length head) + all_width lines
    → printed o place (line_of head first ++ (lines ++ line_of [] last))
    ≡ range_text o place (place + length head)
    ++ (first ++ (printed o (place + length head) lines ++ (range_text o end end ++ last)))
message_printed o place end head first last lines at_end =
    let mid = place + length head in
    let q = mid + all_width lines in
    let same : q ≡ end = sym at_end in
    let too : q + 0 ≡ end = omega (arith, at_end) in
    let tail : printed o q (line_of [] last) ≡ range_text o end end ++ last =
    printed_one o q [] last ∙ ap (λ (x : ℕ). range_text o x (q + 0) ++ last) same
    ∙ ap (λ (x : ℕ). range_text o end x ++ last) too in
    ap (λ (x : List ℕ). range_text o place mid ++ (first ++ x))
    (printed-append o mid lines (line_of [] last)
    ∙ ap (λ (x : List ℕ). printed o mid lines ++ x) tail)

five : (old a b c d : List ℕ)
    → ((old ++ (a ++ b)) ++ c) ++ d ≡ old ++ (a ++ (b ++ (c ++ d)))
five old a b c d =
    append_assoc (old ++ (a ++ b)) c d ∙ append_assoc old (a ++ b) (c ++ d)
    ∙ ap (λ (x : List ℕ). old ++ x) (append_assoc a b (c ++ d))

pub message_put : (y : Layout) (n place payload_place end : ℕ) (l : Limits)
    (payload text old mid last new : List ℕ) (first tail : Margin)
    → 0 < y.budget → payload ≢ [] → l ≡ uncounted (y.budget - 1 + 1)
    → SpellsRecord n (bytes payload) text → end ≡ place + length text
    → payload_place ≡ end - length payload
    → IsMargin y place payload_place first → IsMargin y end end tail
    → mid ≡ old ++ (range_text first.is_shown first.start first.end ++ opening y.level n)
    → IsDumped (further_in 1 y) payload_place l payload mid last
    → new ≡ last ++ (range_text tail.is_shown tail.start tail.end ++ end_line y.level)
    → Prints y place (RecordLines y n (bytes payload) text) text old new
message_put y n place payload_place end l payload text old mid last new first tail some full
    limits is at_end at_payload is_first is_tail puts_first h puts_tail =
    let o = y.has_offsets in
    let all : y.budget - 1 + 1 ≡ y.budget = omega (arith, some) in
    let (head, parts) = payload_last n payload text is in
    let sizes : length text ≡ length head + length payload =
    ap length parts ∙ length-append head payload in
    let inner = place + length head in
    let at_inner : payload_place ≡ inner = omega (arith, sizes, at_end, at_payload) in
    let within = subst (λ (x : ℕ). Fits (charge h.fields) (uncounted x)) all
    (subst (λ (x : Limits). Fits (charge h.fields) x) limits h.fits) in
    let message_is : IsGuessedMessage y.budget payload h.fields = record {
      allowed = some;
      nonempty = full;
      spelled = h.spelled;
      within = within;
    } in
    let begun : mid ≡ old ++ (range_text o place inner ++ opening y.level n) =
    with_margin y place payload_place first (opening y.level n) old mid is_first puts_first
    ∙ ap (λ (x : ℕ). old ++ (range_text o place x ++ opening y.level n)) at_inner in
    let ended : new ≡ last ++ (range_text o end end ++ end_line y.level) =
    with_margin y end end tail (end_line y.level) last new is_tail puts_tail in
    let all_put : new ≡ old ++ (range_text o place inner ++ (opening y.level n
    ++ (printed o inner h.lines ++ (range_text o end end ++ end_line y.level)))) =
    ended
    ∙ ap (λ (x : List ℕ). x ++ (range_text o end end ++ end_line y.level))
    (h.written ∙ ap (λ (x : List ℕ). x ++ printed o payload_place h.lines) begun
    ∙ ap (λ (x : ℕ). (old ++ (range_text o place inner ++ opening y.level n))
    ++ printed o x h.lines) at_inner)
    ∙ five old (range_text o place inner) (opening y.level n) (printed o inner h.lines)
    (range_text o end end ++ end_line y.level) in
    let behind : end ≡ inner + all_width h.lines = omega (arith, sizes, at_end, h.covers) in
    record {
      lines = line_of head (opening y.level n) ++ (h.lines ++ line_of [] (end_line y.level));
      are = message h.fields head h.lines is parts message_is h.dumped refl;
      covers = omega (
        arith,
        sizes,
        h.covers,
        width-append h.lines (line_of [] (end_line y.level)),
      );
      written = all_put ∙ ap (λ (x : List ℕ). old ++ x)
          (sym (message_printed o place end head (opening y.level n) (end_line y.level) h.lines
          behind));
    }

cut_back : (start : ℕ) (old more : List ℕ) → start ≡ length old → take start (old ++ more) ≡ old
cut_back start old more e =
    let within : start ≤ length old = omega (arith, e) in
    take-append-le start old more within ∙ ap (λ (x : ℕ). take x old) e ∙ take-length old

-- what was put for a guess is cut off again
pub no_guess_put : (y : Layout) (n place start : ℕ) (payload text old mid last cut new : List ℕ)
    (head : List ℕ) (whole : Margin) → 0 < y.budget → start ≡ length old → mid ≡ old ++ head
    → SpellsRecord n (bytes payload) text → IsMargin y place (place + length text) whole
    → IsNoGuess (further_in 1 y) payload mid last → cut ≡ take start last
    → new
    ≡ cut ++ (range_text whole.is_shown whole.start whole.end ++ string_line y.level n payload)
    → Prints y place (RecordLines y n (bytes payload) text) text old new
no_guess_put y n place start payload text old mid last cut new head whole some at_start begun is
    is_whole h back puts =
    let levels : y.budget - 1 + 1 ≡ y.budget = omega (arith, some) in
    let no_message : (fs : Fields) → IsGuessedMessage y.budget payload fs → ⊥ =
    λ fs m. h.never fs m.spelled
    (subst (λ (x : ℕ). Fits (charge fs) (uncounted x)) (sym levels) m.within) in
    let whole_end : last ≡ old ++ (head ++ h.more) =
    h.written ∙ ap (λ (x : List ℕ). x ++ h.more) begun ∙ append_assoc old head h.more in
    let is_old : cut ≡ old =
    back ∙ ap (λ (x : List ℕ). take start x) whole_end
    ∙ cut_back start old (head ++ h.more) at_start in
    line_put y place whole text (string_line y.level n payload) old new
    (RecordLines y n (bytes payload) text) (string is no_message refl) is_whole
    (puts ∙ ap (λ (x : List ℕ). x ++ (range_text whole.is_shown whole.start whole.end
    ++ string_line y.level n payload)) is_old)

-- a fault of the bytes
pub no_guess_begins : WholeInput → NoListBesideFault → (y : Layout) (place : ℕ) (l : Limits)
    (all old new : List ℕ) (f : Fault) (groups : List ℕ) → y.budget < 100
    → l ≡ uncounted (min (y.budget + 1) 100) → IsDumpedFront y place l all f groups old new
    → IsNoGuess y all old new
no_guess_begins whole_input beside y place l all old new f groups few limits h =
    let levels : min (y.budget + 1) 100 ≡ y.budget + 1 = omega (arith, few) in
    let m = uncounted (y.budget + 1) in
    let are : l ≡ m = limits ∙ ap uncounted levels in
    let refused : ListFault m by_input all f.error =
    subst (λ (x : Limits). ListFault x by_input all f.error) are h.refused.is.of_list in
    record {
      never = λ fs spelled fits. beside m by_input all [] f.error fs refused
          ((whole_input (charge fs) m fs all []).1 (spelled, fits, refl));
      more = printed y.has_offsets place h.lines;
      written = h.written;
    }

-- Records at the front of bytes that are guessed to be a message.
use Rattle.std.proofs.Common.{◌≡◌, ◌≢◌, ℕ, ◌+◌, ◌-◌, ◌<◌, ◌≤◌, List, [], ◌∷◌, ◌++◌, Bool, length, max, take, drop, refl, sym, ap, ◌∙◌, subst, append_assoc, append-nil, arith, length-append, length-drop}
use Rattle.std.proofs.Math.Seq.{take-add, take-length}
use Rattle.std.proofs.lemmas.List.{length-take-le, take-append-drop, take_at}
use Rattle.wire_base.specs.declared.tag.WireType.{WireType}
use Rattle.wire_base.specs.declared.tag.WireType.TheVariants.{StartGroup, LengthDelimited}
use Rattle.wire_base.specs.Charge.{charge, payload_charge}
use Rattle.wire_base.specs.Delimited.{IsDelimited}
use Rattle.wire_base.specs.Field.{Payload, varint, fixed64, fixed32, bytes, group, Fields, none, field, joined, push, type_of}
use Rattle.wire_base.specs.Limits.{Charge, Fits, uncounted}
use Rattle.wire_base.specs.Read.{Reads}
use Rattle.wire_base.specs.RecordLaws.{JoinedAddsUp, JoinedTextsSpell, OnePayload}
use Rattle.wire_base.specs.Spells.{IsPayload, Spells, SpellsPayload}
use Rattle.wire_base.specs.Tag.{IsTagSpelling}
use Rattle.wire_base.specs.TagLaws.{OneTag}
use Rattle.wire_dump.specs.declared.layout.Layout.{Layout}
use Rattle.wire_dump.specs.declared.layout.Margin.{Margin}
use Rattle.wire_dump.specs.Dumps.{Dumps, SpellsRecord, nothing, more}
use Rattle.wire_dump.specs.Dumped.{IsDumped, Prints, RecordLines}
use Rattle.wire_dump.specs.Front.{IsNoGuess, PrintsFront, PrintsRecord}
use Rattle.wire_dump.specs.Places.{Line, line_of, printed, range_text, all_width}
use Rattle.wire_dump.proofs.Open.{dumps_push}
use Rattle.wire_dump.proofs.Put.{IsMargin, line_put, printed-append, width-append}

-- ---- one record

tag_some : (n : ℕ) (w : WireType) (text : List ℕ) → IsTagSpelling n w text → 0 < length text
tag_some n w [] is = absurd is.varint.ended
tag_some n w (b ∷ text) is = omega arith

-- a record of so many bytes stands at the front
pub record Stands (n : ℕ) (p : Payload) (all : List ℕ) (count : ℕ) : Type 0 where
  pub some : 0 < count
  pub within : count ≤ length all
  pub spelled : SpellsRecord n p (take count all)

pub stands : (n : ℕ) (p : Payload) (all behind rest : List ℕ) (count : ℕ)
    → Reads all (IsTagSpelling n (type_of p)) behind → Reads behind (SpellsPayload n p) rest
    → count ≡ length all - length rest → Stands n p all count
stands n p all behind rest count tag payload is =
    let text = tag.text ++ payload.text in
    let parts : all ≡ text ++ rest =
    tag.parts ∙ ap (λ (x : List ℕ). tag.text ++ x) payload.parts
    ∙ sym (append_assoc tag.text payload.text rest) in
    let sizes : length all ≡ length text + length rest = ap length parts ∙ length-append text rest in
    let both_sizes : length text ≡ length tag.text + length payload.text =
    length-append tag.text payload.text in
    let some : 0 < length tag.text = tag_some n (type_of p) tag.text tag.spelled in
    let width : length text ≡ count = omega (arith, sizes, is) in
    let is_text : take count all ≡ text =
    ap (λ (x : List ℕ). take count x) parts ∙ take_at text rest count width in
    let inner : Reads payload.text (SpellsPayload n p) [] = record {
      text = payload.text;
      parts = sym (append-nil payload.text);
      spelled = payload.spelled;
    } in
    let outer : Reads text (IsTagSpelling n (type_of p)) payload.text =
    record { text = tag.text; parts = refl; spelled = tag.spelled } in
    record {
      some = omega (arith, width, both_sizes, some);
      within = omega (arith, is);
      spelled = subst (λ (x : List ℕ). SpellsRecord n p x) (sym is_text)
          (payload.text, [], outer, inner, refl);
    }

pub line_taken : (y : Layout) (place n count : ℕ) (p : Payload)
    (all behind rest line old new : List ℕ) (m : Margin) → type_of p ≢ StartGroup
    → Reads all (IsTagSpelling n (type_of p)) behind → Reads behind (SpellsPayload n p) rest
    → count ≡ length all - length rest
    → ((text : List ℕ) → SpellsRecord n p text → RecordLines y n p text (line_of text line))
    → IsMargin y place (place + count) m
    → new ≡ old ++ (range_text m.is_shown m.start m.end ++ line)
    → PrintsRecord y place all count old new
line_taken y place n count p all behind rest line old new m flat tag payload is lines margin e =
    let h = stands n p all behind rest count tag payload is in
    let text = take count all in
    let width : count ≡ length text = sym (length-take-le count all h.within) in
    let at : IsMargin y place (place + length text) m =
    subst (λ (x : ℕ). IsMargin y place (place + x) m) width margin in
    record {
      within = h.within;
      none = λ zero. absurd (omega (arith, zero, h.some));
      some = λ _. record {
        number = n;
        payload = p;
        flat = flat;
        spelled = h.spelled;
        puts = line_put y place m text line old new (RecordLines y n p text)
            (lines text h.spelled) at e;
      };
    }

pub payload_taken : (y : Layout) (place n count len : ℕ)
    (all behind mid text payload old new : List ℕ)
    → Reads all (IsTagSpelling n LengthDelimited) behind
    → Reads behind (IsDelimited (take len mid)) (drop len mid)
    → count ≡ length all - length (drop len mid)
    → text ≡ take count all → payload ≡ take len mid
    → Prints y place (RecordLines y n (bytes payload) text) text old new
    → PrintsRecord y place all count old new
payload_taken y place n count len all behind mid text payload old new tag read is text_is
    payload_is puts =
    let p = bytes (take len mid) in
    let h = stands n p all behind (drop len mid) count tag read is in
    let here : Prints y place (RecordLines y n p (take count all)) (take count all) old new =
    subst (λ (x : List ℕ). Prints y place (RecordLines y n p x) x old new) text_is
    (subst (λ (x : List ℕ). Prints y place (RecordLines y n (bytes x) text) text old new) payload_is
    puts) in
    record {
      within = h.within;
      none = λ zero. absurd (omega (arith, zero, h.some));
      some = λ _. record {
        number = n;
        payload = p;
        flat = λ e. absurd cc;
        spelled = h.spelled;
        puts = here;
      };
    }

-- ---- records, one after another

-- a slice from a place to the end
pub from_place : (count : ℕ) (all : List ℕ)
    → take (length all - count) (drop count all) ≡ drop count all
from_place count all =
    ap (λ (x : ℕ). take x (drop count all)) (sym (length-drop count all))
    ∙ take-length (drop count all)

flat_payload : (p : Payload) → type_of p ≢ StartGroup → (payload_charge p).depth ≡ 0
flat_payload (varint v) flat = refl
flat_payload (fixed64 v) flat = refl
flat_payload (fixed32 v) flat = refl
flat_payload (bytes b) flat = refl
flat_payload (group fs) flat = absurd (flat refl)

pub front_begun : (y : Layout) (place : ℕ) (all old : List ℕ) → PrintsFront y place all 0 old old
front_begun y place all old = record {
  within = omega arith;
  fields = none;
  lines = [];
  spelled = refl;
  flat = refl;
  dumped = nothing refl refl;
  covers = refl;
  written = sym (append-nil old);
}

-- lines behind lines
written_on : (o : Bool) (place count : ℕ) (xs ys : List Line) (old mid new : List ℕ)
    → all_width xs ≡ count → mid ≡ old ++ printed o place xs
    → new ≡ mid ++ printed o (place + count) ys → new ≡ old ++ printed o place (xs ++ ys)
written_on o place count xs ys old mid new width first second =
    second ∙ ap (λ (x : List ℕ). x ++ printed o (place + count) ys) first
    ∙ append_assoc old (printed o place xs) (printed o (place + count) ys)
    ∙ ap (λ (x : ℕ). old ++ (printed o place xs ++ printed o (place + x) ys)) (sym width)
    ∙ ap (λ (x : List ℕ). old ++ x) (sym (printed-append o place xs ys))

pub front_more : JoinedTextsSpell → JoinedAddsUp → (y : Layout) (place count len : ℕ)
    (all old mid new : List ℕ) → PrintsFront y place all count old mid
    → PrintsRecord y (place + count) (drop count all) len mid new → 0 < len
    → PrintsFront y place all (count + len) old new
front_more spell adds_up y place count len all old mid new h taken some =
    let r = taken.some some in
    let one = field r.number r.payload none in
    let front = take count all in
    let text = take len (drop count all) in
    let fs = push h.fields r.number r.payload in
    let next : take (count + len) all ≡ front ++ text = take-add count len all in
    let width : length text ≡ len = length-take-le len (drop count all) taken.within in
    let (_, _, charged) = adds_up h.fields one in
    let depth : (charge fs).depth ≡ max (charge h.fields).depth (charge one).depth =
    ap (λ (c : Charge). c.depth) charged in
    record {
      within = omega (arith, h.within, taken.within, length-drop count all);
      fields = fs;
      lines = h.lines ++ r.puts.lines;
      spelled = subst (λ (x : List ℕ). Spells fs x) (sym next)
          (spell h.fields one front text h.spelled r.spelled);
      flat = omega (arith, depth, h.flat, flat_payload r.payload r.flat);
      dumped = subst (λ (x : List ℕ). Dumps y.budget y.level fs x (h.lines ++ r.puts.lines))
          (sym next)
          (dumps_push y.budget y.level r.number r.payload h.fields front text h.lines r.puts.lines
          h.dumped r.puts.are);
      covers = omega (arith, h.covers, r.puts.covers, width, width-append h.lines r.puts.lines);
      written = written_on y.has_offsets place count h.lines r.puts.lines old mid new h.covers
          h.written r.puts.written;
    }

within_levels : (fs : Fields) (levels : ℕ) → (charge fs).depth ≤ levels
    → Fits (charge fs) (uncounted levels)
within_levels fs levels few = record {
  depth = few;
  counts = record { unknown_fields = tt; element_memory = tt; unknown_bytes = tt };
}

dumps_joined : (b k : ℕ) (fs gs : Fields) (t u : List ℕ) (ls ms : List Line)
    → Dumps b k fs t ls → Dumps b k gs u ms → Dumps b k (joined fs gs) (t ++ u) (ls ++ ms)
dumps_joined b k none gs t u ls ms (nothing e f) d =
    let text : u ≡ t ++ u = sym (ap (λ (x : List ℕ). x ++ u) e) in
    let lines : ms ≡ ls ++ ms = sym (ap (λ (x : List Line). x ++ ms) f) in
    subst (λ (x : List ℕ). Dumps b k gs x (ls ++ ms)) text
    (subst (λ (x : List Line). Dumps b k gs u x) lines d)
dumps_joined b k (field n p others) gs t u ls ms (more first rest above below one others_too e f)
    d =
    more first (rest ++ u) above (below ++ ms) one
    (dumps_joined b k others gs rest u below ms others_too d)
    (ap (λ (x : List ℕ). x ++ u) e ∙ append_assoc first rest u)
    (ap (λ (x : List Line). x ++ ms) f ∙ append_assoc above below ms)

-- the bytes behind the records spell records, too
pub front_and_rest : JoinedTextsSpell → JoinedAddsUp → (y : Layout) (place count : ℕ)
    (all old mid new : List ℕ) → PrintsFront y place all count old mid
    → IsDumped y (place + count) (uncounted (y.budget + 1)) (drop count all) mid new
    → IsDumped y place (uncounted (y.budget + 1)) all old new
front_and_rest spell adds_up y place count all old mid new h rest =
    let fs = joined h.fields rest.fields in
    let lines = h.lines ++ rest.lines in
    let whole : take count all ++ drop count all ≡ all = take-append-drop count all in
    let (_, _, charged) = adds_up h.fields rest.fields in
    let depth : (charge fs).depth ≡ max (charge h.fields).depth (charge rest.fields).depth =
    ap (λ (c : Charge). c.depth) charged in
    let few : (charge rest.fields).depth ≤ y.budget + 1 = rest.fits.depth in
    record {
      fields = fs;
      lines = lines;
      spelled = subst (λ (x : List ℕ). Spells fs x) whole
          (spell h.fields rest.fields (take count all) (drop count all) h.spelled rest.spelled);
      fits = within_levels fs (y.budget + 1) (omega (arith, depth, h.flat, few));
      dumped = subst (λ (x : List ℕ). Dumps y.budget y.level fs x lines) whole
          (dumps_joined y.budget y.level h.fields rest.fields (take count all) (drop count all)
          h.lines rest.lines h.dumped rest.dumped);
      covers = omega (
        arith,
        h.within,
        h.covers,
        rest.covers,
        length-drop count all,
        width-append h.lines rest.lines,
      );
      written = written_on y.has_offsets place count h.lines rest.lines old mid new h.covers
          h.written rest.written;
    }

-- ---- what is no message

reads_more : (IsText : List ℕ → Type 0) (old new behind : List ℕ) → Reads old IsText new
    → Reads (old ++ behind) IsText (new ++ behind)
reads_more IsText old new behind h = record {
  text = h.text;
  parts = ap (λ (x : List ℕ). x ++ behind) h.parts ∙ append_assoc h.text new behind;
  spelled = h.spelled;
}

-- records behind records that stand at the front of the same bytes
record Splits (gs fs : Fields) (rest : List ℕ) : Type 0 where
  pub others : Fields
  pub is : fs ≡ joined gs others
  pub spelled : Spells others rest

splits : OneTag → OnePayload → (gs fs : Fields) (t u : List ℕ) → Spells gs t
    → Spells fs (t ++ u) → Splits gs fs u
splits one_tag one_payload none fs t u e spelled = record {
  others = fs;
  is = refl;
  spelled = subst (λ (x : List ℕ). Spells fs x) (ap (λ (x : List ℕ). x ++ u) e) spelled;
}
splits one_tag one_payload (field n p gs) none t u (behind, rest, tag, payload, inner) empty =
    let some : 0 < length tag.text = tag_some n (type_of p) tag.text tag.spelled in
    let long : length t ≡ length tag.text + length behind =
    ap length tag.parts ∙ length-append tag.text behind in
    let sum : length t + length u ≡ 0 = sym (length-append t u) ∙ ap length empty in
    absurd (omega (arith, some, long, sum))
splits one_tag one_payload (field n p gs) (field m q fs) t u (behind, rest, tag, payload, inner)
    (after, then, other, found, less) =
    let w = type_of p in
    let (number, kind, place) =
    one_tag (t ++ u) (behind ++ u) after n m w (type_of q)
    (reads_more (IsTagSpelling n w) t behind u tag) other in
    let first : Reads (behind ++ u) (IsPayload n w p) (rest ++ u) = record {
      text = payload.text;
      parts = ap (λ (x : List ℕ). x ++ u) payload.parts ∙ append_assoc payload.text rest u;
      spelled = record { kind = refl; spelled = payload.spelled };
    } in
    let second : Reads after (IsPayload m w q) then = record {
      text = found.text;
      parts = found.parts;
      spelled = record { kind = sym kind; spelled = found.spelled };
    } in
    let here : Reads (behind ++ u) (IsPayload n w q) then =
    subst (λ (x : ℕ). Reads (behind ++ u) (IsPayload x w q) then) (sym number)
    (subst (λ (x : List ℕ). Reads x (IsPayload m w q) then) (sym place) second) in
    let (same, next) = one_payload n w p q (behind ++ u) (rest ++ u) then first here in
    let s = splits one_tag one_payload gs fs rest u inner
    (subst (λ (x : List ℕ). Spells fs x) (sym next) less) in
    let are : fs ≡ joined gs s.others = s.is in
    record { others = s.others; is = cc; spelled = s.spelled }

-- the bytes behind the records spell none
pub front_no_guess : OneTag → OnePayload → JoinedAddsUp → (y : Layout) (place count : ℕ)
    (all old mid new : List ℕ) → PrintsFront y place all count old mid
    → IsNoGuess y (drop count all) mid new → IsNoGuess y all old new
front_no_guess one_tag one_payload adds_up y place count all old mid new h guess =
    let whole : take count all ++ drop count all ≡ all = take-append-drop count all in
    let put = printed y.has_offsets place h.lines in
    record {
      never = λ fs spelled fits.
          let s = splits one_tag one_payload h.fields fs (take count all) (drop count all)
          h.spelled (subst (λ (x : List ℕ). Spells fs x) (sym whole) spelled) in
          let (_, _, charged) = adds_up h.fields s.others in
          let depth : (charge fs).depth ≡ max (charge h.fields).depth (charge s.others).depth =
          ap (λ (x : Fields). (charge x).depth) s.is ∙ ap (λ (c : Charge). c.depth) charged in
          let few : (charge fs).depth ≤ y.budget + 1 = fits.depth in
          guess.never s.others s.spelled
          (within_levels s.others (y.budget + 1) (omega (arith, depth, few)));
      more = put ++ guess.more;
      written = guess.written ∙ ap (λ (x : List ℕ). x ++ guess.more) h.written
          ∙ append_assoc old put guess.more;
    }

-- no record begins the bytes, and nothing is put
pub nothing_begins : (y : Layout) (all old : List ℕ) → ((fs : Fields) → Spells fs all → ⊥)
    → IsNoGuess y all old old
nothing_begins y all old never = record {
  never = λ fs spelled _. never fs spelled;
  more = [];
  written = sym (append-nil old);
}

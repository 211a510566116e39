-- The same bytes have one dump.
use Rattle.std.proofs.Common.{◌≡◌, ℕ, ◌+◌, ◌-◌, List, [], ◌++◌, length, take, refl, sym, ap, ◌∙◌, subst, append_assoc, append-nil, arith, length-append}
use Rattle.std.proofs.lemmas.List.{take_at}
use Rattle.wire_base.specs.declared.tag.WireType.{WireType}
use Rattle.wire_base.specs.declared.tag.WireType.TheVariants.{StartGroup, EndGroup}
use Rattle.wire_base.specs.Field.{Payload, varint, fixed64, fixed32, bytes, group, Fields, none, field, type_of}
use Rattle.wire_base.specs.Read.{Reads}
use Rattle.wire_base.specs.RecordLaws.{OnePayload, OneSpelled}
use Rattle.wire_base.specs.Spells.{IsPayload}
use Rattle.wire_base.specs.Tag.{IsTagSpelling}
use Rattle.wire_base.specs.TagLaws.{OneTag}
use Rattle.wire_base.specs.Text.{text_of}
use Rattle.wire_dump.specs.Dumps.{Dumps, DumpsRecord, SpellsRecord, number, eight_bytes, four_bytes, message, string, block, nothing, more}
use Rattle.wire_dump.specs.Laws.{OneDump, OneShortened}
use Rattle.wire_dump.specs.Lines.{number_line, fixed_line, string_line, opening, end_line}
use Rattle.wire_dump.specs.Places.{Line, line_of, printed}

same_front : (t u x : List ℕ) → t ++ x ≡ u ++ x → t ≡ u
same_front t u x e =
    let sizes : length u ≡ length t =
    omega (arith, ap length e, length-append t x, length-append u x) in
    sym (take_at t x (length t) refl) ∙ ap (λ (z : List ℕ). take (length t) z) e
    ∙ take_at u x (length t) sizes

module _ (tags : OneTag) (payloads : OnePayload) (spelled : OneSpelled) where
  tag_text : (n : ℕ) (w : WireType) (t u x y : List ℕ) → IsTagSpelling n w t
      → IsTagSpelling n w u → t ++ x ≡ u ++ y → (t ≡ u) × (x ≡ y)
  tag_text n w t u x y a b e =
      let first : Reads (t ++ x) (IsTagSpelling n w) x =
      record { text = t; parts = refl; spelled = a } in
      let second : Reads (t ++ x) (IsTagSpelling n w) y =
      record { text = u; parts = e; spelled = b } in
      let same = (tags (t ++ x) x y n n w w first second).2 in
      (same_front t u x (e ∙ ap (λ (z : List ℕ). u ++ z) (sym same)), same)

  record_text : (n : ℕ) (p : Payload) (t u x y : List ℕ) → SpellsRecord n p t
      → SpellsRecord n p u → t ++ x ≡ u ++ y → (t ≡ u) × (x ≡ y)
  record_text n p t u x y (behind, rest, tag, payload, ended)
      (behind2, rest2, tag2, payload2, ended2) e =
      let w = type_of p in
      let first : Reads (t ++ x) (IsTagSpelling n w) (behind ++ x) = record {
        text = tag.text;
        parts = ap (λ (z : List ℕ). z ++ x) tag.parts ∙ append_assoc tag.text behind x;
        spelled = tag.spelled;
      } in
      let second : Reads (t ++ x) (IsTagSpelling n w) (behind2 ++ y) = record {
        text = tag2.text;
        parts = e ∙ ap (λ (z : List ℕ). z ++ y) tag2.parts ∙ append_assoc tag2.text behind2 y;
        spelled = tag2.spelled;
      } in
      let same : behind ++ x ≡ behind2 ++ y =
      (tags (t ++ x) (behind ++ x) (behind2 ++ y) n n w w first second).2 in
      let one : Reads (behind ++ x) (IsPayload n w p) x = record {
        text = payload.text;
        parts = ap (λ (z : List ℕ). z ++ x)
            (payload.parts ∙ ap (λ (z : List ℕ). payload.text ++ z) ended
            ∙ append-nil payload.text);
        spelled = record { kind = refl; spelled = payload.spelled };
      } in
      let other : Reads (behind ++ x) (IsPayload n w p) y = record {
        text = payload2.text;
        parts = same ∙ ap (λ (z : List ℕ). z ++ y)
            (payload2.parts ∙ ap (λ (z : List ℕ). payload2.text ++ z) ended2
            ∙ append-nil payload2.text);
        spelled = record { kind = refl; spelled = payload2.spelled };
      } in
      let tails = (payloads n w p p (behind ++ x) x y one other).1 in
      (same_front t u x (e ∙ ap (λ (z : List ℕ). u ++ z) (sym tails)), tails)

  -- a line of the same text
  one_line : (t u line : List ℕ) (ls ms : List Line) → t ≡ u → ls ≡ line_of t line
      → ms ≡ line_of u line → ls ≡ ms
  one_line t u line ls ms same e f = e ∙ ap (λ (z : List ℕ). line_of z line) same ∙ sym f

  -- lines between two
  between : (t u a b first last : List ℕ) (is js ls ms : List Line) → t ≡ u → a ≡ b → is ≡ js
      → ls ≡ line_of t first ++ (is ++ line_of a last)
      → ms ≡ line_of u first ++ (js ++ line_of b last) → ls ≡ ms
  between t u a b first last is js ls ms same ends inner e f =
      e ∙ ap (λ (z : List ℕ). line_of z first ++ (is ++ line_of a last)) same
      ∙ ap (λ (z : List ℕ). line_of u first ++ (is ++ line_of z last)) ends
      ∙ ap (λ (z : List Line). line_of u first ++ (z ++ line_of b last)) inner ∙ sym f

  mutual
    one_record : (b k n : ℕ) (p : Payload) (t u x y : List ℕ) (ls ms : List Line)
        → DumpsRecord b k n p t ls → DumpsRecord b k n p u ms → t ++ x ≡ u ++ y
        → (t ≡ u) × (ls ≡ ms) × (x ≡ y)
    one_record b k n (varint v) t u x y ls ms (number is e) (number js f) h =
        let one = record_text n (varint v) t u x y is js h in
        (one.0, one_line t u (number_line k n v) ls ms one.0 e f, one.1)
    one_record b k n (fixed64 v) t u x y ls ms (eight_bytes is e) (eight_bytes js f) h =
        let one = record_text n (fixed64 v) t u x y is js h in
        (one.0, one_line t u (fixed_line k n 16 v) ls ms one.0 e f, one.1)
    one_record b k n (fixed32 v) t u x y ls ms (four_bytes is e) (four_bytes js f) h =
        let one = record_text n (fixed32 v) t u x y is js h in
        (one.0, one_line t u (fixed_line k n 8 v) ls ms one.0 e f, one.1)
    one_record b k n (bytes c) t u x y ls ms (string is never e)
        (string js never2 f) h =
        let one = record_text n (bytes c) t u x y is js h in
        (one.0, one_line t u (string_line k n c) ls ms one.0 e f, one.1)
    one_record b k n (bytes c) t u x y ls ms (string is never e)
        (message gs head inside js parts m d f) h = absurd (never gs m)
    one_record b k n (bytes c) t u x y ls ms (message fs head inside is parts m d e)
        (string js never f) h = absurd (never fs m)
    one_record b k n (bytes c) t u x y ls ms (message fs head inside is parts m d e)
        (message gs head2 inside2 js parts2 m2 d2 f) h =
        let one = record_text n (bytes c) t u x y is js h in
        let heads : head ≡ head2 = same_front head head2 c (sym parts ∙ one.0 ∙ parts2) in
        let fields_are : gs ≡ fs = spelled gs fs c m2.spelled m.spelled in
        let inner = one_list (b - 1) (k + 1) fs c c [] [] inside inside2 d
        (subst (λ (z : Fields). Dumps (b - 1) (k + 1) z c inside2) fields_are d2) refl in (
          one.0,
          between head head2 [] [] (opening k n) (end_line k) inside inside2 ls ms heads refl
              inner.1 e f,
          one.1,
        )
    one_record b k n (group fs) t u x y ls ms (block start body end inside tag d last parts e)
        (block start2 body2 end2 inside2 tag2 d2 last2 parts2 f) h =
        let spread : t ++ x ≡ start ++ (body ++ (end ++ x)) =
        ap (λ (z : List ℕ). z ++ x) parts ∙ append_assoc start (body ++ end) x
        ∙ ap (λ (z : List ℕ). start ++ z) (append_assoc body end x) in
        let spread2 : u ++ y ≡ start2 ++ (body2 ++ (end2 ++ y)) =
        ap (λ (z : List ℕ). z ++ y) parts2 ∙ append_assoc start2 (body2 ++ end2) y
        ∙ ap (λ (z : List ℕ). start2 ++ z) (append_assoc body2 end2 y) in
        let starts = tag_text n StartGroup start start2 (body ++ (end ++ x))
        (body2 ++ (end2 ++ y)) tag tag2 (sym spread ∙ h ∙ spread2) in
        let inner = one_list (b - 1) (k + 1) fs body body2 (end ++ x) (end2 ++ y) inside inside2
        d d2 starts.1 in
        let ends = tag_text n EndGroup end end2 x y last last2 inner.2 in (
          same_front t u x (h ∙ ap (λ (z : List ℕ). u ++ z) (sym ends.1)),
          between start start2 end end2 (opening k n) (end_line k) inside inside2 ls ms starts.0
              ends.0 inner.1 e f,
          ends.1,
        )

    one_list : (b k : ℕ) (fs : Fields) (t u x y : List ℕ) (ls ms : List Line)
        → Dumps b k fs t ls → Dumps b k fs u ms → t ++ x ≡ u ++ y
        → (t ≡ u) × (ls ≡ ms) × (x ≡ y)
    one_list b k none t u x y ls ms (nothing e f) (nothing g i) h = (
      e ∙ sym g,
      f ∙ sym i,
      ap (λ (z : List ℕ). z ++ x) (sym e) ∙ h ∙ ap (λ (z : List ℕ). z ++ y) g,
    )
    one_list b k (field n p others) t u x y ls ms (more first rest above below d ds e f)
        (more first2 rest2 above2 below2 d2 ds2 g i) h =
        let spread : t ++ x ≡ first ++ (rest ++ x) =
        ap (λ (z : List ℕ). z ++ x) e ∙ append_assoc first rest x in
        let spread2 : u ++ y ≡ first2 ++ (rest2 ++ y) =
        ap (λ (z : List ℕ). z ++ y) g ∙ append_assoc first2 rest2 y in
        let one = one_record b k n p first first2 (rest ++ x) (rest2 ++ y) above above2 d d2
        (sym spread ∙ h ∙ spread2) in
        let next = one_list b k others rest rest2 x y below below2 ds ds2 one.2 in (
          same_front t u x (h ∙ ap (λ (z : List ℕ). u ++ z) (sym next.2)),
          f ∙ ap (λ (z : List Line). z ++ below) one.1
              ∙ ap (λ (z : List Line). above2 ++ z) next.1 ∙ sym i,
          next.2,
        )

  pub one_dump : OneDump
  one_dump layout place l m all old new other h g =
      let fields_are : g.fields ≡ h.fields = spelled g.fields h.fields all g.spelled h.spelled in
      let lines_are : h.lines ≡ g.lines =
      (one_list layout.budget layout.level h.fields all all [] [] h.lines g.lines h.dumped
      (subst (λ (z : Fields). Dumps layout.budget layout.level z all g.lines) fields_are
      g.dumped) refl).1 in
      h.written
      ∙ ap (λ (z : List Line). old ++ printed layout.has_offsets place z) lines_are
      ∙ sym g.written

pub one_shortened : OneSpelled → OneShortened
one_shortened spelled l m all text other h g =
    h.is ∙ ap text_of (spelled h.fields g.fields all h.decodes.spelled g.decodes.spelled)
    ∙ sym g.is

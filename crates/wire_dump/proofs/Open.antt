-- The lines of records, one record or one open group more.
use Rattle.std.proofs.Common.{◌≡◌, ℕ, suc, ◌+◌, ◌-◌, List, [], ◌∷◌, ◌++◌, length, refl, sym, ap, ◌∙◌, subst, append_assoc, append-nil, arith}
use Rattle.wire_base.specs.declared.tag.WireType.TheVariants.{StartGroup, EndGroup}
use Rattle.wire_base.specs.Field.{Payload, group, Fields, none, field, push}
use Rattle.wire_base.specs.Tag.{IsTagSpelling}
use Rattle.wire_read.specs.Opened.{Group}
use Rattle.wire_dump.specs.Dumps.{Dumps, DumpsOpen, DumpsRecord, nothing, more, block}
use Rattle.wire_dump.specs.Lines.{opening, end_line}
use Rattle.wire_dump.specs.Places.{Line, line_of}

-- a record at the end of a list
pub dumps_push : (b k n : ℕ) (p : Payload) (fs : Fields) (t u : List ℕ) (ls ms : List Line)
    → Dumps b k fs t ls → DumpsRecord b k n p u ms → Dumps b k (push fs n p) (t ++ u) (ls ++ ms)
dumps_push b k n p none t u ls ms (nothing e f) d =
    more u [] ms [] d (nothing refl refl)
    (ap (λ (x : List ℕ). x ++ u) e ∙ sym (append-nil u))
    (ap (λ (x : List Line). x ++ ms) f ∙ sym (append-nil ms))
dumps_push b k n p (field m q others) t u ls ms (more first rest above below one others_too e f) d =
    more first (rest ++ u) above (below ++ ms) one
    (dumps_push b k n p others rest u below ms others_too d)
    (ap (λ (x : List ℕ). x ++ u) e ∙ append_assoc first rest u)
    (ap (λ (x : List Line). x ++ ms) f ∙ append_assoc above below ms)

-- a record at the end of the innermost list
pub open_record : (b k n : ℕ) (p : Payload) (levels : List Group) (fs : Fields) (t u : List ℕ)
    (ls ms : List Line) → DumpsOpen b k levels fs t ls
    → DumpsRecord (b - length levels) (k + length levels) n p u ms
    → DumpsOpen b k levels (push fs n p) (t ++ u) (ls ++ ms)
open_record b k n p [] fs t u ls ms h d =
    let no_less : b - 0 ≡ b = omega arith in
    let no_more : k + 0 ≡ k = omega arith in
    let here : DumpsRecord b k n p u ms =
    subst (λ (x : ℕ). DumpsRecord x k n p u ms) no_less
    (subst (λ (x : ℕ). DumpsRecord (b - 0) x n p u ms) no_more d) in
    dumps_push b k n p fs t u ls ms h here
open_record b k n p (g ∷ outside) fs t u ls ms
    (before, start, body, above, inside, outer, tag, inner, e, f) d =
    let head = line_of start (opening (k + length outside) g.number) in (
      before,
      start,
      body ++ u,
      above,
      inside ++ ms,
      outer,
      tag,
      dumps_push (b - suc (length outside)) (k + suc (length outside)) n p fs body u inside ms
          inner d,
      ap (λ (x : List ℕ). x ++ u) e ∙ append_assoc before (start ++ body) u
          ∙ ap (λ (x : List ℕ). before ++ x) (append_assoc start body u),
      ap (λ (x : List Line). x ++ ms) f ∙ append_assoc above (head ++ inside) ms
          ∙ ap (λ (x : List Line). above ++ x) (append_assoc head inside ms),
    )

-- a group is opened
pub open_start : (b k n : ℕ) (levels : List Group) (fs : Fields) (t u : List ℕ) (ls : List Line)
    → DumpsOpen b k levels fs t ls → IsTagSpelling n StartGroup u
    → DumpsOpen b k (record { before = fs; number = n } ∷ levels) none (t ++ u)
    (ls ++ line_of u (opening (k + length levels) n))
open_start b k n levels fs t u ls h tag =
    let head = line_of u (opening (k + length levels) n) in (
      t,
      u,
      [],
      ls,
      [],
      h,
      tag,
      nothing refl refl,
      ap (λ (x : List ℕ). t ++ x) (sym (append-nil u)),
      ap (λ (x : List Line). ls ++ x) (sym (append-nil head)),
    )

-- the innermost group is closed
pub open_end : (b k : ℕ) (g : Group) (outside : List Group) (fs : Fields) (t u : List ℕ)
    (ls : List Line)
    → DumpsOpen b k (g ∷ outside) fs t ls → IsTagSpelling g.number EndGroup u
    → DumpsOpen b k outside (push g.before g.number (group fs)) (t ++ u)
    (ls ++ line_of u (end_line (k + length outside)))
open_end b k g outside fs t u ls
    (before, start, body, above, inside, outer, tag, inner, e, f) last =
    let count = length outside in
    let head = line_of start (opening (k + count) g.number) in
    let tail = line_of u (end_line (k + count)) in
    let less : b - suc count ≡ (b - count) - 1 = omega arith in
    let deeper : k + suc count ≡ (k + count) + 1 = omega arith in
    let within : Dumps ((b - count) - 1) ((k + count) + 1) fs body inside =
    subst (λ (x : ℕ). Dumps x ((k + count) + 1) fs body inside) less
    (subst (λ (x : ℕ). Dumps (b - suc count) x fs body inside) deeper inner) in
    let bytes_are : t ++ u ≡ before ++ (start ++ (body ++ u)) =
    ap (λ (x : List ℕ). x ++ u) e ∙ append_assoc before (start ++ body) u
    ∙ ap (λ (x : List ℕ). before ++ x) (append_assoc start body u) in
    let lines_are : ls ++ tail ≡ above ++ (head ++ (inside ++ tail)) =
    ap (λ (x : List Line). x ++ tail) f ∙ append_assoc above (head ++ inside) tail
    ∙ ap (λ (x : List Line). above ++ x) (append_assoc head inside tail) in
    subst (λ (x : List ℕ). DumpsOpen b k outside (push g.before g.number (group fs)) x (ls ++ tail))
    (sym bytes_are)
    (subst (λ (x : List Line). DumpsOpen b k outside (push g.before g.number (group fs))
    (before ++ (start ++ (body ++ u))) x)
    (sym lines_are)
    (open_record b k g.number (group fs) outside g.before before (start ++ (body ++ u)) above
    (head ++ (inside ++ tail)) outer (block start body u inside tag within last refl refl)))

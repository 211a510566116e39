-- The lines of records with a schema, one record or one open group more.
use Rattle.std.proofs.Common.{◌≡◌, ℕ, suc, ◌+◌, ◌-◌, List, [], ◌∷◌, ◌++◌, length, refl, sym, ap, ◌∙◌, subst, append_assoc, append-nil, arith, Option, None, Some}
use Rattle.wire_base.specs.declared.tag.WireType.TheVariants.{StartGroup, EndGroup}
use Rattle.wire_base.specs.Field.{Payload, group, Fields, none, field, push}
use Rattle.wire_base.specs.Tag.{IsTagSpelling}
use Rattle.wire_read.specs.Opened.{Group, numbers}
use Rattle.wire_dynamic.specs.declared.field.Field.{Field}
use Rattle.wire_dynamic.specs.declared.schema.Schema.{Schema}
use Rattle.wire_dynamic.specs.Walks.{count_unknown, field_in, innermost, unknown_groups}
use Rattle.wire_dump.specs.Lines.{end_line}
use Rattle.wire_dump.specs.Shows.{Shows, ShowsOpen, ShowsRecord, Span, block, budget_at, group_opening, guesses, guesses_in, line_span, more, nothing, type_in}

-- a record at the end of a list
pub shows_push : (s : Schema) (d b k n : ℕ) (m : Option ℕ) (p : Payload) (fs : Fields) (t u : List ℕ)
    (ls ms : List Span) → Shows s d b k m fs t ls
    → ShowsRecord s d b k (field_in s n m) n p u ms → Shows s d b k m (push fs n p) (t ++ u) (ls ++ ms)
shows_push s d b k n m p none t u ls ms (nothing e f) h =
    more u [] ms [] h (nothing refl refl)
    (ap (λ (x : List ℕ). x ++ u) e ∙ sym (append-nil u))
    (ap (λ (x : List Span). x ++ ms) f ∙ sym (append-nil ms))
shows_push s d b k n m p (field o q others) t u ls ms (more first rest above below one all e f) h =
    more first (rest ++ u) above (below ++ ms) one
    (shows_push s d b k n m p others rest u below ms all h)
    (ap (λ (x : List ℕ). x ++ u) e ∙ append_assoc first rest u)
    (ap (λ (x : List Span). x ++ ms) f ∙ append_assoc above below ms)

-- how deep payloads are read as messages in a group more
budget_inside : (m : Option ℕ) (count : ℕ)
    → guesses - count_unknown m count ≡ guesses_in m (guesses - count)
budget_inside None count = omega arith
budget_inside (Some place) count = refl

-- the field of a number in the innermost of the groups
abbrev pub field_inside : Schema → ℕ → List Group → ℕ → Option Field
field_inside s root levels n = field_in s n (innermost s root (numbers levels))

-- a record at the end of the innermost list
pub open_record : (s : Schema) (d k root n : ℕ) (p : Payload) (levels : List Group) (fs : Fields)
    (t u : List ℕ) (ls ms : List Span) → ShowsOpen s d k root levels fs t ls
    → ShowsRecord s (d - length levels) (budget_at s root (numbers levels)) (k + length levels)
    (field_inside s root levels n) n p u ms
    → ShowsOpen s d k root levels (push fs n p) (t ++ u) (ls ++ ms)
open_record s d k root n p [] fs t u ls ms h r =
    let no_less : d - 0 ≡ d = omega arith in
    let no_more : k + 0 ≡ k = omega arith in
    let found = field_inside s root [] n in
    let here : ShowsRecord s d guesses k found n p u ms =
    subst (λ (x : ℕ). ShowsRecord s x guesses k found n p u ms) no_less
    (subst (λ (x : ℕ). ShowsRecord s (d - 0) guesses x found n p u ms) no_more r) in
    shows_push s d guesses k n (Some root) p fs t u ls ms h here
open_record s d k root n p (g ∷ outside) fs t u ls ms
    (before, start, body, above, inside, outer, tag, inner, e, f) r =
    let head = group_opening s (k + length outside) g.number
    (field_inside s root outside g.number) start in (
      before,
      start,
      body ++ u,
      above,
      inside ++ ms,
      outer,
      tag,
      shows_push s (d - suc (length outside)) (budget_at s root (numbers (g ∷ outside)))
          (k + suc (length outside)) n (innermost s root (numbers (g ∷ outside))) p fs body u inside ms inner r,
      ap (λ (x : List ℕ). x ++ u) e ∙ append_assoc before (start ++ body) u
          ∙ ap (λ (x : List ℕ). before ++ x) (append_assoc start body u),
      ap (λ (x : List Span). x ++ ms) f ∙ append_assoc above (head ++ inside) ms
          ∙ ap (λ (x : List Span). above ++ x) (append_assoc head inside ms),
    )

-- a group is opened
pub open_start : (s : Schema) (d k root n : ℕ) (levels : List Group) (fs : Fields) (t u : List ℕ)
    (ls : List Span) → ShowsOpen s d k root levels fs t ls → IsTagSpelling n StartGroup u
    → ShowsOpen s d k root (record { before = fs; number = n } ∷ levels) none (t ++ u)
    (ls ++ group_opening s (k + length levels) n (field_inside s root levels n) u)
open_start s d k root n levels fs t u ls h tag =
    let head = group_opening s (k + length levels) n (field_inside s root levels n) u in (
      t,
      u,
      [],
      ls,
      [],
      h,
      tag,
      nothing refl refl,
      ap (λ (x : List ℕ). t ++ x) (sym (append-nil u)),
      ap (λ (x : List Span). ls ++ x) (sym (append-nil head)),
    )

-- the innermost group is closed
pub open_end : (s : Schema) (d k root : ℕ) (g : Group) (outside : List Group) (fs : Fields)
    (t u : List ℕ) (ls : List Span)
    → ShowsOpen s d k root (g ∷ outside) fs t ls → IsTagSpelling g.number EndGroup u
    → ShowsOpen s d k root outside (push g.before g.number (group fs)) (t ++ u)
    (ls ++ line_span u (end_line (k + length outside)))
open_end s d k root g outside fs t u ls
    (before, start, body, above, inside, outer, tag, inner, e, f) last =
    let count = length outside in
    let found = field_inside s root outside g.number in
    let head = group_opening s (k + count) g.number found start in
    let tail = line_span u (end_line (k + count)) in
    let less : d - suc count ≡ (d - count) - 1 = omega arith in
    let deeper : k + suc count ≡ (k + count) + 1 = omega arith in
    let around = budget_at s root (numbers outside) in
    let budget = budget_inside (type_in found) (unknown_groups s root (numbers outside)) in
    let b = guesses_in (type_in found) around in
    let within : Shows s ((d - count) - 1) b ((k + count) + 1) (type_in found) fs body inside =
    subst (λ (x : ℕ). Shows s x b ((k + count) + 1) (type_in found) fs body inside) less
    (subst (λ (x : ℕ). Shows s (d - suc count) b x (type_in found) fs body inside) deeper
    (subst (λ (x : ℕ). Shows s (d - suc count) x (k + suc count) (type_in found) fs body inside)
    budget inner)) in
    let bytes_are : t ++ u ≡ before ++ (start ++ (body ++ u)) =
    ap (λ (x : List ℕ). x ++ u) e ∙ append_assoc before (start ++ body) u
    ∙ ap (λ (x : List ℕ). before ++ x) (append_assoc start body u) in
    let lines_are : ls ++ tail ≡ above ++ (head ++ (inside ++ tail)) =
    ap (λ (x : List Span). x ++ tail) f ∙ append_assoc above (head ++ inside) tail
    ∙ ap (λ (x : List Span). above ++ x) (append_assoc head inside tail) in
    subst (λ (x : List ℕ). ShowsOpen s d k root outside (push g.before g.number (group fs)) x
    (ls ++ tail))
    (sym bytes_are)
    (subst (λ (x : List Span). ShowsOpen s d k root outside (push g.before g.number (group fs))
    (before ++ (start ++ (body ++ u))) x)
    (sym lines_are)
    (open_record s d k root g.number (group fs) outside g.before before
    (start ++ (body ++ u)) above (head ++ (inside ++ tail)) outer
    (block start body u inside tag within last refl refl)))

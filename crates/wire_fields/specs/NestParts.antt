-- What the proof that nests are read back stands on: what holds of lists of records that were
-- joined, taken apart again; and rows that have one message at most.
use Rattle.std.proofs.Common.{◌≡◌, ℕ, List, [], refl, sym, ap, ◌∙◌}
use Rattle.std.specs.Prelude.{Bool, true, false}
use Rattle.std.proofs.Math.Nat.{add_comm, max_comm}
use Rattle.wire_codec.specs.Field.{Fields, none, field, joined}
use Rattle.wire_codec.specs.Folds.{Step, Folds}
use Rattle.wire_codec.specs.InRange.{AreFitting, AreNumbered}
use Rattle.wire_codec.specs.Limits.{Charge, both, no_charge}
use Rattle.wire_codec.specs.LimitsLaws.{ChargesAddUp}
use Rattle.wire_fields.specs.Back.{AllAre}
use Rattle.wire_fields.specs.Nest.{Nest, nest, Rows, Row, end, ahead}
use Rattle.wire_fields.specs.NestRange.{IsFit}
use Rattle.wire_fields.specs.NestTable.{Table}

pub fold_split : {V : Type 0} (takes : Step V) → ChargesAddUp → (fs gs : Fields) (m z : V)
    (c : Charge) → Folds takes m (joined fs gs) c z
    → (u : V) × (first rest : Charge) × Folds takes m fs first u × Folds takes u gs rest z
    × (c ≡ both first rest)
fold_split takes charges none gs m z c h =
    (m, no_charge, c, (refl, refl), h, sym (charges.nothing_first c))
fold_split takes charges (field n p others) gs m z c (mid, one, rest, step, more, sum) =
    let (u, first, last, front, behind, is) = fold_split takes charges others gs mid z rest more
    in (
      u,
      both one first,
      last,
      (mid, one, first, step, front, refl),
      behind,
      sum ∙ ap (both one) is ∙ sym (charges.assoc one first last),
    )

pub all_split : (Is : ℕ → Type 0) (fs gs : Fields) → AllAre Is (joined fs gs)
    → AllAre Is fs × AllAre Is gs
all_split Is none gs h = (tt, h)
all_split Is (field n p rest) gs h =
    let parts = all_split Is rest gs h.1 in ((h.0, parts.0), parts.1)

pub fitting_split : (fs gs : Fields) → AreFitting (joined fs gs) → AreFitting fs × AreFitting gs
fitting_split none gs h = (tt, h)
fitting_split (field n p rest) gs h =
    let parts = fitting_split rest gs h.1 in ((h.0, parts.0), parts.1)

pub numbered_split : (fs gs : Fields) → AreNumbered (joined fs gs) → AreNumbered fs × AreNumbered gs
numbered_split none gs h = (tt, h)
numbered_split (field n p rest) gs h =
    let parts = numbered_split rest gs h.2 in ((h.0, h.1, parts.0), parts.1)

-- charges in another order
pub swapped : (a b : Charge) → both a b ≡ both b a
swapped a b =
    rw (
      max_comm a.depth b.depth,
      add_comm a.counts.unknown_fields b.counts.unknown_fields,
      add_comm a.counts.element_memory b.counts.element_memory,
      add_comm a.counts.unknown_bytes b.counts.unknown_bytes,
    ) refl

pub paired : ChargesAddUp → (a b c d : Charge)
    → both a (both b (both c d)) ≡ both (both a c) (both b d)
paired charges a b c d =
    ap (both a) (sym (charges.assoc b c d) ∙ ap (λ x. both x d) (swapped b c)
    ∙ charges.assoc c b d)
    ∙ sym (charges.assoc a c (both b d))

-- ---- rows

-- of a row with one message at most: it has none, or one, and then none of these stand before it
abbrev pub IsFitBehind : {L : Type 0} → List (Nest L) → Row L → Type 0
IsFitBehind before end = Unit {0}
IsFitBehind before (ahead m ms) = (before ≡ []) × (ms ≡ end)

pub fit_behind : {L : Type 0} (once : Bool) (r : Row L) → IsFit once r → once ≡ true
    → IsFitBehind [] r
fit_behind false r h is = absurd cc
fit_behind true end h is = tt
fit_behind true (ahead m end) h is = (refl, refl)
fit_behind true (ahead m (ahead k ms)) h is = absurd h

-- where a row has one message at most, the rest of a value stays beside it
abbrev pub IsKept : {L : Type 0} → Table L → ℕ → L → Rows L → Row L → Type 0
IsKept t i l rows end = Unit {0}
IsKept t i l rows (ahead m ms) = t.once i ≡ true → t.beside i (nest l rows) ≡ nest l rows

not_end : {L : Type 0} (m : Nest L) (ms : Row L) → ahead m ms ≡ end → ⊥
not_end m ms is = absurd cc

-- no message stands behind another there
pub kept_behind : {L : Type 0} (t : Table L) (i : ℕ) (l : L) (rows : Rows L) (q : Row L)
    → (t.once i ≡ true → q ≡ end) → IsKept t i l rows q
kept_behind t i l rows end last = tt
kept_behind t i l rows (ahead m ms) last = λ once. absurd (not_end m ms (last once))

-- Moves one after another: where records are taken, a reader goes over their items, and it goes on
-- in one way.
use Rattle.std.proofs.Common.{◌≡◌, ◌≢◌, ℕ, ◌<◌, ◌≤◌, List, [], ◌∷◌, ◌++◌, length, length-append, append_assoc, refl, sym, ap, ◌∙◌, subst, arith}
use Rattle.wire_base.specs.declared.tag.WireType.{WireType}
use Rattle.wire_base.specs.declared.tag.WireType.TheVariants.{StartGroup, EndGroup}
use Rattle.wire_base.specs.Charge.{charge, payload_charge}
use Rattle.wire_base.specs.Field.{Payload, varint, fixed64, fixed32, bytes, group, Fields, none, field, type_of}
use Rattle.wire_base.specs.Items.{Item, start, end, whole}
use Rattle.wire_base.specs.Limits.{Limits, Fits, nested, one_field, left_after}
use Rattle.wire_base.specs.LimitsLaws.{LimitsAddUp, LevelsAddUp}
use Rattle.wire_base.specs.Read.{Reads}
use Rattle.wire_base.specs.RecordLaws.{OnePayload}
use Rattle.wire_base.specs.Spells.{Spells, SpellsPayload, IsPayload}
use Rattle.wire_base.specs.Tag.{IsTagSpelling}
use Rattle.wire_base.specs.TagLaws.{OneTag}
use Rattle.wire_base.specs.Varint.{IsEnded}
use Rattle.wire_read.specs.Opened.{Group, TakesOpen, numbers, left_open, items_of, payload_items, items_open, in_group}
use Rattle.wire_read.specs.Reading.{At, Moves}

abbrev pub at_with : List ℕ → List ℕ → Limits → At
at_with rest groups l = record { rest = rest; groups = groups; limits = l }

abbrev pub Walks : At → List Item → At → Type 0
Walks s [] t = s ≡ t
Walks s (i ∷ items) t =
    (u : At) × (behind : List ℕ) × Moves i s behind u × Walks u items t

pub walks-append : (items more : List Item) (s t u : At) → Walks s items t → Walks t more u
    → Walks s (items ++ more) u
walks-append [] more s t u h k = subst (λ v. Walks v more u) (sym h) k
walks-append (i ∷ items) more s t u (v, behind, move, h) k =
    (v, behind, move, walks-append items more v t u h k)

-- a record that is no group
one_walk : (n : ℕ) (p : Payload) (l : Limits) (groups : List ℕ) (old behind new : List ℕ)
    → Reads old (IsTagSpelling n (type_of p)) behind → Reads behind (SpellsPayload n p) new
    → Fits (payload_charge p) l → type_of p ≢ StartGroup
    → Walks (at_with old groups l) (whole n p ∷ [])
    (at_with new groups (left_after l (payload_charge p)))
one_walk n p l groups old behind new tag h fits flat = (
  at_with new groups (left_after l (payload_charge p)),
  behind,
  (
    tag,
    record {
      read = record {
        text = h.text;
        parts = h.parts;
        spelled = record { kind = refl; spelled = h.spelled };
      };
      fits = fits;
    },
    flat,
    refl,
    refl,
  ),
  refl,
)

module _ (limits : LimitsAddUp) (levels : LevelsAddUp) where
  mutual
    payload_walks : (n : ℕ) (p : Payload) (l : Limits) (groups : List ℕ) (old behind new : List ℕ)
        → Reads old (IsTagSpelling n (type_of p)) behind → Reads behind (SpellsPayload n p) new
        → Fits (payload_charge p) l
        → Walks (at_with old groups l) (payload_items n p)
        (at_with new groups (left_after l (payload_charge p)))
    payload_walks n (varint v) l groups old behind new tag h fits =
        one_walk n (varint v) l groups old behind new tag h fits (λ is. absurd cc)
    payload_walks n (fixed64 v) l groups old behind new tag h fits =
        one_walk n (fixed64 v) l groups old behind new tag h fits (λ is. absurd cc)
    payload_walks n (fixed32 v) l groups old behind new tag h fits =
        one_walk n (fixed32 v) l groups old behind new tag h fits (λ is. absurd cc)
    payload_walks n (bytes b) l groups old behind new tag h fits =
        one_walk n (bytes b) l groups old behind new tag h fits (λ is. absurd cc)
    payload_walks n (group fs) l groups old behind new tag h fits =
        let (stop, body, tag_end) = h.spelled in
        let parts = (limits.both_fit l one_field (nested (charge fs))).0 fits in
        let deep = (levels.nested_fits (left_after l one_field) (charge fs)).0 parts.1 in
        let past : List ℕ = stop ++ new in (
          at_with behind (n ∷ groups) (in_group l),
          behind,
          (record { tag = tag; slot = parts.0; level = deep.0 }, refl, refl, refl),
          walks-append (items_of fs) (end n ∷ []) _ _ _
              (fields_walk fs (in_group l) (n ∷ groups) behind past
              (record {
                text = body.text;
                parts = h.parts ∙ ap (λ t. t ++ new) body.parts ∙ append_assoc body.text stop new;
                spelled = body.spelled;
              })
              deep.1) (
                at_with new groups (left_after l (payload_charge (group fs))),
                new,
                (
                  record { text = stop; parts = refl; spelled = tag_end },
                  refl,
                  refl,
                  sym (levels.left_after_nested (left_after l one_field) (charge fs) deep.0
                      ∙ limits.left_after_both l one_field (nested (charge fs))),
                ),
                refl,
              ),
        )

    fields_walk : (fs : Fields) (l : Limits) (groups : List ℕ) (old new : List ℕ)
        → Reads old (Spells fs) new → Fits (charge fs) l
        → Walks (at_with old groups l) (items_of fs) (at_with new groups (left_after l (charge fs)))
    fields_walk none l groups old new h fits =
        let same : old ≡ new = h.parts ∙ ap (λ t. t ++ new) h.spelled in
        rw (same, limits.left_after_nothing l) refl
    fields_walk (field n p fs) l groups old new h fits =
        let (behind, rest, tag, payload, others) = h.spelled in
        let parts = (limits.both_fit l (payload_charge p) (charge fs)).0 fits in
        subst
        (λ m. Walks (at_with old groups l) (payload_items n p ++ items_of fs) (at_with new groups m))
        (limits.left_after_both l (payload_charge p) (charge fs))
        (walks-append (payload_items n p) (items_of fs) _ _ _
        (payload_walks n p l groups old (behind ++ new) (rest ++ new)
        (record {
          text = tag.text;
          parts = h.parts ∙ ap (λ t. t ++ new) tag.parts ∙ append_assoc tag.text behind new;
          spelled = tag.spelled;
        })
        (record {
          text = payload.text;
          parts = ap (λ t. t ++ new) payload.parts ∙ append_assoc payload.text rest new;
          spelled = payload.spelled;
        })
        parts.0)
        (fields_walk fs (left_after l (payload_charge p)) groups (rest ++ new) new
        (record { text = rest; parts = refl; spelled = others }) parts.1))

  pub open_walks : (l : Limits) (open_groups : List Group) (fs : Fields) (all rest : List ℕ)
      → TakesOpen l open_groups fs all rest
      → Walks (at_with all [] l) (items_open open_groups fs)
      (at_with rest (numbers open_groups) (left_open l open_groups fs))
  open_walks l [] fs all rest h = fields_walk fs l [] all rest h.read h.fits
  open_walks l (g ∷ outside) fs all rest (here, behind, before, opens, taken) =
      walks-append (items_open outside g.before) (start g.number ∷ items_of fs) _ _ _
      (open_walks l outside g.before all here before) (
        at_with behind (g.number ∷ numbers outside) (in_group (left_open l outside g.before)),
        behind,
        (opens, refl, refl, refl),
        fields_walk fs (in_group (left_open l outside g.before)) (g.number ∷ numbers outside) behind
            rest taken.read taken.fits,
      )

-- ---- one way on

at_eq : (s t : At) → s.rest ≡ t.rest → s.groups ≡ t.groups → s.limits ≡ t.limits → s ≡ t
at_eq s t a b c = each_eq s.rest t.rest s.groups t.groups s.limits t.limits a b c
  where
    each_eq : (r q : List ℕ) (g h : List ℕ) (l m : Limits) → r ≡ q → g ≡ h → l ≡ m
        → at_with r g l ≡ at_with q h m
    each_eq r q g h l m a b c = rw (a, b, c) refl

pub not_end : (p : Payload) → type_of p ≢ EndGroup
not_end (varint v) is = absurd cc
not_end (fixed64 v) is = absurd cc
not_end (fixed32 v) is = absurd cc
not_end (bytes b) is = absurd cc
not_end (group fs) is = absurd cc

-- the tail of equal lists
tails : (n m : ℕ) (xs ys zs : List ℕ) → zs ≡ n ∷ xs → zs ≡ m ∷ ys → xs ≡ ys
tails n m xs ys zs h k = let same : n ∷ xs ≡ m ∷ ys = sym h ∙ k in cc

module _ (tags : OneTag) (payloads : OnePayload) where
  pub one_move : (i j : Item) (s : At) (b c : List ℕ) (t u : At) → Moves i s b t → Moves j s c u
      → (i ≡ j) × (t ≡ u)
  one_move (start n) (start m) s b c t u (h, hb, hg, hl) (k, kb, kg, kl) =
      let same = tags s.rest t.rest u.rest n m StartGroup StartGroup h.tag k.tag in (
        ap start same.0,
        at_eq t u same.2 (hg ∙ ap (λ x. x ∷ s.groups) same.0 ∙ sym kg) (hl ∙ sym kl),
      )
  one_move (start n) (end m) s b c t u (h, hb, hg, hl) (k, kb, kg, kl) =
      let same = tags s.rest t.rest u.rest n m StartGroup EndGroup h.tag k in
      let bad : StartGroup ≡ EndGroup = same.1 in absurd cc
  one_move (start n) (whole m q) s b c t u (h, hb, hg, hl) (k, kp, flat, kg, kl) =
      let same = tags s.rest t.rest c n m StartGroup (type_of q) h.tag k in
      absurd (flat (sym same.1))
  one_move (end n) (start m) s b c t u (h, hb, hg, hl) (k, kb, kg, kl) =
      let same = tags s.rest t.rest u.rest n m EndGroup StartGroup h k.tag in
      let bad : EndGroup ≡ StartGroup = same.1 in absurd cc
  one_move (end n) (end m) s b c t u (h, hb, hg, hl) (k, kb, kg, kl) =
      let same = tags s.rest t.rest u.rest n m EndGroup EndGroup h k in (
        ap end same.0,
        at_eq t u same.2 (tails n m t.groups u.groups s.groups hg kg) (hl ∙ sym kl),
      )
  one_move (end n) (whole m q) s b c t u (h, hb, hg, hl) (k, kp, flat, kg, kl) =
      let same = tags s.rest t.rest c n m EndGroup (type_of q) h k in
      absurd (not_end q (sym same.1))
  one_move (whole n p) (start m) s b c t u (h, hp, flat, hg, hl) (k, kb, kg, kl) =
      let same = tags s.rest b u.rest n m (type_of p) StartGroup h k.tag in
      absurd (flat same.1)
  one_move (whole n p) (end m) s b c t u (h, hp, flat, hg, hl) (k, kb, kg, kl) =
      let same = tags s.rest b u.rest n m (type_of p) EndGroup h k in
      absurd (not_end p same.1)
  one_move (whole n p) (whole m q) s b c t u (h, hp, flat, hg, hl) (k, kp, flat2, kg, kl) =
      let same = tags s.rest b c n m (type_of p) (type_of q) h k in
      let other : Reads b (IsPayload n (type_of p) q) u.rest =
      subst (λ x. Reads x (IsPayload n (type_of p) q) u.rest) (sym same.2)
      (subst (λ w. Reads c (IsPayload n w q) u.rest) (sym same.1)
      (subst (λ x. Reads c (IsPayload x (type_of q) q) u.rest) (sym same.0) kp.read)) in
      let one = payloads n (type_of p) p q b t.rest u.rest hp.read other in (
        ap (λ x. whole x p) same.0 ∙ ap (whole m) one.0,
        at_eq t u one.1 (hg ∙ sym kg)
            (hl ∙ ap (λ x. left_after s.limits (payload_charge x)) one.0 ∙ sym kl),
      )

  -- of two walks from one place, of which the first ends where no move is, the second is a front
  -- of the first
  pub walked_on : (items others : List Item) (s t u : At)
      → ((i : Item) (b : List ℕ) (v : At) → Moves i t b v → ⊥)
      → Walks s items t → Walks s others u → (more : List Item) × Walks u more t
  walked_on items [] s t u stuck h k = (items, subst (λ v. Walks v items t) k h)
  walked_on [] (j ∷ others) s t u stuck h (v, b, move, k) =
      absurd (stuck j b v (subst (λ w. Moves j w b v) h move))
  walked_on (i ∷ items) (j ∷ others) s t u stuck (v, b, move, h) (w, c, other, k) =
      let one = one_move i j s b c v w move other in
      walked_on items others v t u stuck h (subst (λ x. Walks x others u) (sym one.1) k)

  -- two walks from one place to as much: they are one
  pub same_walk : (items others : List Item) (s t u : At) → length t.rest ≡ length u.rest
      → ((i : Item) (x y : At) (b : List ℕ) → Moves i x b y → length y.rest < length x.rest)
      → ((is : List Item) (x y : At) → Walks x is y → length y.rest ≤ length x.rest)
      → Walks s items t → Walks s others u → (items ≡ others) × (t ≡ u)
  same_walk [] [] s t u count less falls h k = (refl, sym h ∙ k)
  same_walk [] (j ∷ others) s t u count less falls h (w, c, other, k) =
      absurd (omega (
        arith,
        count,
        ap (λ x. length x.rest) h,
        less j s w c other,
        falls others w u k,
      ))
  same_walk (i ∷ items) [] s t u count less falls (v, b, move, h) k =
      absurd (omega (
        arith,
        count,
        ap (λ x. length x.rest) k,
        less i s v b move,
        falls items v t h,
      ))
  same_walk (i ∷ items) (j ∷ others) s t u count less falls (v, b, move, h) (w, c, other, k) =
      let one = one_move i j s b c v w move other in
      let rest = same_walk items others v t u count less falls h
      (subst (λ x. Walks x others u) (sym one.1) k) in
      (ap (λ x. x ∷ items) one.0 ∙ ap (λ x. j ∷ x) rest.0, rest.1)

-- ---- each move takes a byte

tag_below : (old behind : List ℕ) (n : ℕ) (w : WireType) → Reads old (IsTagSpelling n w) behind
    → length behind < length old
tag_below old behind n w h = past_tag h.text h.spelled.varint.ended h.parts
  where
    past_tag : (text : List ℕ) → IsEnded text → old ≡ text ++ behind → length behind < length old
    past_tag [] ended e = absurd ended
    past_tag (b ∷ text) ended e = omega (arith, ap length e ∙ length-append (b ∷ text) behind)

pub shorter : (i : Item) (s t : At) (behind : List ℕ) → Moves i s behind t
    → length t.rest < length s.rest
shorter (start n) s t behind h = tag_below s.rest t.rest n _ h.0.tag
shorter (end n) s t behind h = tag_below s.rest t.rest n _ h.0
shorter (whole n p) s t behind (tag, taken, flat, groups, left) =
    omega (
      arith,
      tag_below s.rest behind n (type_of p) tag,
      ap length taken.read.parts ∙ length-append taken.read.text t.rest,
    )

pub falls : (items : List Item) (s t : At) → Walks s items t → length t.rest ≤ length s.rest
falls [] s t h = omega (arith, ap (λ x. length x.rest) h)
falls (i ∷ items) s t (u, b, move, h) = omega (arith, shorter i s u b move, falls items u t h)

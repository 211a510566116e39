-- The algebra of limits and charges. One budget more is a line in each lemma on all counts
-- together.
use Rattle.std.proofs.Common.{◌≡◌, ℕ, ◌+◌, ◌<◌, ◌⊎◌, length, inl, inr, Option, Some, None, refl, sym, ap, ◌∙◌, arith, ⊎_elim}
use Rattle.std.proofs.lemmas.Bool.{cases_lt}
use Rattle.wire_base.specs.Charge.{total, payload_charge, charge}
use Rattle.wire_base.specs.Field.{Payload, Fields, none, field, group, joined, varint, fixed64, fixed32, bytes}
use Rattle.wire_base.specs.Limits.{Counts, Budgets, HasRoom, less, IsNoMore, HaveRoom, each_less, AreNoMore, sums, no_counts, Limits, Charge, Fits, left_after, both, no_charge, one_field, bytes_charge, nested, inner, outer, NoCountGrew, uncounted}
use Rattle.wire_base.specs.LimitsLaws.{ChargesAddUp, LimitsAddUp, LevelsAddUp, CountsFall}

-- ---- one count

HasRoom-none : (left : Option ℕ) → HasRoom left 0
HasRoom-none None = tt
HasRoom-none (Some left) = omega arith

HasRoom-first : (left : Option ℕ) (a b : ℕ) → HasRoom left (a + b) → HasRoom left a
HasRoom-first None a b h = tt
HasRoom-first (Some left) a b h = omega arith

HasRoom-second : (left : Option ℕ) (a b : ℕ) → HasRoom left (a + b) → HasRoom (less left a) b
HasRoom-second None a b h = tt
HasRoom-second (Some left) a b h = omega arith

HasRoom-sum : (left : Option ℕ) (a b : ℕ) → HasRoom left a → HasRoom (less left a) b
    → HasRoom left (a + b)
HasRoom-sum None a b h k = tt
HasRoom-sum (Some left) a b h k = omega arith

-- a budget has room or not
pub room_or_not : (left : Option ℕ) (a : ℕ) → HasRoom left a ⊎ ¬ HasRoom left a
room_or_not None a = inl tt
room_or_not (Some left) a = ⊎_elim (λ past. inr (λ h. omega arith)) inl (cases_lt left a)

less-less : (left : Option ℕ) (a b : ℕ) → less (less left a) b ≡ less left (a + b)
less-less None a b = refl
less-less (Some left) a b = ap (λ n. Some n) (omega arith)

less-none : (left : Option ℕ) → less left 0 ≡ left
less-none None = refl
less-none (Some left) = ap (λ n. Some n) (omega arith)

IsNoMore-itself : (left : Option ℕ) → IsNoMore left left
IsNoMore-itself None = tt
IsNoMore-itself (Some left) = omega arith

IsNoMore-less : (left : Option ℕ) (a : ℕ) → IsNoMore (less left a) left
IsNoMore-less None a = tt
IsNoMore-less (Some left) a = omega arith

IsNoMore-again : (a b c : Option ℕ) → IsNoMore b a → IsNoMore c b → IsNoMore c a
IsNoMore-again None None c h k = k
IsNoMore-again None (Some b) c h k = absurd h
IsNoMore-again (Some a) None c h k = absurd h
IsNoMore-again (Some a) (Some b) None h k = k
IsNoMore-again (Some a) (Some b) (Some c) h k = omega arith

-- ---- all counts together

pub same_counts : (a b : Counts) → a.unknown_fields ≡ b.unknown_fields
    → a.element_memory ≡ b.element_memory → a.unknown_bytes ≡ b.unknown_bytes → a ≡ b
same_counts a b p q r =
    λ i. record { unknown_fields = p i; element_memory = q i; unknown_bytes = r i }

same_budgets : (a b : Budgets) → a.unknown_fields ≡ b.unknown_fields
    → a.element_memory ≡ b.element_memory → a.unknown_bytes ≡ b.unknown_bytes → a ≡ b
same_budgets a b p q r =
    λ i. record { unknown_fields = p i; element_memory = q i; unknown_bytes = r i }

pub HaveRoom-none : (left : Budgets) → HaveRoom left no_counts
HaveRoom-none left = record {
  unknown_fields = HasRoom-none left.unknown_fields;
  element_memory = HasRoom-none left.element_memory;
  unknown_bytes = HasRoom-none left.unknown_bytes;
}

pub HaveRoom-first : (left : Budgets) (a b : Counts) → HaveRoom left (sums a b) → HaveRoom left a
HaveRoom-first left a b h = record {
  unknown_fields = HasRoom-first left.unknown_fields a.unknown_fields b.unknown_fields
      h.unknown_fields;
  element_memory = HasRoom-first left.element_memory a.element_memory b.element_memory
      h.element_memory;
  unknown_bytes = HasRoom-first left.unknown_bytes a.unknown_bytes b.unknown_bytes h.unknown_bytes;
}

pub HaveRoom-second : (left : Budgets) (a b : Counts) → HaveRoom left (sums a b)
    → HaveRoom (each_less left a) b
HaveRoom-second left a b h = record {
  unknown_fields = HasRoom-second left.unknown_fields a.unknown_fields b.unknown_fields
      h.unknown_fields;
  element_memory = HasRoom-second left.element_memory a.element_memory b.element_memory
      h.element_memory;
  unknown_bytes = HasRoom-second left.unknown_bytes a.unknown_bytes b.unknown_bytes h.unknown_bytes;
}

pub HaveRoom-sums : (left : Budgets) (a b : Counts) → HaveRoom left a
    → HaveRoom (each_less left a) b
    → HaveRoom left (sums a b)
HaveRoom-sums left a b h k = record {
  unknown_fields = HasRoom-sum left.unknown_fields a.unknown_fields b.unknown_fields
      h.unknown_fields k.unknown_fields;
  element_memory = HasRoom-sum left.element_memory a.element_memory b.element_memory
      h.element_memory k.element_memory;
  unknown_bytes = HasRoom-sum left.unknown_bytes a.unknown_bytes b.unknown_bytes h.unknown_bytes
      k.unknown_bytes;
}

-- all budgets have room, or one has none
rooms_or_not : (left : Budgets) (a : Counts) → HaveRoom left a ⊎ ¬ HaveRoom left a
rooms_or_not left a =
    ⊎_elim
    (λ fields. ⊎_elim
    (λ memory. ⊎_elim
    (λ bytes. inl
    (record { unknown_fields = fields; element_memory = memory; unknown_bytes = bytes }))
    (λ full. inr (λ h. full h.unknown_bytes))
    (room_or_not left.unknown_bytes a.unknown_bytes))
    (λ full. inr (λ h. full h.element_memory))
    (room_or_not left.element_memory a.element_memory))
    (λ full. inr (λ h. full h.unknown_fields))
    (room_or_not left.unknown_fields a.unknown_fields)

each_less-each_less : (left : Budgets) (a b : Counts)
    → each_less (each_less left a) b ≡ each_less left (sums a b)
each_less-each_less left a b =
    same_budgets _ _
    (less-less left.unknown_fields a.unknown_fields b.unknown_fields)
    (less-less left.element_memory a.element_memory b.element_memory)
    (less-less left.unknown_bytes a.unknown_bytes b.unknown_bytes)

each_less-none : (left : Budgets) → each_less left no_counts ≡ left
each_less-none left =
    same_budgets _ _ (less-none left.unknown_fields) (less-none left.element_memory)
    (less-none left.unknown_bytes)

AreNoMore-itself : (left : Budgets) → AreNoMore left left
AreNoMore-itself left = record {
  unknown_fields = IsNoMore-itself left.unknown_fields;
  element_memory = IsNoMore-itself left.element_memory;
  unknown_bytes = IsNoMore-itself left.unknown_bytes;
}

AreNoMore-each_less : (left : Budgets) (a : Counts) → AreNoMore (each_less left a) left
AreNoMore-each_less left a = record {
  unknown_fields = IsNoMore-less left.unknown_fields a.unknown_fields;
  element_memory = IsNoMore-less left.element_memory a.element_memory;
  unknown_bytes = IsNoMore-less left.unknown_bytes a.unknown_bytes;
}

AreNoMore-again : (a b c : Budgets) → AreNoMore b a → AreNoMore c b → AreNoMore c a
AreNoMore-again a b c h k = record {
  unknown_fields = IsNoMore-again a.unknown_fields b.unknown_fields c.unknown_fields
      h.unknown_fields k.unknown_fields;
  element_memory = IsNoMore-again a.element_memory b.element_memory c.element_memory
      h.element_memory k.element_memory;
  unknown_bytes = IsNoMore-again a.unknown_bytes b.unknown_bytes c.unknown_bytes h.unknown_bytes
      k.unknown_bytes;
}

sums_assoc : (a b c : Counts) → sums (sums a b) c ≡ sums a (sums b c)
sums_assoc a b c = same_counts _ _ (omega arith) (omega arith) (omega arith)

sums-none_first : (a : Counts) → sums no_counts a ≡ a
sums-none_first a = same_counts _ _ (omega arith) (omega arith) (omega arith)

sums-none_last : (a : Counts) → sums a no_counts ≡ a
sums-none_last a = same_counts _ _ (omega arith) (omega arith) (omega arith)

-- ---- charges

same_charge : (a b : Charge) → a.depth ≡ b.depth → a.counts ≡ b.counts → a ≡ b
same_charge a b p q = λ i. record { depth = p i; counts = q i }

pub both_assoc : (a b c : Charge) → both (both a b) c ≡ both a (both b c)
both_assoc a b c = same_charge _ _ (omega arith) (sums_assoc a.counts b.counts c.counts)

pub both-nothing_first : (a : Charge) → both no_charge a ≡ a
both-nothing_first a = same_charge _ _ (omega arith) (sums-none_first a.counts)

pub both-nothing_last : (a : Charge) → both a no_charge ≡ a
both-nothing_last a = same_charge _ _ (omega arith) (sums-none_last a.counts)

-- charges of joined lists add up
pub total-joined : (charge_of : ℕ → Payload → Charge) (fs gs : Fields)
    → total charge_of (joined fs gs) ≡ both (total charge_of fs) (total charge_of gs)
total-joined charge_of none gs = sym (both-nothing_first (total charge_of gs))
total-joined charge_of (field n p fs) gs =
    ap (both (charge_of n p)) (total-joined charge_of fs gs)
    ∙ sym (both_assoc (charge_of n p) (total charge_of fs) (total charge_of gs))

-- the charge of unknown fields is such a total
pub charge-total : (fs : Fields) → charge fs ≡ total (λ n p. payload_charge p) fs
charge-total none = refl
charge-total (field n p fs) = ap (both (payload_charge p)) (charge-total fs)

pub charge-joined : (fs gs : Fields) → charge (joined fs gs) ≡ both (charge fs) (charge gs)
charge-joined fs gs =
    let unknown : ℕ → Payload → Charge = λ n p. payload_charge p in
    charge-total (joined fs gs) ∙ total-joined unknown fs gs
    ∙ ap (λ c. both c (total unknown gs)) (sym (charge-total fs))
    ∙ ap (both (charge fs)) (sym (charge-total gs))

-- one record alone is charged what its payload is
pub charge-one : (n : ℕ) (p : Payload) → charge (field n p none) ≡ payload_charge p
charge-one n p = both-nothing_last (payload_charge p)

-- one record more is charged as its payload
pub charge-push : (fs : Fields) (n : ℕ) (p : Payload)
    → charge (joined fs (field n p none)) ≡ both (charge fs) (payload_charge p)
charge-push fs n p = charge-joined fs (field n p none) ∙ ap (both (charge fs)) (charge-one n p)

-- ---- limits

same_limits : (l m : Limits) → l.depth ≡ m.depth → l.counts ≡ m.counts → l ≡ m
same_limits l m p q = λ i. record { depth = p i; counts = q i }

-- one charge after the other
pub left_after-both : (l : Limits) (a b : Charge)
    → left_after (left_after l a) b ≡ left_after l (both a b)
left_after-both l a b = same_limits _ _ refl (each_less-each_less l.counts a.counts b.counts)

-- nothing leaves the limits as they are
pub left_after-nothing : (l : Limits) → left_after l no_charge ≡ l
left_after-nothing l = same_limits _ _ refl (each_less-none l.counts)

-- nothing fits all limits
pub Fits-nothing : (l : Limits) → Fits no_charge l
Fits-nothing l = record { depth = omega arith; counts = HaveRoom-none l.counts }

-- the first of two charges that fit
pub Fits-first : (l : Limits) (a b : Charge) → Fits (both a b) l → Fits a l
Fits-first l a b h =
    record {
      depth = omega
          (arith, h.depth);
      counts = HaveRoom-first l.counts a.counts b.counts h.counts;
    }

-- the second fits what the first leaves
pub Fits-second : (l : Limits) (a b : Charge) → Fits (both a b) l → Fits b (left_after l a)
Fits-second l a b h =
    record {
      depth = omega
          (arith, h.depth);
      counts = HaveRoom-second l.counts a.counts b.counts h.counts;
    }

-- a charge and another that fits what the first leaves fit both
pub Fits-both : (l : Limits) (a b : Charge) → Fits a l → Fits b (left_after l a) → Fits (both a b) l
Fits-both l a b h k =
    record {
      depth = omega
          (arith, h.depth, k.depth);
      counts = HaveRoom-sums l.counts a.counts b.counts h.counts k.counts;
    }

-- a charge fits or not
pub fits_or_not : (l : Limits) (a : Charge) → Fits a l ⊎ ¬ Fits a l
fits_or_not l a =
    ⊎_elim
    (λ deep. inr (λ h. omega (arith, h.depth)))
    (λ low. ⊎_elim (λ room. inl (record { depth = low; counts = room }))
    (λ full. inr (λ h. full h.counts)) (rooms_or_not l.counts a.counts))
    (cases_lt l.depth a.depth)

-- ---- levels

-- what fits one level down has a level
pub nested-level : (l : Limits) (c : Charge) → Fits (nested c) l → 0 < l.depth
nested-level l c h = omega (arith, h.depth)

pub nested-inside : (l : Limits) (c : Charge) → Fits (nested c) l → Fits c (inner l)
nested-inside l c h = record { depth = omega (arith, h.depth); counts = h.counts }

pub Fits-nested : (l : Limits) (c : Charge) → 0 < l.depth → Fits c (inner l) → Fits (nested c) l
Fits-nested l c level h = record { depth = omega (arith, h.depth); counts = h.counts }

-- a level, what is taken there, and the level again
pub left_after-nested : (l : Limits) (c : Charge) → 0 < l.depth
    → outer (left_after (inner l) c) ≡ left_after l (nested c)
left_after-nested l c level = same_limits _ _ (omega arith) refl

-- ---- counts that do not grow

pub NoCountGrew-itself : (l : Limits) → NoCountGrew l l
NoCountGrew-itself l = record { counts = AreNoMore-itself l.counts }

pub NoCountGrew-left_after : (l : Limits) (c : Charge) → NoCountGrew l (left_after l c)
NoCountGrew-left_after l c = record { counts = AreNoMore-each_less l.counts c.counts }

pub NoCountGrew-again : (l m k : Limits) → NoCountGrew l m → NoCountGrew m k → NoCountGrew l k
NoCountGrew-again l m k h j =
    record { counts = AreNoMore-again l.counts m.counts k.counts h.counts j.counts }

-- ---- unknown fields

-- a record fits only where one slot does
pub Fits-one_field : (l : Limits) (p : Payload) → Fits (payload_charge p) l → Fits one_field l
Fits-one_field l (varint v) h = h
Fits-one_field l (fixed64 v) h = h
Fits-one_field l (fixed32 v) h = h
Fits-one_field l (bytes b) h = Fits-first l one_field (bytes_charge (length b)) h
Fits-one_field l (group fs) h = Fits-first l one_field (nested (charge fs)) h

-- a group that fits has a level
pub level_of_group : (l : Limits) (fs : Fields) → Fits (payload_charge (group fs)) l → 0 < l.depth
level_of_group l fs h = omega (arith, h.depth)

-- what a group holds fits one level down, behind the slot of the group
pub Fits-inside : (l : Limits) (fs : Fields) → Fits (payload_charge (group fs)) l
    → Fits (charge fs) (inner (left_after l one_field))
Fits-inside l fs h =
    nested-inside (left_after l one_field) (charge fs)
    (Fits-second l one_field (nested (charge fs)) h)

-- a slot, a level and room for what it holds are room for a group
pub Fits-group : (l : Limits) (fs : Fields) → Fits one_field l → 0 < l.depth
    → Fits (charge fs) (inner (left_after l one_field)) → Fits (payload_charge (group fs)) l
Fits-group l fs h level k =
    Fits-both l one_field (nested (charge fs)) h
    (Fits-nested (left_after l one_field) (charge fs) level k)

-- without a count there is a slot for each field
pub uncounted_slot : (levels : ℕ) → Fits one_field (uncounted levels)
uncounted_slot levels =
    record {
      depth = omega arith;
      counts = record { unknown_fields = tt; element_memory = tt; unknown_bytes = tt };
    }

-- and room for each payload
pub uncounted_bytes : (levels any : ℕ)
    → Fits (bytes_charge any) (left_after (uncounted levels) one_field)
uncounted_bytes levels any =
    record {
      depth = omega arith;
      counts = record { unknown_fields = tt; element_memory = tt; unknown_bytes = tt };
    }

-- ---- the laws

pub charges_add_up_lemma : ChargesAddUp
charges_add_up_lemma = record {
  assoc = both_assoc;
  nothing_first = both-nothing_first;
  nothing_last = both-nothing_last;
  lists = total-joined;
  kept_records = charge-total;
}

pub limits_add_up_lemma : LimitsAddUp
limits_add_up_lemma = record {
  both_fit = λ l a b.
      (λ h. (Fits-first l a b h, Fits-second l a b h), λ h. Fits-both l a b h.0 h.1);
  left_after_both = left_after-both;
  nothing_fits = Fits-nothing;
  left_after_nothing = left_after-nothing;
}

pub levels_add_up_lemma : LevelsAddUp
levels_add_up_lemma = record {
  nested_fits = λ l c.
      (λ h. (nested-level l c h, nested-inside l c h), λ h. Fits-nested l c h.0 h.1);
  left_after_nested = left_after-nested;
}

pub counts_fall_lemma : CountsFall
counts_fall_lemma = record {
  unchanged = NoCountGrew-itself;
  after = NoCountGrew-left_after;
  again = NoCountGrew-again;
}

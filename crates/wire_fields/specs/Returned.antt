-- That what is written of a message is read back, put together as its table is.
use Rattle.std.proofs.Common.{◌≡◌, ◌⊎◌, ℕ, ◌<◌, ◌≤◌, ◌^◌, false, refl, arith}
use Rattle.std.specs.declared.cmp.Ordering.{Ordering}
use Rattle.wire_codec.specs.Field.{Payload}
use Rattle.wire_codec.specs.Limits.{Limits, Fits}
use Rattle.wire_codec.specs.Records.{text}
use Rattle.wire_codec.specs.Taking.{TakesAll}
use Rattle.wire_codec.specs.TakingLaws.{TextDecodes}
use Rattle.wire_codec.specs.ValueMap.{ValueMap}
use Rattle.wire_fields.specs.declared.form.Form.{Form}
use Rattle.wire_fields.specs.Back.{Back, KindBack, known_back, two_back, unknown_back}
use Rattle.wire_fields.specs.Dropped.{dropped}
use Rattle.wire_fields.specs.Grounds.{Grounds, NumberBack}
use Rattle.wire_fields.specs.Maps.{map_kind}
use Rattle.wire_fields.specs.MapsBack.{map_back}
use Rattle.wire_fields.specs.MessageBack.{prefixed_back, delimited_back, once_back, each_back}
use Rattle.wire_fields.specs.Messages.{length_prefixed, delimited, once_in, each_in, always_in}
use Rattle.wire_fields.specs.OneofBack.{AlwaysBack, one_scalar, one_message}
use Rattle.wire_fields.specs.Packed.{packed_kind, unpacked_kind}
use Rattle.wire_fields.specs.PackedBack.{packed_back, unpacked_back}
use Rattle.wire_fields.specs.Presence.{implicit, optional, always, repeated}
use Rattle.wire_fields.specs.Ranges.{Range, uncharged, pair_range, others_range, NotOwned}
use Rattle.wire_fields.specs.Ranges.{unknown_range, dropped_range}
use Rattle.wire_fields.specs.Ranges.{optional_range, repeated_range, packed_range, unpacked_range}
use Rattle.wire_fields.specs.Ranges.{always_range, once_range, each_range, map_range}
use Rattle.wire_fields.specs.Scalar.{ScalarType}
use Rattle.wire_fields.specs.ScalarBack.{ScalarBack, implicit_back, optional_back, repeated_back}
use Rattle.wire_fields.specs.Shape.{FieldKind, Lawful, Shape, known, two, unknown}

-- What is written of a value in range decodes to it, where the limits suffice for its charge.
abbrev pub ReadsBack : {V : Type 0} → Shape V → Range V → Type 0
ReadsBack {V} s r =
    (l : Limits) (m : V) → r.Holds m → Fits (r.charge_of m) l
    → TakesAll s.takes l s.default (text (s.records m)) (r.charge_of m) m

-- values in range fold back from their records, whose numbers these are
pub record Returned {V : Type 0} (s : Shape V) (r : Range V) : Type 1 where
  pub Has : ℕ → Type 0
  pub back : Back s r.Holds r.charge_of Has

pub reads_back : {V : Type 0} {s : Shape V} {r : Range V} → Returned s r
    → TextDecodes s.takes s.records s.default → ReadsBack s r
reads_back h decodes l m holds fits =
    let folded = h.back.back m holds in
    decodes l m _ folded.fitting folded.numbered folded.folded fits

-- ---- the tree

abbrev pub known_returned : {V : Type 0} (g : Grounds) (n : ℕ) (f : Lawful V) (r : Range V)
    → 1 ≤ n → n < 2 ^ 29 → KindBack f.kind r.Holds r.charge_of → Returned (known n f) r
known_returned g n f r low high h = record {
  Has = λ j. j ≡ n;
  back = known_back n f r.Holds r.charge_of (g.number n low high) h;
}

-- no number of the second is the first's own
abbrev pub two_returned : {A B : Type 0} {a : Shape A} {b : Shape B} {r : Range A} {q : Range B}
    → Grounds → (x : Returned a r) (y : Returned b q)
    → ((n : ℕ) (p : Payload) → y.Has n → a.owns n p ≡ false) → Returned (two a b) (pair_range r q)
two_returned {A} {B} {a} {b} {r} {q} g x y apart = record {
  Has = λ n. x.Has n ⊎ y.Has n;
  back = two_back a b r.Holds q.Holds r.charge_of q.charge_of x.Has y.Has g.charges x.back y.back
      apart;
}

-- the fields, and the unknown ones
abbrev pub whole_returned : {V : Type 0} {s : Shape V} {r : Range V} → Grounds → Returned s r
    → Returned (two s unknown) (pair_range r (others_range s.owns))
whole_returned {V} {s} g x =
    two_returned g x
    (record { Has = NotOwned s.owns; back = unknown_back g.plain (NotOwned s.owns) })
    (λ n p h. h p)

-- a message that knows no field
abbrev pub unknown_returned : Grounds → Returned unknown unknown_range
unknown_returned g = record {
  Has = NotOwned (λ n p. false);
  back = unknown_back g.plain (NotOwned (λ n p. false));
}

abbrev pub nothing_returned : Returned dropped dropped_range
nothing_returned = record {
  Has = λ n. ⊥;
  back = record {
    back = λ m h. record { fitting = tt; numbered = tt; folded = (refl, refl) };
    has = λ m h. tt;
    own = λ n p h. refl;
  };
}

-- the fields, and no unknown ones
abbrev pub dropping_returned : {V : Type 0} {s : Shape V} {r : Range V} → Grounds → Returned s r
    → Returned (two s dropped) (pair_range r dropped_range)
dropping_returned g x = two_returned g x nothing_returned (λ n p h. absurd h)

-- ---- kinds

module _ (g : Grounds) where
  module _ {V : Type 0} (t : ScalarType V) (Holds : V → Type 0) (b : ScalarBack t Holds) where
    pub implicit_returned : KindBack (implicit t).kind Holds (uncharged Holds).charge_of
    implicit_returned = implicit_back g.plain g.charges t Holds b

    pub optional_returned : KindBack (optional t).kind (optional_range (uncharged Holds)).Holds
        (optional_range (uncharged Holds)).charge_of
    optional_returned = optional_back g.plain g.charges t Holds b

    pub repeated_returned : (place : ℕ)
        → KindBack (repeated place t).kind (repeated_range place (uncharged Holds)).Holds
        (repeated_range place (uncharged Holds)).charge_of
    repeated_returned = repeated_back g.plain t Holds b

    pub always_returned : AlwaysBack (always t).kind Holds (uncharged Holds).charge_of
    always_returned = one_scalar g.plain t Holds b

  module _ {V : Type 0} (form : Form) (map : ValueMap V) (r : Range V) (b : NumberBack form map r)
    where
      pub packed_returned : KindBack (packed_kind form map) (packed_range form map r).Holds
          (packed_range form map r).charge_of
      packed_returned = packed_back g.shortest g.charges form map r.Holds b.back b.fits

      pub unpacked_returned : KindBack (unpacked_kind form map) (unpacked_range r).Holds
          (unpacked_range r).charge_of
      unpacked_returned =
          unpacked_back g.shortest g.charges form map r.Holds b.back b.fits g.plain

  module _ {V : Type 0} (s : Shape V) (r : Range V) (h : Returned s r) where
    pub embedded_once_returned : KindBack (once_in length_prefixed s).kind (once_range s r).Holds
        (once_range s r).charge_of
    embedded_once_returned =
        once_back length_prefixed (prefixed_back g.spells) g.charges s r.Holds r.charge_of h.Has
        h.back

    pub embedded_each_returned : (place : ℕ)
        → KindBack (each_in place length_prefixed s).kind (each_range place s r).Holds
        (each_range place s r).charge_of
    embedded_each_returned =
        each_back length_prefixed (prefixed_back g.spells) g.charges s r.Holds r.charge_of h.Has
        h.back

    pub embedded_always_returned : AlwaysBack (always_in length_prefixed s).kind
        (always_range s r).Holds (always_range s r).charge_of
    embedded_always_returned =
        one_message length_prefixed (prefixed_back g.spells) s r.Holds r.charge_of h.Has h.back

    pub group_once_returned : KindBack (once_in delimited s).kind (once_range s r).Holds
        (once_range s r).charge_of
    group_once_returned =
        once_back delimited delimited_back g.charges s r.Holds r.charge_of h.Has h.back

    pub group_each_returned : (place : ℕ)
        → KindBack (each_in place delimited s).kind (each_range place s r).Holds
        (each_range place s r).charge_of
    group_each_returned =
        each_back delimited delimited_back g.charges s r.Holds r.charge_of h.Has h.back

    pub group_always_returned : AlwaysBack (always_in delimited s).kind (always_range s r).Holds
        (always_range s r).charge_of
    group_always_returned =
        one_message delimited delimited_back s r.Holds r.charge_of h.Has h.back

  module _ {K V : Type 0} (place : ℕ) (order : K → K → Ordering) (key : ScalarType K)
      (value : FieldKind V) (r : Range K) (q : Range V) (k : ScalarBack key r.Holds)
      (v : AlwaysBack value q.Holds q.charge_of) where
    pub map_returned : KindBack (map_kind place order key value)
        (map_range place order key value r q).Holds (map_range place order key value r q).charge_of
    map_returned =
        map_back key value r.Holds q.Holds q.charge_of g.plain g.charges g.spells k v place order
        (λ n low high. g.number n low (omega (arith, high)))

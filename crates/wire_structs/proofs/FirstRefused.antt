-- Records that are taken one by one, up to the first that is refused.
use Rattle.std.proofs.Common.{◌≡◌, ◌-◌, ◌<◌, ◌≤◌, ℕ, List, [], ◌∷◌, length, refl, sym, subst, arith}
use Rattle.wire_base.proofs.FieldLaws.{rest_below}
use Rattle.wire_base.proofs.ReadLaws.{Reads-shorter}
use Rattle.wire_codec.proofs.Lists.{Follows, at_start, at_end, head, one_more}
use Rattle.wire_codec.specs.Ending.{by_limit}
use Rattle.wire_codec.specs.Field.{type_of}
use Rattle.wire_codec.specs.Folds.{Step, IsSingle}
use Rattle.wire_codec.specs.Limits.{Limits, Charge, left_after}
use Rattle.wire_codec.specs.Spells.{IsPayload}
use Rattle.wire_codec.specs.Taken.{TakesFields}
use Rattle.wire_codec.specs.Taking.{NotTaken, Decodes, NotDecoded}
use Rattle.wire_codec.specs.TakingLaws.{RecordsInOrder}
use Rattle.wire_structs.proofs.Shown.{folds_back}
use Rattle.wire_structs.specs.Refused.{TakesNext, IsFirstRefused}
use Rattle.wire_structs.specs.Showing.{ShowsSteps}

-- What is taken from here on is what is taken from the start, wherever behind here the list ends.
abbrev pub FollowsFrom : {V : Type 0} → Step V → Limits → V → List ℕ → Limits → V → List ℕ → Type 0
FollowsFrom takes l m old k v now =
    (most : ℕ) → most ≤ length now → Follows takes (by_limit most) l m old k v now

-- so far: here all in front is taken, and the place is told
pub record TakenSoFar {V : Type 0} (takes : Step V) (l : Limits) (m : V) (old : List ℕ) (k : Limits)
    (v : V) (now : List ℕ) (whole place : ℕ) : Type 0 where
  pub follows : FollowsFrom takes l m old k v now
  pub within : length now ≤ length old
  pub all : whole ≡ length old
  pub begins : place ≡ length old - length now

no_bytes : (bytes : List ℕ) → length bytes ≤ 0 → [] ≡ bytes
no_bytes [] none = refl
no_bytes (b ∷ bytes) none = absurd (omega (arith, none))

-- bytes are left behind a record, but fewer
pub next_shorter : {V : Type 0} (takes : Step V) (l : Limits) (m z : V) (old new : List ℕ)
    (c : Charge) → TakesNext takes l m old c z new → length new < length old
next_shorter takes l m z old new c h =
    let tag = rest_below h.number h.wire_type old h.behind h.tag in
    let payload = Reads-shorter (IsPayload h.number h.wire_type h.taken.payload) h.behind new
    h.taken.read.read in
    omega (arith, tag, payload)

module _ (order : RecordsInOrder) {V : Type 0} (takes : Step V) where
  pub from_start : (l : Limits) (m : V) (old : List ℕ) → FollowsFrom takes l m old l m old
  from_start l m old = λ most within. at_start order takes (by_limit most) l m old

  pub from_next : IsSingle takes → (l k left : Limits) (m v u : V) (old now next : List ℕ)
      (d : Charge) → FollowsFrom takes l m old k v now → TakesNext takes k v now d u next
      → left ≡ left_after k d → FollowsFrom takes l m old left u next
  from_next single l k left m v u old now next d h taken is = λ most within.
      let shorter = next_shorter takes k v u now next d taken in
      one_more order takes single (by_limit most) l k left taken.number taken.wire_type m v u
      old now taken.behind next d (h most (omega (arith, within, shorter)))
      (omega (arith, within, shorter)) taken.tag tt taken.taken is

  -- the records up to here are the front, where the next is refused
  pub first_refused : (l k : Limits) (m v : V) (old now : List ℕ) (place : ℕ)
      → FollowsFrom takes l m old k v now → 0 < length now → NotTaken (TakesNext takes k v now)
      → place ≡ length old - length now → IsFirstRefused takes l m old place
  first_refused l k m v old now place h more untaken is =
      let front = at_end order takes (by_limit (length now)) l k m v old now now
      (h (length now) (omega arith)) (omega arith, refl) in
      record {
        fields = front.taken.fields;
        charge = front.charge;
        value = v;
        rest = now;
        front = subst (λ x. TakesFields front.charge l front.taken.fields old x)
            (sym front.taken.read.ended.1) front.taken.read.fields;
        folded = front.taken.folded;
        more = more;
        refused = subst (λ x. NotTaken (TakesNext takes x v now)) front.left untaken;
        begins = is;
      }

  -- then not all of the bytes are taken
  pub not_decoded : (l k : Limits) (m v : V) (old now : List ℕ)
      → FollowsFrom takes l m old k v now → 0 < length now → NotTaken (TakesNext takes k v now)
      → NotDecoded takes l m old
  not_decoded l k m v old now h more untaken = λ z decoded.
      let here = (h 0 (omega arith)).back decoded.0 z [] decoded.1 in
      let first = head order takes k (by_limit 0) v z now [] here.0
      (λ new ended. omega (arith, ended.0, more)) here.1 in
      untaken first.first first.mid first.next (record {
        number = first.n;
        wire_type = type_of first.payload;
        behind = first.behind;
        tag = first.tag;
        taken = record {
          payload = first.payload;
          read = record { read = first.read; fits = first.fits };
          step = first.step;
        };
      })

  -- where no byte is left, all of them are taken
  pub all_taken : (l k : Limits) (m v : V) (old now : List ℕ) → FollowsFrom takes l m old k v now
      → length now ≤ 0 → Decodes takes l m old v
  all_taken l k m v old now h none =
      let whole = at_end order takes (by_limit 0) l k m v old now [] (h 0 (omega arith))
      (none, no_bytes now none) in
      (whole.charge, whole.taken)

-- ---- what is shown of a value

-- what is shown of a value refuses just the record that the value refuses
pub refused_back : {V W : Type 0} (show : V → W) (s : Step V) (t : Step W) → ShowsSteps show s t
    → (l : Limits) (m : V) (bytes : List ℕ) (place : ℕ) → IsFirstRefused t l (show m) bytes place
    → IsFirstRefused s l m bytes place
refused_back show s t h l m bytes place k =
    let folded = folds_back show s t h m k.fields k.charge k.value k.folded in
    record {
      fields = k.fields;
      charge = k.charge;
      value = folded.0;
      rest = k.rest;
      front = k.front;
      folded = folded.1;
      more = k.more;
      refused = λ c z new taken.
          k.refused c (show z) new (rw (folded.2) (record {
            number = taken.number;
            wire_type = taken.wire_type;
            behind = taken.behind;
            tag = taken.tag;
            taken = record {
              payload = taken.taken.payload;
              read = taken.taken.read;
              step = h.on folded.0 taken.number taken.taken.payload c z taken.taken.step;
            };
          }));
      begins = k.begins;
    }

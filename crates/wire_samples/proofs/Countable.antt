-- The counts of the spans so far and of one more are numbers of 64 bits.
use Rattle.std.proofs.Common.{◌≡◌, ℕ, ◌+◌, ◌-◌, ◌^◌, ◌<◌, ◌≤◌, Bool, true, false, if◌then◌else◌, List, [], ◌∷◌, length, take, Option, Some, ap, ◌∙◌, subst, ⊎_elim, arith}
use Rattle.std.proofs.lemmas.List.{length-append, length-take}
use Rattle.wire_codec.specs.Charge.{charge, count}
use Rattle.wire_codec.specs.Field.{Fields, none, field}
use Rattle.wire_codec.specs.ItemLaws.{PayloadsInside}
use Rattle.wire_codec.specs.Items.{slots}
use Rattle.wire_codec.specs.Limits.{Limits, Charge, HasRoom, less}
use Rattle.wire_codec.specs.SpanLaws.{OneSpansCharge, SpansChargeRecords}
use Rattle.wire_codec.specs.Spans.{AreCharged, TooMany}
use Rattle.wire_samples.proofs.Others.{others_depth, others_each}
use Rattle.wire_samples.proofs.Unknowns.{Passed}
use Rattle.wire_samples.specs.PersonUnknowns.{is_known_number, others_of, OthersAre}

-- ---- bytes

choose_inside : PayloadsInside → (b : Bool) (own behind : List ℕ) (spans others : List (List ℕ))
    (c : Charge) → ((d : Charge) → AreCharged others d → d.counts.unknown_bytes ≤ length behind)
    → spans ≡ (if b then others else own ∷ others) → AreCharged spans c
    → c.counts.unknown_bytes ≤ length own + length behind
choose_inside inside true own behind spans others c most is charged =
    omega (arith, most c (subst (λ s. AreCharged s c) is charged))
choose_inside inside false own behind spans others c most is charged =
    let (items, d, walk, rest, same) = subst (λ s. AreCharged s c) is charged in
    omega (
      arith,
      inside items own walk,
      most d rest,
      ap (λ (e : Charge). e.counts.unknown_bytes) same,
    )

-- the payloads of spans are no longer than the text that these stand in
others_inside : PayloadsInside → (fs : Fields) (spans : List (List ℕ)) (text : List ℕ) (c : Charge)
    → OthersAre fs spans text → AreCharged spans c → c.counts.unknown_bytes ≤ length text
others_inside inside none spans text c (no_spans, empty) charged =
    let nothing = subst (λ s. AreCharged s c) no_spans charged in
    omega (arith, ap (λ (e : Charge). e.counts.unknown_bytes) nothing)
others_inside inside (field n p rest) spans text c
    (own, behind, others, spelled, parts, more, is) charged =
    omega (
      arith,
      choose_inside inside (is_known_number n) own behind spans others c
          (λ d h. others_inside inside rest others behind d more h) is charged,
      ap length parts ∙ length-append own behind,
    )

-- ---- slots and bytes

-- what is left of a budget has room for what both together do not exceed
sum_within : (left : Option ℕ) (most first second : ℕ) → left ≡ Some most → HasRoom left first
    → HasRoom (less left first) second → first + second ≤ most
sum_within left most first second is h k =
    let a : first ≤ most = subst (λ x. HasRoom x first) is h in
    let b : second ≤ most - first = subst (λ x. HasRoom (less x first) second) is k in
    omega (arith, a, b)

-- the slots of the spans so far and of one more can be counted, since they are of one budget, and
-- their bytes, since they are of one text
pub can_count : OneSpansCharge → SpansChargeRecords → PayloadsInside → (l now : Limits)
    (bytes mid : List ℕ) (spans : List (List ℕ)) (n most : ℕ) → Passed l bytes mid spans now
    → l.counts.unknown_fields ≡ Some most → most < 2 ^ 64 → length bytes < 2 ^ 64 → (levels : ℕ)
    → levels ≡ now.depth → levels < 2 ^ 32 → ¬ TooMany now spans (take n mid)
can_count one_charge charges inside l now bytes mid spans n most h budget few whole levels level
    shallow (items, others, taken, charged, much) =
    let each = others_each h.fs spans h.text h.others in
    let levels_are = level ∙ ap (λ (m : Limits). m.depth) h.left in
    let same : others ≡ charge (others_of h.fs) =
    one_charge spans others (charge (others_of h.fs)) charged
    (charges spans (others_of h.fs) each
    (omega (arith, others_depth h.fs, h.depth, shallow, levels_are))) in
    let room = subst (λ (m : Limits). HasRoom m.counts.unknown_fields (slots items)) h.left
    taken.room.unknown_fields in
    let within = sum_within l.counts.unknown_fields most (count (others_of h.fs)) (slots items)
    budget h.fits.counts.unknown_fields room in
    let read = taken.read in
    let before = others_inside inside h.fs spans h.text others h.others charged in
    let own = inside items read.text read.spelled in
    ⊎_elim
    (λ fields. omega (
      arith,
      fields,
      within,
      few,
      ap (λ (c : Charge). c.counts.unknown_fields) same,
    ))
    (λ longer. omega (
      arith,
      longer,
      before,
      own,
      whole,
      ap length read.parts ∙ length-append read.text [],
      length-take n mid,
      ap length h.parts ∙ length-append h.text mid,
    )) much

-- Records of values, one after another.
use Rattle.std.proofs.Common.{◌≡◌, ℕ, suc, ◌+◌, ◌-◌, ◌^◌, ◌<◌, ◌≤◌, min, List, [], ◌∷◌, ◌++◌, length, get_or, map, drop, add-one, drop-cons, refl, sym, ap, ◌∙◌, subst, arith, length-append}
use Rattle.std.proofs.lemmas.List.{drop_all}
use Rattle.std.specs.Prelude.{Result, Ok, Err, OnOk}
use Rattle.wire_codec.specs.Laws.{JoinedTextsAndSizes, FieldsArePlain, FlatKeepsTheTape}
use Rattle.wire_codec.specs.Limits.{Limits, Fits, left_after, element_of}
use Rattle.wire_codec.specs.Records.{text, text_size}
use Rattle.wire_codec.specs.Sizes.{sizes}
use Rattle.wire_codec.specs.Taking.{TakesRecord, IsCharged, NotTaken}
use Rattle.wire_codec.specs.Tape.{Tape, advanced}
use Rattle.wire_codec.specs.WireType.{WireType}
use Rattle.wire_fields.specs.Numbers.{in_64_bits}
use Rattle.wire_fields.specs.Presence.{each_record, adds}
use Rattle.wire_fields.specs.Scalar.{ScalarType, scalar_record, ReadsScalar, NoScalar}
use Rattle.wire_fields.proofs.Scalars.{scalar_sizes}

module _ {T V : Type 0} (t : ScalarType V) (view : T → V) (n : ℕ) (joins : JoinedTextsAndSizes) where
  -- the value at i, and those behind it
  next_value : (vs : List T) (i : ℕ) (v : T) → i < length vs → v ≡ get_or vs i v
      → map view (drop i vs) ≡ view v ∷ map view (drop (i + 1) vs)
  next_value vs i v within is =
      let front : drop i vs ≡ v ∷ drop (i + 1) vs = rw (add-one, drop-cons vs i v)
      (ap (λ (x : T). x ∷ drop (suc i) vs) (sym is)) in
      ap (map view) front

  pub next_text : (vs : List T) (i : ℕ) (v : T) → i < length vs → v ≡ get_or vs i v
      → text (each_record t n (map view (drop i vs)))
      ≡ text (scalar_record t n (view v)) ++ text (each_record t n (map view (drop (i + 1) vs)))
  next_text vs i v within is =
      ap (λ (xs : List V). text (each_record t n xs)) (next_value vs i v within is)
      ∙ joins.text (scalar_record t n (view v)) (each_record t n (map view (drop (i + 1) vs)))

  -- one value more is counted
  pub counted_more : (vs : List T) (i len one next : ℕ) (v : T) → i < length vs → v ≡ get_or vs i v
      → one ≡ in_64_bits (text_size (scalar_record t n (view v)))
      → next ≡ min (len + one) (2 ^ 64 - 1)
      → in_64_bits (next + text_size (each_record t n (map view (drop (i + 1) vs))))
      ≡ in_64_bits (len + text_size (each_record t n (map view (drop i vs))))
  counted_more vs i len one next v within is size sum =
      omega (
        arith,
        ap length (next_text vs i v within is),
        length-append (text (scalar_record t n (view v)))
            (text (each_record t n (map view (drop (i + 1) vs)))),
        size,
        sum,
      )

  -- no value is left
  pub none_left : (vs : List T) (i : ℕ) → length vs ≤ i
      → text (each_record t n (map view (drop i vs))) ≡ []
  none_left vs i all = ap (λ (xs : List T). text (each_record t n (map view xs))) (drop_all i vs all)

  pub counted_all : (vs : List T) (i len : ℕ) → length vs ≤ i → len < 2 ^ 64
      → in_64_bits (len + text_size (each_record t n (map view (drop i vs))))
      ≡ in_64_bits (text_size (each_record t n (map view vs)))
      → len ≡ in_64_bits (text_size (each_record t n (map view vs)))
  counted_all vs i len all fits is = omega (arith, ap length (none_left vs i all))

-- no message is embedded in scalars
pub each_sizes : {V : Type 0} → JoinedTextsAndSizes → FieldsArePlain → (t : ScalarType V) (n : ℕ)
    (vs : List V) → sizes (each_record t n vs) ≡ []
each_sizes joins same t n [] = refl
each_sizes joins same t n (v ∷ vs) =
    joins.sizes (scalar_record t n v) (each_record t n vs)
    ∙ ap (λ (ns : List ℕ). ns ++ sizes (each_record t n vs)) (scalar_sizes same t n v)
    ∙ each_sizes joins same t n vs

pub each_reads : {V T E : Type 0} → JoinedTextsAndSizes → FieldsArePlain → FlatKeepsTheTape
    → (t : ScalarType V) (n : ℕ) (vs : List V) (tape : Tape) (r : Result T E)
    → OnOk r (tape ≡ advanced tape (length (sizes (each_record t n vs))))
each_reads joins same flat t n vs tape (Ok x) =
    flat.written (each_record t n vs) tape (each_sizes joins same t n vs)
each_reads joins same flat t n vs tape (Err e) = tt

-- ---- what is taken

module _ {V : Type 0} (place : ℕ) (t : ScalarType V) (l : Limits) (n : ℕ) (w : WireType)
    (m : List V) (old : List ℕ) where
  pub value_added : (i : Limits) (v : V) (z : List V) (new : List ℕ)
      → i ≡ left_after l (element_of place) → Fits (element_of place) l → z ≡ m ++ v ∷ []
      → ReadsScalar t n w v old new
      → IsCharged l i (λ c. TakesRecord (adds place t) l n w m old c z new)
  value_added i v z new i_is fits is h = record {
    charge = element_of place;
    taken = record {
      payload = h.payload;
      read = record { read = h.read; fits = fits };
      step = (refl, v, h.sets, is);
    };
    left = i_is;
  }

  pub no_place : ¬ Fits (element_of place) l → NotTaken (TakesRecord (adds place t) l n w m old)
  no_place full c z new h = full (subst (λ x. Fits x l) h.step.0 h.read.fits)

  pub no_value : NoScalar t n w old → NotTaken (TakesRecord (adds place t) l n w m old)
  no_value absent c z new h =
      absent h.step.1 new (record { payload = h.payload; read = h.read.read; sets = h.step.2 })

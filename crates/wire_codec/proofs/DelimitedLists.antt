-- A list of records in a length-delimited payload, read up to what follows it.
use Rattle.std.proofs.Common.{◌≡◌, ℕ, min, ◌<◌, ◌≤◌, inl, inr, List, [], ◌∷◌, ◌++◌, length, take, refl, sym, ap, ◌∙◌, subst, append_assoc, length-append, arith}
use Rattle.std.proofs.lemmas.List.{length-take}
use Rattle.std.specs.Prelude.{Some}
use Rattle.wire_base.specs.declared.error.DecodeError.{DecodeError}
use Rattle.wire_base.specs.Delimited.{IsDelimited, DelimitedFault}
use Rattle.wire_base.specs.Ending.{by_limit, by_input}
use Rattle.wire_base.specs.Field.{Fields}
use Rattle.wire_base.specs.Limits.{Limits, Charge}
use Rattle.wire_base.specs.Read.{Reads}
use Rattle.wire_base.specs.Spells.{Spells}
use Rattle.wire_base.specs.Taken.{LastGoesOn}
use Rattle.wire_codec.specs.Folds.{Step}
use Rattle.wire_codec.specs.Nested.{TakesDelimited}
use Rattle.wire_codec.specs.Taking.{TakesList, TakesAll, NotTaken}
use Rattle.wire_codec.specs.TakingLaws.{DelimitedIsRead, LimitIsTheLesser}

-- two ends of one list that are as long are one
same_end : (a b r s : List ℕ) → a ++ r ≡ b ++ s → length r ≡ length s → (a ≡ b) × (r ≡ s)
same_end [] [] r s e same = (refl, e)
same_end [] (y ∷ b) r s e same =
    absurd (omega (arith, ap length e, length-append (y ∷ b) s, same))
same_end (x ∷ a) [] r s e same =
    absurd (omega (arith, ap length e, length-append (x ∷ a) r, same))
same_end (x ∷ a) (y ∷ b) r s e same =
    let (front, back) = same_end a b r s (cc) same in
    (cc, back)

-- the same readings, with more bytes behind them
reads_before : (IsText : List ℕ → Type 0) (old new rest : List ℕ) → Reads old IsText new
    → Reads (old ++ rest) IsText (new ++ rest)
reads_before IsText old new rest h = record {
  text = h.text;
  parts = ap (λ (t : List ℕ). t ++ rest) h.parts ∙ append_assoc h.text new rest;
  spelled = h.spelled;
}

last_before : (fs : Fields) (payload rest : List ℕ) (most : ℕ) → most ≡ length rest
    → LastGoesOn by_input fs payload → LastGoesOn (by_limit most) fs (payload ++ rest)
last_before fs payload rest most is (inl none_is) = inl none_is
last_before fs payload rest most is (inr (before, n, p, left, last, h, goes)) =
    inr (
      before,
      n,
      p,
      left ++ rest,
      last,
      reads_before (Spells before) payload left rest h,
      omega (arith, goes, is, length-append left rest),
    )

-- no more bytes than were asked for
pub take_short : (len most : ℕ) (mid : List ℕ) → len ≤ most → length (take len mid) ≤ most
take_short len most mid fits = omega (arith, length-take len mid, fits)

module _ (d : DelimitedIsRead) {V : Type 0} (takes : Step V) where
  -- a whole payload, as a list that ends where it does
  pub whole_in_limit : (l : Limits) (m z : V) (payload rest : List ℕ) (c : Charge) (most : ℕ)
      → most ≡ length rest → TakesAll takes l m payload c z
      → TakesList takes l (by_limit most) m (payload ++ rest) c z rest
  whole_in_limit l m z payload rest c most is h =
      let whole = (d.whole c l h.fields payload []).0 h.read in
      record {
        fields = h.fields;
        read = record {
          end = rest;
          fields = record {
            read = record { text = payload; parts = refl; spelled = whole.0 };
            fits = whole.1;
          };
          ended = (omega (arith, is), refl);
          last = last_before h.fields payload rest most is h.read.last;
        };
        folded = h.folded;
      }

  -- a list that ends where a payload does takes the whole of it
  pub limit_is_whole : (l : Limits) (m z : V) (old payload rest new : List ℕ) (c : Charge)
      (most : ℕ) → old ≡ payload ++ rest → most ≡ length rest → length rest ≤ length new
      → TakesList takes l (by_limit most) m old c z new
      → (new ≡ rest) × TakesAll takes l m payload c z
  limit_is_whole l m z old payload rest new c most parts is long h =
      let read = h.read.fields.read in
      let ended = h.read.ended in
      let same = same_end read.text payload h.read.end rest (sym read.parts ∙ parts)
      (omega (arith, is, ended.0, long, ap length ended.1)) in (
        ended.1 ∙ same.1,
        record {
          fields = h.fields;
          read = (d.whole c l h.fields payload []).1
              (subst (Spells h.fields) same.0 read.spelled, h.read.fields.fits, refl);
          folded = h.folded;
        },
      )

  module _ (l : Limits) (most : ℕ) (m : V) (old payload rest : List ℕ)
      (read : Reads old (IsDelimited payload) rest) where
    -- the payload that stands there is taken, or none is
    payload_of : (c : Charge) (z : V) (new : List ℕ) → TakesDelimited takes l most m old c z new
        → TakesAll takes l m payload c z
    payload_of c z new h =
        subst (λ p. TakesAll takes l m p c z)
        (d.delimited h.payload payload old new rest h.read read).0 h.taken

    pub no_payload : (mid : List ℕ) (limit : ℕ) → mid ≡ payload ++ rest → limit ≡ length rest
        → NotTaken (TakesList takes l (by_limit limit) m mid)
        → NotTaken (TakesDelimited takes l most m old)
    no_payload mid limit parts is untaken c z new h =
        untaken c z rest (subst (λ t. TakesList takes l (by_limit limit) m t c z rest) (sym parts)
        (whole_in_limit l m z payload rest c limit is (payload_of c z new h)))

    -- a record runs past the payload
    pub ran_past : (mid after : List ℕ) (limit : ℕ) (e : Charge) (v : V) → mid ≡ payload ++ rest
        → limit ≡ length rest → length after < length rest
        → TakesList takes l (by_limit limit) m mid e v after
        → NotTaken (TakesDelimited takes l most m old)
    ran_past mid after limit e v parts is past taken c z new h =
        let whole = subst (λ t. TakesList takes l (by_limit limit) m t c z rest) (sym parts)
        (whole_in_limit l m z payload rest c limit is (payload_of c z new h)) in
        omega (
          arith,
          past,
          ap length (d.list (by_limit limit) taken.fields whole.fields e c l l mid
              after rest taken.read whole.read).1,
        )

  -- no length-delimited payload stands there
  pub no_delimited : (l : Limits) (most : ℕ) (m : V) (old : List ℕ) (e : DecodeError)
      → DelimitedFault (Some most) old e → NotTaken (TakesDelimited takes l most m old)
  no_delimited l most m old e fault c z new h =
      d.beside (Some most) h.payload old new e h.read h.short fault

-- ---- the limit, and what remains

no_longer : (fs : Fields) (old new : List ℕ) → Reads old (Spells fs) new → length new ≤ length old
no_longer fs old new h = omega (arith, ap length h.parts, length-append h.text new)

-- the last record begins before one limit where it begins before another
last_at : (fs : Fields) (old : List ℕ) (limit other : ℕ)
    → ((rest : List ℕ) → length rest ≤ length old → limit < length rest → other < length rest)
    → LastGoesOn (by_limit limit) fs old → LastGoesOn (by_limit other) fs old
last_at fs old limit other on (inl none_is) = inl none_is
last_at fs old limit other on (inr (before, n, p, rest, last, h, goes)) =
    inr (before, n, p, rest, last, h, on rest (no_longer before old rest h) goes)

module _ {V : Type 0} (takes : Step V) where
  other_limit : (l : Limits) (m z : V) (limit other : ℕ) (old new : List ℕ) (c : Charge)
      → ((rest : List ℕ) → length rest ≤ length old → length rest ≤ limit → length rest ≤ other)
      → ((rest : List ℕ) → length rest ≤ length old → limit < length rest → other < length rest)
      → TakesList takes l (by_limit limit) m old c z new
      → TakesList takes l (by_limit other) m old c z new
  other_limit l m z limit other old new c ends on h = record {
    fields = h.fields;
    read = record {
      end = h.read.end;
      fields = h.read.fields;
      ended = (
        ends h.read.end (no_longer h.fields old h.read.end h.read.fields.read)
            h.read.ended.0,
        h.read.ended.1,
      );
      last = last_at h.fields old limit other on h.read.last;
    };
    folded = h.folded;
  }

  pub limit_is_the_lesser_lemma : LimitIsTheLesser takes
  limit_is_the_lesser_lemma l m z limit old new c = (
    other_limit l m z limit (min limit (length old)) old new c
        (λ rest short ends. omega (arith, short, ends))
        (λ rest short goes. omega (arith, short, goes)),
    other_limit l m z (min limit (length old)) limit old new c
        (λ rest short ends. omega (arith, short, ends))
        (λ rest short goes. omega (arith, short, goes)),
  )

-- The steps of types that hold themselves or one another, as the least ones that their fields ask
-- for: a record is taken where it is taken at some height.
use Rattle.std.proofs.Common.{◌≡◌, ℕ, zero, suc, ◌+◌, sym, subst, add-zero, arith}
use Rattle.wire_codec.specs.Field.{Payload, Fields, none, field}
use Rattle.wire_codec.specs.Folds.{Step, IsSingle, Folds}
use Rattle.wire_codec.specs.Limits.{Charge}
use Rattle.wire_fields.specs.Messages.{Encoding, inside}

-- what the first takes, the second takes
abbrev pub Within : {V : Type 0} → Step V → Step V → Type 0
Within {V} a b =
    (m z : V) (n : ℕ) (p : Payload) (c : Charge) → a m n p c z → b m n p c z

-- what is taken at some height
abbrev pub at_some : {V : Type 0} → (ℕ → Step V) → Step V
at_some chain m n p c z = (h : ℕ) × chain h m n p c z

abbrev pub Rising : {V : Type 0} → (ℕ → Step V) → Type 0
Rising chain = (h k : ℕ) → Within (chain h) (chain (h + k)) × Within (chain k) (chain (h + k))

-- ---- the types of a family

-- a step for each type
abbrev pub Steps : Type 0 → Type 0 → Type 1
Steps S V = S → Step V

abbrev pub AllWithin : {S V : Type 0} → Steps S V → Steps S V → Type 0
AllWithin {S} a b = (s : S) → Within (a s) (b s)

abbrev pub AllSingle : {S V : Type 0} → Steps S V → Type 0
AllSingle {S} a = (s : S) → IsSingle (a s)

abbrev pub AllRising : {S V : Type 0} → (ℕ → Steps S V) → Type 0
AllRising {S} chain = (s : S) → Rising (λ h. chain h s)

abbrev pub all_at_some : {S V : Type 0} → (ℕ → Steps S V) → Steps S V
all_at_some chain s = at_some (λ h. chain h s)

-- how the steps of the types follow from the steps of what they hold
pub record IsMonotone {S V : Type 0} (f : Steps S V → Steps S V) : Type 1 where
  pub more : (a b : Steps S V) → AllWithin a b → AllWithin (f a) (f b)
  pub single : (a : Steps S V) → AllSingle a → AllSingle (f a)
  pub finite : (chain : ℕ → Steps S V) → AllRising chain
      → AllWithin (f (all_at_some chain)) (all_at_some (λ h. f (chain h)))

-- messages that hold others up to a height
abbrev pub up_to : {S V : Type 0} → (Steps S V → Steps S V) → ℕ → Steps S V
up_to f zero s m n p c z = ⊥
up_to f (suc h) s m n p c z = f (up_to f h) s m n p c z

abbrev pub least : {S V : Type 0} → (Steps S V → Steps S V) → Steps S V
least f = all_at_some (up_to f)

module _ {S V : Type 0} (f : Steps S V → Steps S V) (grows : IsMonotone f) where
  one_up : (h : ℕ) → AllWithin (up_to f h) (up_to f (suc h))
  one_up zero s m z n p c t = absurd t
  one_up (suc h) s m z n p c t =
      grows.more (up_to f h) (up_to f (suc h)) (one_up h) s m z n p c t

  up : (h k : ℕ) → AllWithin (up_to f h) (up_to f (h + k))
  up h zero s m z n p c t = subst (λ x. up_to f x s m n p c z) (sym (add-zero h)) t
  up h (suc k) s m z n p c t =
      let e : suc (h + k) ≡ h + suc k = omega arith in
      subst (λ x. up_to f x s m n p c z) e (one_up (h + k) s m z n p c (up h k s m z n p c t))

  rising : AllRising (up_to f)
  rising s h k = (
    up h k s,
    λ m z n p c t. let e : k + h ≡ h + k = omega arith in
        subst (λ x. up_to f x s m n p c z) e (up k h s m z n p c t),
  )

  single_at : (h : ℕ) → AllSingle (up_to f h)
  single_at zero s m u z w n p c d h k = absurd h
  single_at (suc h) s m u z w n p c d x y =
      grows.single (up_to f h) (single_at h) s m u z w n p c d x y

  -- the charge and the outcome are single
  pub least_single : AllSingle (least f)
  least_single s m u z w n p c d (h, x) (k, y) =
      single_at (h + k) s m u z w n p c d ((rising s h k).0 m z n p c x)
      ((rising s h k).1 u w n p d y)

  -- the step of a type is what its fields ask for
  pub unrolled : AllWithin (least f) (f (least f))
  unrolled s m z n p c (zero, t) = absurd t
  unrolled s m z n p c (suc h, t) =
      grows.more (up_to f h) (least f) (λ r m z n p c x. (h, x)) s m z n p c t

  pub rolled : AllWithin (f (least f)) (least f)
  rolled s m z n p c t =
      let (h, x) = grows.finite (up_to f) rising s m z n p c t in
      (suc h, x)

-- ---- lists and messages inside

module _ {V : Type 0} (a b : Step V) (on : Within a b) where
  folds_more : (fs : Fields) (m z : V) (c : Charge) → Folds a m fs c z → Folds b m fs c z
  folds_more none m z c h = h
  folds_more (field n p others) m z c (mid, first, rest, step, more, sum) =
      (mid, first, rest, on m mid n p first step, folds_more others mid z rest more, sum)

  pub inside_more : (encoding : Encoding) → Within (inside encoding a) (inside encoding b)
  inside_more encoding m z n p c (fs, within, has, folded, charged) =
      (fs, within, has, folds_more fs m z within folded, charged)

module _ {V : Type 0} (chain : ℕ → Step V) (rising : Rising chain) where
  folds_finite : (fs : Fields) (m z : V) (c : Charge) → Folds (at_some chain) m fs c z
      → (h : ℕ) × Folds (chain h) m fs c z
  folds_finite none m z c h = (zero, h)
  folds_finite (field n p others) m z c (mid, first, rest, step, more, sum) =
      let (h, s) = step in
      let (k, t) = folds_finite others mid z rest more in (
        h + k,
        (
          mid,
          first,
          rest,
          (rising h k).0 m mid n p first s,
          folds_more (chain k) (chain (h + k)) (rising h k).1 others mid z rest t,
          sum,
        ),
      )

  pub inside_finite : (encoding : Encoding) → Within (inside encoding (at_some chain))
      (at_some (λ h. inside encoding (chain h)))
  inside_finite encoding m z n p c (fs, within, has, folded, charged) =
      let (k, t) = folds_finite fs m z within folded in
      (k, (fs, within, has, t, charged))

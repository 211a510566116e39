-- The test of equality decides it.
use Rattle.std.specs.Prelude.{◌≡◌, ℕ, true, ◌==◌, ◌&&◌, ◌++◌, IsTrue, refl}
use Rattle.std.specs.Bool.{Decides}
use Rattle.std.specs.Cmp.{IsEquivalence, IsPartialEquivalence, decided, partial_equiv_from_equiv, unsigned_Decides}
use Rattle.std.proofs.Common.{ap, subst}
use Rattle.std.specs.Hash as fed
use Rattle.std.proofs.lemmas.Slice.Eq.{bytes_eq-Decides}
use Rattle.std.proofs.lemmas.Bool.{and_parts, and_from}
use Rattle.wire_base.specs.Field.{Payload, varint, fixed64, fixed32, bytes, group, Fields, none, field}
use Rattle.wire_base.specs.FieldsEq.{payload_eq, fields_eq, payload_writes, fields_writes}

mutual
  pub payload_same : (p q : Payload) → payload_eq p q ≡ true → p ≡ q
  payload_same (varint v) (varint w) h = ap varint ((unsigned_Decides v w).0 h)
  payload_same (fixed64 v) (fixed64 w) h = ap fixed64 ((unsigned_Decides v w).0 h)
  payload_same (fixed32 v) (fixed32 w) h = ap fixed32 ((unsigned_Decides v w).0 h)
  payload_same (bytes b) (bytes c) h = ap bytes ((bytes_eq-Decides b c).0 h)
  payload_same (group fs) (group gs) h = ap group (fields_same fs gs h)
  payload_same _ _ h = absurd cc

  pub fields_same : (fs gs : Fields) → fields_eq fs gs ≡ true → fs ≡ gs
  fields_same none none h = refl
  fields_same (field n p fs) (field m q gs) h =
      let first = and_parts (n == m) (payload_eq p q && fields_eq fs gs) h in
      let both = and_parts (payload_eq p q) (fields_eq fs gs) first.1 in
      λ i. field ((unsigned_Decides n m).0 first.0 i) (payload_same p q both.0 i)
      (fields_same fs gs both.1 i)
  fields_same _ _ h = absurd cc

mutual
  payload_itself : (p : Payload) → payload_eq p p ≡ true
  payload_itself (varint v) = (unsigned_Decides v v).1 refl
  payload_itself (fixed64 v) = (unsigned_Decides v v).1 refl
  payload_itself (fixed32 v) = (unsigned_Decides v v).1 refl
  payload_itself (bytes b) = (bytes_eq-Decides b b).1 refl
  payload_itself (group fs) = fields_itself fs

  fields_itself : (fs : Fields) → fields_eq fs fs ≡ true
  fields_itself none = refl
  fields_itself (field n p fs) =
      and_from _ _ ((unsigned_Decides n n).1 refl)
      (and_from _ _ (payload_itself p) (fields_itself fs))

pub payload_eq-Decides : (p q : Payload) → Decides (payload_eq p q) (p ≡ q)
payload_eq-Decides p q =
    (payload_same p q, λ e. subst (λ (r : Payload). payload_eq p r ≡ true) e (payload_itself p))

pub fields_eq-Decides : (fs gs : Fields) → Decides (fields_eq fs gs) (fs ≡ gs)
fields_eq-Decides fs gs =
    (fields_same fs gs, λ e. subst (λ (hs : Fields). fields_eq fs hs ≡ true) e (fields_itself fs))

pub payload_equiv : IsEquivalence payload_eq
payload_equiv = decided payload_eq payload_eq-Decides

pub payload_per : IsPartialEquivalence payload_eq
payload_per = partial_equiv_from_equiv payload_equiv

pub fields_equiv : IsEquivalence fields_eq
fields_equiv = decided fields_eq fields_eq-Decides

pub fields_per : IsPartialEquivalence fields_eq
fields_per = partial_equiv_from_equiv fields_equiv

-- what is equal is hashed alike
pub payload_writes-same : (p q : Payload) → IsTrue (payload_eq p q)
    → payload_writes p ≡ payload_writes q
payload_writes-same p q h = ap payload_writes (payload_same p q h)

pub fields_writes-same : (fs gs : Fields) → IsTrue (fields_eq fs gs)
    → fields_writes fs ≡ fields_writes gs
fields_writes-same fs gs h = ap fields_writes (fields_same fs gs h)

pub record_writes-same : (n m : ℕ) (p q : Payload)
    → IsTrue (fields_eq (field n p none) (field m q none))
    → fed.u32 n ++ payload_writes p ≡ fed.u32 m ++ payload_writes q
record_writes-same n m p q h =
    let first = and_parts (n == m) (payload_eq p q && true) h in
    let second = and_parts (payload_eq p q) true first.1 in
    λ i. fed.u32 ((unsigned_Decides n m).0 first.0 i) ++ payload_writes
    (payload_same p q second.0 i)

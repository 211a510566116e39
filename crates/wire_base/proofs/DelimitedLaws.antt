-- Laws of length-delimited payloads: one reading, one fault, and one of the two always.
use Rattle.std.proofs.Common.{◌≡◌, ℕ, ◌<◌, ◌≤◌, ◌⊎◌, inl, inr, List, ◌++◌, length, take, drop, Option, refl, sym, ap, subst, ◌∙◌, append_assoc, arith, ⊎_elim, length-append, length-take-le, take-append-drop}
use Rattle.std.proofs.lemmas.Bool.{cases_lt}
use Rattle.wire_base.specs.declared.error.DecodeError.{DecodeError}
use Rattle.wire_base.specs.declared.error.DecodeError.TheVariants.{UnexpectedEof, MessageTooLarge}
use Rattle.wire_base.specs.Delimited.{IsDelimited, DelimitedFault, no_length, too_large, cut_short}
use Rattle.wire_base.specs.Limits.{HasRoom}
use Rattle.wire_base.specs.Read.{Reads}
use Rattle.wire_base.specs.Varint.{IsSpelling, shortest_varint}
use Rattle.wire_base.specs.VarintLaws.{DelimitedReadsBack, OneDelimited, NoDelimitedBesideFault, OneDelimitedFault, DelimitedOrFault, DelimitedOrFaultStands, VarintOrFault}
use Rattle.wire_base.proofs.LimitsLaws.{room_or_not}
use Rattle.wire_base.proofs.ListLaws.{one_beginning}
use Rattle.wire_base.proofs.ReadLaws.{Reads-inside}
use Rattle.wire_base.proofs.VarintLaws.{same_varint, no_varint_beside_fault_lemma, one_varint_fault_lemma, varint_or_fault_lemma, IsSpelling-shortest_varint}

-- the length in front of a payload
pub length_of : (payload old new : List ℕ) → Reads old (IsDelimited payload) new
    → Reads old (IsSpelling (length payload)) (payload ++ new)
length_of payload old new h =
    Reads-inside (IsSpelling (length payload)) old h.text payload new h.parts h.spelled

-- a length and as many bytes are a payload
pub delimited_from : (len : ℕ) (payload old mid new : List ℕ) → Reads old (IsSpelling len) mid
    → length payload ≡ len → mid ≡ payload ++ new → Reads old (IsDelimited payload) new
delimited_from len payload old mid new h same parts = record {
  text = h.text ++ payload;
  parts = h.parts ∙ ap (λ l. h.text ++ l) parts ∙ sym (append_assoc h.text payload new);
  spelled = record {
    text = h.text;
    parts = refl;
    spelled = subst (λ k. IsSpelling k h.text) (sym same) h.spelled;
  };
}

-- the payload that a length tells
pub delimited_at : (len : ℕ) (old mid new : List ℕ) → Reads old (IsSpelling len) mid
    → len ≤ length mid
    → new ≡ drop len mid → Reads old (IsDelimited (take len mid)) new
delimited_at len old mid new h there e =
    delimited_from len (take len mid) old mid new h (length-take-le len mid there)
    (sym (take-append-drop len mid) ∙ ap (λ l. take len mid ++ l) (sym e))

pub same_delimited : (p q old r s : List ℕ) → Reads old (IsDelimited p) r
    → Reads old (IsDelimited q) s
    → (p ≡ q) × (r ≡ s)
same_delimited p q old r s h k =
    let front = same_varint old (p ++ r) (q ++ s) _ _ (length_of p old r h) (length_of q old s k) in
    one_beginning p q r s front.value front.rest

-- the length that was read is that of the payload, and what stands behind it is the payload and the
-- rest
same_length : (len : ℕ) (payload old mid new : List ℕ) → Reads old (IsSpelling len) mid
    → Reads old (IsDelimited payload) new → (len ≡ length payload) × (mid ≡ payload ++ new)
same_length len payload old mid new h k =
    let same = same_varint old mid (payload ++ new) len (length payload) h
    (length_of payload old new k) in
    (same.value, same.rest)

pub beside_fault : (most : Option ℕ) (payload old new : List ℕ) (e : DecodeError)
    → Reads old (IsDelimited payload) new → HasRoom most (length payload)
    → DelimitedFault most old e → ⊥
beside_fault most payload old new e h room (no_length fault) =
    no_varint_beside_fault_lemma old (payload ++ new) (length payload) e
    (length_of payload old new h) fault
beside_fault most payload old new e h room (too_large len mid k large) =
    let same = same_length len payload old mid new k h in large
    (subst (HasRoom most) (sym same.0) room)
beside_fault most payload old new e h room (cut_short len mid k fits short) =
    let same = same_length len payload old mid new k h in
    omega (arith, same.0, ap length same.1 ∙ length-append payload new)

-- two lengths at one place are one
one_length : (len other : ℕ) (old mid rest : List ℕ) → Reads old (IsSpelling len) mid
    → Reads old (IsSpelling other) rest → len ≡ other
one_length len other old mid rest h k = (same_varint old mid rest len other h k).value

pub one_fault : (most : Option ℕ) (old : List ℕ) (e f : DecodeError) → DelimitedFault most old e
    → DelimitedFault most old f → e ≡ f
one_fault most old e f (no_length h) (no_length k) = one_varint_fault_lemma old e f h k
one_fault most old e f (no_length h) (too_large len mid k large) =
    absurd (no_varint_beside_fault_lemma old mid len e k h)
one_fault most old e f (no_length h) (cut_short len mid k fits short) =
    absurd (no_varint_beside_fault_lemma old mid len e k h)
one_fault most old e f (too_large len mid h large) (no_length k) =
    absurd (no_varint_beside_fault_lemma old mid len f h k)
one_fault most old e f (too_large len mid h large) (too_large other rest k past) = refl
one_fault most old e f (too_large len mid h large) (cut_short other rest k fits short) =
    absurd (large (subst (HasRoom most) (one_length other len old rest mid k h) fits))
one_fault most old e f (cut_short len mid h fits short) (no_length k) =
    absurd (no_varint_beside_fault_lemma old mid len f h k)
one_fault most old e f (cut_short len mid h fits short) (too_large other rest k large) =
    absurd (large (subst (HasRoom most) (one_length len other old mid rest h k) fits))
one_fault most old e f (cut_short len mid h fits short) (cut_short other rest k room few) = refl

-- behind a length that is not too large, so many bytes or too few
behind_length : (most : Option ℕ) (len : ℕ) (old mid : List ℕ) → Reads old (IsSpelling len) mid
    → HasRoom most len
    → (length mid < len) ⊎ (len ≤ length mid) → DelimitedOrFault most old
behind_length most len old mid h fits (inl short) =
    inr (UnexpectedEof, cut_short len mid h fits short)
behind_length most len old mid h fits (inr there) =
    inl (
      take len mid,
      drop len mid,
      delimited_at len old mid (drop len mid) h there refl,
      subst (HasRoom most) (sym (length-take-le len mid there)) fits,
    )

outcome : (most : Option ℕ) (old : List ℕ) → VarintOrFault old → DelimitedOrFault most old
outcome most old (inl (len, mid, h)) =
    ⊎_elim
    (λ fits. behind_length most len old mid h fits (cases_lt (length mid) len))
    (λ large. inr (MessageTooLarge, too_large len mid h large))
    (room_or_not most len)
outcome most old (inr (e, fault)) = inr (e, no_length fault)

-- ---- the laws

pub delimited_reads_back_lemma : DelimitedReadsBack
delimited_reads_back_lemma payload rest few =
    delimited_from (length payload) payload _ (payload ++ rest) rest
    (record {
      text = shortest_varint (length payload);
      parts = append_assoc (shortest_varint (length payload)) payload rest;
      spelled = IsSpelling-shortest_varint (length payload) few;
    })
    refl
    refl

pub one_delimited_lemma : OneDelimited
one_delimited_lemma = same_delimited

pub no_delimited_beside_fault_lemma : NoDelimitedBesideFault
no_delimited_beside_fault_lemma most payload old new e h room fault =
    beside_fault most payload old new e h room fault

pub one_delimited_fault_lemma : OneDelimitedFault
one_delimited_fault_lemma = one_fault

pub delimited_or_fault_lemma : DelimitedOrFaultStands
delimited_or_fault_lemma most old = outcome most old (varint_or_fault_lemma old)

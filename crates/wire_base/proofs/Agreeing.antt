-- What a call does where it meets the definitions of skipping or of decoding.
use Rattle.std.proofs.Common.{◌≡◌, ℕ, List, Result, Ok, Err, inl, inr, refl, sym, ap, ◌∙◌, subst, ⊎_elim}
use Rattle.std.specs.Prelude.{IfOk, IfErr, OnOk}
use Rattle.wire_base.specs.declared.error.DecodeError.{DecodeError}
use Rattle.wire_base.specs.declared.error.DecodeError.TheVariants.{OutOfMemory, UnexpectedEof, UnknownFieldLimitExceeded}
use Rattle.wire_base.specs.declared.tag.WireType.{WireType}
use Rattle.wire_base.specs.Agreement.{FollowsDecoding, RefusesAsDecoding, NeverWantsRoom, KeepsWhatIsSkipped, RefusesAsSkipping, IsShortWhereCut, IsShortOrWantsMemory, StaysRefused, FaultOrMemory}
use Rattle.wire_base.specs.Charge.{payload_charge}
use Rattle.wire_base.specs.Fault.{PayloadFault}
use Rattle.wire_base.specs.Field.{Payload}
use Rattle.wire_base.specs.Limits.{Limits, uncounted}
use Rattle.wire_base.specs.Refusal.{PayloadRefusal}
use Rattle.wire_base.specs.Taken.{TakesPayload}
use Rattle.wire_base.proofs.Agreement.{skipped_where_decoded_lemma, refused_alike_lemma, room_suffices_lemma}
use Rattle.wire_base.proofs.Cuts.{cut_is_short_lemma, faults_stay_lemma}
use Rattle.wire_base.proofs.FaultLaws.{no_payload_beside_fault_lemma, one_payload_fault_lemma}
use Rattle.wire_base.proofs.FieldLaws.{one_payload_lemma}
use Rattle.wire_base.proofs.Skips.{SkipsPayload}

-- ---- a call that skips

module _ (levels n : ℕ) (w : WireType) (old new : List ℕ) where
  pub follows_decoding : (r : Result (Unit {0}) DecodeError)
      → OnOk r (SkipsPayload (uncounted levels) n w old new)
      → IfErr r (PayloadFault (uncounted levels) n w old) → FollowsDecoding levels n w old new r
  follows_decoding (Ok u) ok fault l p rest same h =
      (refl, (one_payload_lemma n w ok.0 p old new rest ok.1.read h.read).1)
  follows_decoding (Err e) ok fault l p rest same h =
      absurd (no_payload_beside_fault_lemma (uncounted levels) n w old rest e p fault
      (subst (λ d. TakesPayload (payload_charge p) (uncounted d) n w p old rest) same
      (skipped_where_decoded_lemma l n w p old rest h)))

  pub refuses_as_decoding : (r : Result (Unit {0}) DecodeError)
      → OnOk r (SkipsPayload (uncounted levels) n w old new)
      → IfErr r (PayloadFault (uncounted levels) n w old) → RefusesAsDecoding levels n w old r
  refuses_as_decoding (Ok u) ok fault l e same h other =
      absurd (no_payload_beside_fault_lemma (uncounted levels) n w old new e ok.0
      (subst (λ d. PayloadFault (uncounted d) n w old e) same
      (refused_alike_lemma l n w old e h other)) ok.1)
  refuses_as_decoding (Err f) ok fault l e same h other =
      ap Err (one_payload_fault_lemma (uncounted levels) n w old f e fault
      (subst (λ d. PayloadFault (uncounted d) n w old e) same
      (refused_alike_lemma l n w old e h other)))

  pub skip_is_short : (r : Result (Unit {0}) DecodeError)
      → OnOk r (SkipsPayload (uncounted levels) n w old new)
      → IfErr r (PayloadFault (uncounted levels) n w old)
      → IsShortWhereCut (uncounted levels) n w old r
  skip_is_short (Ok u) ok fault p missing some h =
      absurd (no_payload_beside_fault_lemma (uncounted levels) n w old new UnexpectedEof ok.0
      (cut_is_short_lemma (uncounted levels) n w p old missing some h) ok.1)
  skip_is_short (Err e) ok fault p missing some h =
      ap Err (one_payload_fault_lemma (uncounted levels) n w old e UnexpectedEof fault
      (cut_is_short_lemma (uncounted levels) n w p old missing some h))

  pub skip_stays : (r : Result (Unit {0}) DecodeError)
      → IfErr r (PayloadFault (uncounted levels) n w old)
      → StaysRefused (PayloadFault (uncounted levels) n w) old r
  skip_stays (Ok u) fault = tt
  skip_stays (Err e) fault =
      λ other more. ⊎_elim (λ short. absurd (other short)) (λ stays. stays)
      (faults_stay_lemma.payload (uncounted levels) n w old more e fault)

-- ---- a call that keeps

module _ {T : Type 0} (payload_in : T → Payload) (l : Limits) (n : ℕ) (w : WireType)
    (old new : List ℕ) where
  pub never_wants_room : (r : Result T DecodeError) → IfErr r (PayloadRefusal l n w old)
      → NeverWantsRoom l old r
  never_wants_room (Ok kept) refused many = tt
  never_wants_room (Err e) refused many =
      ⊎_elim
      (λ fault. λ is. room_suffices_lemma.none_wanted l n w old many
      (subst (PayloadFault l n w old) is fault))
      (λ memory. λ is. let both : OutOfMemory ≡ UnknownFieldLimitExceeded = sym memory.0 ∙ is in
      absurd cc) refused

  pub keeps_what_is_skipped : (r : Result T DecodeError)
      → IfOk r (λ kept. TakesPayload (payload_charge (payload_in kept)) l n w (payload_in kept) old
      new)
      → IfErr r (PayloadRefusal l n w old) → KeepsWhatIsSkipped payload_in l n w old new r
  keeps_what_is_skipped (Ok kept) ok refused many p rest h =
      one_payload_lemma n w (payload_in kept) p old new rest ok.read h.read
  keeps_what_is_skipped (Err e) ok refused many p rest h =
      ⊎_elim
      (λ fault. absurd (no_payload_beside_fault_lemma l n w old rest e p fault
      (room_suffices_lemma.taken l n w p old rest many h)))
      (λ memory. memory.0) refused

  pub refuses_as_skipping : (r : Result T DecodeError)
      → IfOk r (λ kept. TakesPayload (payload_charge (payload_in kept)) l n w (payload_in kept) old
      new)
      → IfErr r (PayloadRefusal l n w old) → RefusesAsSkipping l n w old r
  refuses_as_skipping (Ok kept) ok refused many e h =
      no_payload_beside_fault_lemma (uncounted l.depth) n w old new e (payload_in kept) h
      (skipped_where_decoded_lemma l n w (payload_in kept) old new ok)
  refuses_as_skipping (Err f) ok refused many e h =
      ⊎_elim
      (λ fault. inl (one_payload_fault_lemma (uncounted l.depth) n w old f e
      (refused_alike_lemma l n w old f fault
      (λ is. room_suffices_lemma.none_wanted l n w old many
      (subst (PayloadFault l n w old) is fault))) h))
      (λ memory. inr memory.0) refused

  pub keep_is_short : (r : Result T DecodeError)
      → IfOk r (λ kept. TakesPayload (payload_charge (payload_in kept)) l n w (payload_in kept) old
      new)
      → IfErr r (PayloadRefusal l n w old) → IsShortOrWantsMemory l n w old r
  keep_is_short (Ok kept) ok refused p missing some h =
      no_payload_beside_fault_lemma l n w old new UnexpectedEof (payload_in kept)
      (cut_is_short_lemma l n w p old missing some h) ok
  keep_is_short (Err e) ok refused p missing some h =
      ⊎_elim
      (λ fault. inl (one_payload_fault_lemma l n w old e UnexpectedEof fault
      (cut_is_short_lemma l n w p old missing some h)))
      (λ memory. inr memory.0) refused

  pub keep_stays : (r : Result T DecodeError) → IfErr r (PayloadRefusal l n w old)
      → StaysRefused (FaultOrMemory l n w) old r
  keep_stays (Ok kept) refused = tt
  keep_stays (Err e) refused =
      λ other more. ⊎_elim
      (λ fault. ⊎_elim (λ short. absurd (other short)) (λ stays. inl stays)
      (faults_stay_lemma.payload l n w old more e fault))
      (λ memory. inr memory.0) refused

-- How records are stored as a list of numbers and bytes, which a model of them has to have.
use Rattle.std.specs.Prelude.{◌≡◌, ℕ, zero, suc, List, [], ◌∷◌, ◌++◌, refl}
use Rattle.std.specs.Coded.{Coded, code_by, coded×, coded_ℕ, coded_list}
use Rattle.std.proofs.Common.{sym, ap, ◌∙◌, append_assoc}
use Rattle.std.proofs.lemmas.List.{append-nil}
use Rattle.wire_base.specs.Field.{Payload, varint, fixed64, fixed32, bytes, group, Fields, none, field, joined}

-- a field number, what stands there, its number and its bytes; a group ends with a mark of its own
abbrev pub Mark : Type 0
Mark = ℕ × (ℕ × (ℕ × List ℕ))

abbrev mutual
  pub payload_marks : ℕ → Payload → List Mark
  payload_marks n (varint v) = (n, (0, (v, []))) ∷ []
  payload_marks n (fixed64 v) = (n, (1, (v, []))) ∷ []
  payload_marks n (fixed32 v) = (n, (2, (v, []))) ∷ []
  payload_marks n (bytes b) = (n, (3, (0, b))) ∷ []
  payload_marks n (group fs) = (n, (4, (0, []))) ∷ (marks fs ++ (n, (5, (0, []))) ∷ [])

  pub marks : Fields → List Mark
  marks none = []
  marks (field n p rest) = payload_marks n p ++ marks rest

-- records that are read back from the end: those that stand so far, and those behind each open
-- group
pub data Stack : Type 0 where
  bottom : Fields → Stack
  within : Fields → Stack → Stack

abbrev pub top : Stack → Fields
top (bottom fs) = fs
top (within fs s) = fs

abbrev pub with_top : Fields → Stack → Stack
with_top fs (bottom gs) = bottom fs
with_top fs (within gs s) = within fs s

-- a group's end opens it, since marks are read from the end
abbrev pub close : ℕ → Stack → Stack
close n (bottom fs) = bottom fs
close n (within fs s) = with_top (field n (group fs) (top s)) s

abbrev pub read_mark : ℕ → ℕ → ℕ → List ℕ → Stack → Stack
read_mark n zero v b s = with_top (field n (varint v) (top s)) s
read_mark n (suc zero) v b s = with_top (field n (fixed64 v) (top s)) s
read_mark n (suc (suc zero)) v b s = with_top (field n (fixed32 v) (top s)) s
read_mark n (suc (suc (suc zero))) v b s = with_top (field n (bytes b) (top s)) s
read_mark n (suc (suc (suc (suc zero)))) v b s = close n s
read_mark n (suc (suc (suc (suc (suc k))))) v b s = within none s

abbrev pub unmark : List Mark → Stack
unmark [] = bottom none
unmark (m ∷ ms) = read_mark m.0 m.1.0 m.1.1.0 m.1.1.1 (unmark ms)

with_top-top : (s : Stack) → with_top (top s) s ≡ s
with_top-top (bottom fs) = refl
with_top-top (within fs s) = refl

with_top-twice : (fs gs : Fields) (s : Stack) → with_top fs (with_top gs s) ≡ with_top fs s
with_top-twice fs gs (bottom hs) = refl
with_top-twice fs gs (within hs s) = refl

top-with_top : (fs : Fields) (s : Stack) → top (with_top fs s) ≡ fs
top-with_top fs (bottom gs) = refl
top-with_top fs (within gs s) = refl

joined-none : (fs : Fields) → joined fs none ≡ fs
joined-none none = refl
joined-none (field n p rest) = ap (field n p) (joined-none rest)

mutual
  payload_read : (n : ℕ) (p : Payload) (ms : List Mark)
      → unmark (payload_marks n p ++ ms) ≡ with_top (field n p (top (unmark ms))) (unmark ms)
  payload_read n (varint v) ms = refl
  payload_read n (fixed64 v) ms = refl
  payload_read n (fixed32 v) ms = refl
  payload_read n (bytes b) ms = refl
  payload_read n (group fs) ms =
      ap (λ (t : List Mark). close n (unmark t))
      (append_assoc (marks fs) ((n, (5, (0, []))) ∷ []) ms)
      ∙ ap (close n) (marks_read fs ((n, (5, (0, []))) ∷ ms))
      ∙ ap (λ (gs : Fields). with_top (field n (group gs) (top (unmark ms))) (unmark ms))
      (joined-none fs)

  -- marks are read back as the records that they were made of, in front of what follows
  marks_read : (fs : Fields) (ms : List Mark)
      → unmark (marks fs ++ ms) ≡ with_top (joined fs (top (unmark ms))) (unmark ms)
  marks_read none ms = sym (with_top-top (unmark ms))
  marks_read (field n p rest) ms =
      ap unmark (append_assoc (payload_marks n p) (marks rest) ms)
      ∙ payload_read n p (marks rest ++ ms)
      ∙ ap (λ (s : Stack). with_top (field n p (top s)) s) (marks_read rest ms)
      ∙ ap (λ (gs : Fields). with_top (field n p gs)
      (with_top (joined rest (top (unmark ms))) (unmark ms)))
      (top-with_top (joined rest (top (unmark ms))) (unmark ms))
      ∙ with_top-twice (field n p (joined rest (top (unmark ms)))) (joined rest (top (unmark ms)))
      (unmark ms)

pub read_back : (fs : Fields) → top (unmark (marks fs)) ≡ fs
read_back fs =
    ap (λ (t : List Mark). top (unmark t)) (sym (append-nil (marks fs)))
    ∙ ap top (marks_read fs [])
    ∙ joined-none fs

abbrev pub fields_code : Coded Fields
fields_code =
    code_by (List Mark)
    (coded_list (coded× coded_ℕ (coded× coded_ℕ (coded× coded_ℕ (coded_list coded_ℕ))))) marks
    (λ ms. top (unmark ms)) read_back

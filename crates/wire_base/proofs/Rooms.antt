-- A slice that is filled from a place on.
use Rattle.std.proofs.Common.{◌≡◌, ℕ, ◌+◌, ◌≤◌, List, [], ◌++◌, length, length-append, take, drop, Option, Some, None, Result, Ok, Err, sym, ap, ◌∙◌, arith, refl, ◌<◌, subst}
use Rattle.std.proofs.lemmas.List.{drop-drop, length-take-le, take-append-drop}
use Rattle.wire_base.specs.declared.error.EncodeError.{EncodeError}
use Rattle.wire_base.specs.declared.error.EncodeError.TheVariants.{MessageTooLarge, ExceedsBudget, OutOfMemory, LengthOverflow}
use Rattle.wire_base.specs.Sink.{Held, Lent, Puts, Writes, followed_by, in_slice}
use Rattle.wire_base.specs.WriteLaws.{FillsSlice, WhatFitsIsWritten, PutFillsSlice}
use Rattle.wire_base.proofs.Sinks.{followed_by_two}

-- a text for which a slice has room is not refused
succeeds : (text room : List ℕ) (name place : ℕ) (now : Held)
    (r : Result (Unit {0}) EncodeError) → place + length text ≤ length room
    → Writes text (in_slice name room place) now r → r ≡ Ok tt
succeeds text room name place now (Ok tt) fits w = refl
succeeds text room name place now (Err LengthOverflow) fits w =
    absurd (omega (arith, fits, w.cause, length-take-le place room (omega (arith, fits))))
succeeds text room name place now (Err OutOfMemory) fits w = absurd (w.memory refl)
succeeds text room name place now (Err MessageTooLarge) fits w = absurd w.cause
succeeds text room name place now (Err (ExceedsBudget len max_bytes)) fits w = absurd w.cause

abbrev counted : Option ℕ → ℕ
counted None = 0
counted (Some most) = most

abbrev name_of : Option Lent → ℕ
name_of None = 0
name_of (Some slice) = slice.name

abbrev rest_of : Option Lent → List ℕ
rest_of None = []
rest_of (Some slice) = slice.rest

fills : (text old new : List ℕ) (name same place behind : ℕ)
    → place + length text ≤ length old → behind ≤ length new
    → in_slice same new behind ≡ followed_by (in_slice name old place) text
    → FillsSlice text place old new behind
fills text old new name same place behind fits within is =
    let front : take behind new ≡ take place old ++ text = ap (λ (held : Held). held.bytes) is in
    let long : length new ≡ length old = ap (λ (held : Held). counted held.most) is in
    let rest : drop behind new ≡ drop (length text) (drop place old) =
    ap (λ (held : Held). rest_of held.lent) is in
    record {
      room = fits;
      moved = omega (
        arith,
        length-take-le behind new within,
        length-take-le place old (omega (arith, fits)),
        ap length front ∙ length-append (take place old) text,
      );
      written = sym (take-append-drop behind new)
          ∙ ap (λ (l : List ℕ). l ++ drop behind new) front
          ∙ ap (λ (l : List ℕ). (take place old ++ text) ++ l)
          (rest ∙ drop-drop (length text) place old);
    }

pub what_fits_is_written : WhatFitsIsWritten
what_fits_is_written = record {
  succeeds = succeeds;
  fills = fills;
  same_slice = λ text old new name same place behind is.
      ap (λ (held : Held). name_of held.lent) is;
}

put_fills : (text old new : List ℕ) (name same place behind : ℕ) (done : Unit {0})
    → place ≤ length old → behind ≤ length new
    → Puts text (in_slice name old place) (in_slice same new behind) (Ok done)
    → FillsSlice text place old new behind × (same ≡ name)
put_fills text old new name same place behind done inside within p = (
  fills text old new name same place behind
      (omega (arith, p.cause, length-take-le place old inside)) within p.ok,
  ap (λ (held : Held). name_of held.lent) p.ok,
)

put_lacks : (text old : List ℕ) (name place : ℕ) (now : Held) (e : EncodeError)
    → place ≤ length old → Puts text (in_slice name old place) now (Err e)
    → length old < place + length text
put_lacks text old name place now LengthOverflow inside p =
    omega (arith, p.cause, length-take-le place old inside)
put_lacks text old name place now OutOfMemory inside p = absurd (p.memory refl)
put_lacks text old name place now MessageTooLarge inside p = absurd p.cause
put_lacks text old name place now (ExceedsBudget len max_bytes) inside p = absurd p.cause

put_stays : (old new : List ℕ) (name same place behind : ℕ)
    → in_slice same new behind ≡ in_slice name old place → (new ≡ old) × (same ≡ name)
put_stays old new name same place behind is = (
  sym (take-append-drop behind new)
      ∙ ap (λ (held : Held). held.bytes ++ rest_of held.lent) is
      ∙ take-append-drop place old,
  ap (λ (held : Held). name_of held.lent) is,
)

pub put_fills_a_slice : PutFillsSlice
put_fills_a_slice = record { fills = put_fills; lacks = put_lacks; stays = put_stays }

-- behind a first part that stands in a slice the second is put, for which there is room too
put_behind : (first text room : List ℕ) (name place : ℕ) (new : Held)
    (r : Result (Unit {0}) EncodeError) → place + (length first + length text) ≤ length room
    → Puts text (followed_by (in_slice name room place) first) new r
    → Puts (first ++ text) (in_slice name room place) new r
put_behind first text room name place new (Ok u) fits p = record {
  ok = p.ok ∙ followed_by_two (in_slice name room place) first text;
  err = tt;
  cause = λ beyond.
      omega (
        arith,
        fits,
        beyond,
        length-append first text,
        length-take-le place room (omega (arith, fits)),
      );
  memory = tt;
}
put_behind first text room name place new (Err LengthOverflow) fits p =
    absurd (omega (
      arith,
      fits,
      p.cause,
      length-append first text,
      length-append (take place room) first,
      length-take-le place room (omega (arith, fits)),
    ))
put_behind first text room name place new (Err OutOfMemory) fits p = absurd (p.memory refl)
put_behind first text room name place new (Err MessageTooLarge) fits p = absurd p.cause
put_behind first text room name place new (Err (ExceedsBudget len max_bytes)) fits p =
    absurd p.cause

pub put_behind_filled : (first text room : List ℕ) (name place : ℕ) (mid new : Held)
    (r : Result (Unit {0}) EncodeError) → place + (length first + length text) ≤ length room
    → mid ≡ followed_by (in_slice name room place) first → Puts text mid new r
    → Puts (first ++ text) (in_slice name room place) new r
put_behind_filled first text room name place mid new r fits is p =
    put_behind first text room name place new r fits (subst (λ (m : Held). Puts text m new r) is p)

-- What holds of writes. Each statement is proved as the contract of a law of src/laws.rt.
use Rattle.std.specs.Prelude.{◌≡◌, List, [], ◌++◌, ℕ, ◌+◌, ◌<◌, ◌≤◌, length, take, drop, Result, Ok, Err}
use Rattle.wire_base.specs.declared.error.EncodeError.{EncodeError}
use Rattle.wire_base.specs.Sink.{Held, Puts, Writes, IsWrittenTo, followed_by, in_slice}

-- a text in two parts, of which the second is written once the first is
pub record TwoParts : Type 0 where
  pub joined : (first second : List ℕ) (held : Held)
      → followed_by (followed_by held first) second ≡ followed_by held (first ++ second)
  pub refused : (first second : List ℕ) (old new : Held) (e : EncodeError)
      → Writes first old new (Err e) → Writes (first ++ second) old new (Err e)
  pub behind : (first second : List ℕ) (old mid new : Held) (done : Unit {0})
      (r : Result (Unit {0}) EncodeError)
      → Writes first old mid (Ok done) → Writes second mid new r
      → Writes (first ++ second) old new r

-- a put of a text, which is written whole or not at all
abbrev pub PutIsWrite : Type 0
PutIsWrite = (text : List ℕ) (old new : Held) (r : Result (Unit {0}) EncodeError)
    → Puts text old new r → Writes text old new r

-- a text that is written piece by piece: at the start, after a piece, where a piece is refused,
-- with the last piece, and where nothing is left
pub record PieceByPiece : Type 0 where
  pub start : (whole : List ℕ) (old : Held) → IsWrittenTo whole old old whole
  pub more : (whole : List ℕ) (old now next : Held) (left piece after : List ℕ) (done : Unit {0})
      → IsWrittenTo whole old now left → left ≡ piece ++ after
      → Writes piece now next (Ok done) → IsWrittenTo whole old next after
  pub refused : (whole : List ℕ) (old now new : Held) (left piece after : List ℕ) (e : EncodeError)
      → IsWrittenTo whole old now left → left ≡ piece ++ after
      → Writes piece now new (Err e) → Writes whole old new (Err e)
  pub last : (whole : List ℕ) (old now new : Held) (left : List ℕ)
      (r : Result (Unit {0}) EncodeError)
      → IsWrittenTo whole old now left → Writes left now new r → Writes whole old new r
  pub done : (whole : List ℕ) (old now : Held) → IsWrittenTo whole old now []
      → Writes whole old now (Ok tt)

-- all, with the text from a place on in the stead of as many of its elements
abbrev pub spliced : ℕ → List ℕ → List ℕ → List ℕ
spliced place text all = take place all ++ text ++ drop (place + length text) all

-- the text stands in the slice at the place, behind is the place behind it, and all else is as it was
pub record FillsSlice (text : List ℕ) (place : ℕ) (old new : List ℕ) (behind : ℕ) : Type 0 where
  pub room : place + length text ≤ length old
  pub moved : behind ≡ place + length text
  pub written : new ≡ spliced place text old

-- A text for which there is room in a slice is written: the call is not refused, and what the slice
-- holds then, as a sink, says how it is filled, and that it is the same slice.
pub record WhatFitsIsWritten : Type 0 where
  pub succeeds : (text old : List ℕ) (name place : ℕ) (now : Held)
      (r : Result (Unit {0}) EncodeError) → place + length text ≤ length old
      → Writes text (in_slice name old place) now r → r ≡ Ok tt
  pub fills : (text old new : List ℕ) (name same place behind : ℕ)
      → place + length text ≤ length old → behind ≤ length new
      → in_slice same new behind ≡ followed_by (in_slice name old place) text
      → FillsSlice text place old new behind
  pub same_slice : (text old new : List ℕ) (name same place behind : ℕ)
      → in_slice same new behind ≡ followed_by (in_slice name old place) text → same ≡ name

-- A put into a slice fills it. Where it is refused there is no room for the text, and a slice that
-- holds what was held is as it was. It is the same slice always.
pub record PutFillsSlice : Type 0 where
  pub fills : (text old new : List ℕ) (name same place behind : ℕ) (done : Unit {0})
      → place ≤ length old → behind ≤ length new
      → Puts text (in_slice name old place) (in_slice same new behind) (Ok done)
      → FillsSlice text place old new behind × (same ≡ name)
  pub lacks : (text old : List ℕ) (name place : ℕ) (now : Held) (e : EncodeError)
      → place ≤ length old → Puts text (in_slice name old place) now (Err e)
      → length old < place + length text
  pub stays : (old new : List ℕ) (name same place behind : ℕ)
      → in_slice same new behind ≡ in_slice name old place → (new ≡ old) × (same ≡ name)

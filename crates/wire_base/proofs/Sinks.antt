-- Writes, one after another.
use Rattle.std.proofs.Common.{◌≡◌, ◌≢◌, ℕ, ◌+◌, ◌≤◌, List, [], ◌∷◌, ◌++◌, length, Option, Some, None, Result, Ok, Err, refl, sym, ap, subst, ◌∙◌, append_assoc, arith}
use Rattle.std.specs.Prelude.{OnOk, IfErr}
use Rattle.std.proofs.lemmas.List.{append-nil, drop-drop, length-append}
use Rattle.wire_base.specs.declared.error.EncodeError.{EncodeError}
use Rattle.wire_base.specs.declared.error.EncodeError.TheVariants.{MessageTooLarge, ExceedsBudget, OutOfMemory, LengthOverflow}
use Rattle.wire_base.specs.WriteLaws.{TwoParts, PutIsWrite, PieceByPiece}
use Rattle.wire_base.specs.Sink.{Held, Lent, filled, followed_by, in_memory, IsBeyond, Grows, PutAnswers, WriteAnswers, KeepsFront, Writes, IsWrittenTo}

IsBeyond-more : (bound : Option ℕ) (m n : ℕ) → m ≤ n → IsBeyond bound m → IsBeyond bound n
IsBeyond-more None m n le h = h
IsBeyond-more (Some most) m n le h = omega arith

-- ---- what a sink holds

filled_twice : (m n : ℕ) (lent : Option Lent) → filled n (filled m lent) ≡ filled (m + n) lent
filled_twice m n None = refl
filled_twice m n (Some slice) =
    ap (λ (rest : List ℕ). Some (record { name = slice.name; rest = rest }))
    (drop-drop n m slice.rest)

filled_by_none : (lent : Option Lent) → lent ≡ filled 0 lent
filled_by_none None = refl
filled_by_none (Some slice) = refl

pub followed_by_two : (held : Held) (first second : List ℕ)
    → followed_by (followed_by held first) second ≡ followed_by held (first ++ second)
followed_by_two held first second =
    ap (λ (t : List ℕ). record {
      bytes = t;
      most = held.most;
      lent = filled (length second) (filled (length first) held.lent);
    }) (append_assoc held.bytes first second)
    ∙ ap (λ (l : Option Lent). record {
      bytes = held.bytes ++ (first ++ second);
      most = held.most;
      lent = l;
    }) (filled_twice (length first) (length second) held.lent
    ∙ ap (λ (n : ℕ). filled n held.lent) (sym (length-append first second)))

pub followed_by_none : (held : Held) → held ≡ followed_by held []
followed_by_none held =
    ap (λ (t : List ℕ). record { bytes = t; most = held.most; lent = held.lent })
    (sym (append-nil held.bytes))
    ∙ ap (λ (l : Option Lent). record { bytes = held.bytes ++ []; most = held.most; lent = l })
    (filled_by_none held.lent)

-- a sink that grows goes on growing, and no other one begins
grew : (n : ℕ) (lent : Option Lent) → Grows (filled n lent) → Grows lent
grew n None h = h
grew n (Some slice) h = h

-- ---- two parts

-- a front of the first part is one of the whole
pub front_of_first : (old : Held) (first second : List ℕ) (new : Held) → KeepsFront old first new
    → KeepsFront old (first ++ second) new
front_of_first old first second new k = record {
  front = k.front;
  rest = k.rest ++ second;
  parts = ap (λ (t : List ℕ). t ++ second) k.parts ∙ append_assoc k.front k.rest second;
  held = k.held;
}

-- a front of the second part, with the first
pub front_behind : (old : Held) (first second : List ℕ) (new : Held)
    → KeepsFront (followed_by old first) second new → KeepsFront old (first ++ second) new
front_behind old first second new k = record {
  front = first ++ k.front;
  rest = k.rest;
  parts = ap (λ (t : List ℕ). first ++ t) k.parts ∙ sym (append_assoc first k.front k.rest);
  held = k.held ∙ followed_by_two old first k.front;
}

-- why a write within a longer one is refused
refused_within : (bound : Option ℕ) (now piece old text : List ℕ) (e : EncodeError)
    → length now + length piece ≤ length old + length text → WriteAnswers bound now piece (Err e)
    → WriteAnswers bound old text (Err e)
refused_within bound now piece old text MessageTooLarge le h = h
refused_within bound now piece old text (ExceedsBudget len max_bytes) le h = h
refused_within bound now piece old text OutOfMemory le h = tt
refused_within bound now piece old text LengthOverflow le h =
    IsBeyond-more bound (length now + length piece) (length old + length text) le h

refused : (first second : List ℕ) (old new : Held) (e : EncodeError)
    → Writes first old new (Err e) → Writes (first ++ second) old new (Err e)
refused first second old new e w = record {
  ok = tt;
  err = front_of_first old first second new w.err;
  cause = refused_within old.most old.bytes first old.bytes (first ++ second) e
      (omega (arith, length-append first second)) w.cause;
  memory = w.memory;
}

cause_behind : (bound : Option ℕ) (old first second : List ℕ) (done : Unit {0})
    (r : Result (Unit {0}) EncodeError) → WriteAnswers bound old first (Ok done)
    → WriteAnswers bound (old ++ first) second r → WriteAnswers bound old (first ++ second) r
cause_behind bound old first second done (Err e) before h =
    refused_within bound (old ++ first) second old (first ++ second) e
    (omega (arith, length-append old first, length-append first second)) h
cause_behind bound old first [] done (Ok u) before h =
    subst (λ (t : List ℕ). t ≢ [] → ¬ IsBeyond bound (length old + length t))
    (sym (append-nil first)) before
cause_behind bound old first (b ∷ second) done (Ok u) before h =
    λ some beyond. h (λ e. absurd cc)
    (IsBeyond-more bound (length old + length (first ++ b ∷ second))
    (length (old ++ first) + length (b ∷ second))
    (omega (arith, length-append old first, length-append first (b ∷ second))) beyond)

memory_behind : (n : ℕ) (lent : Option Lent) (r : Result (Unit {0}) EncodeError)
    → IfErr r (λ e. e ≡ OutOfMemory → Grows (filled n lent))
    → IfErr r (λ e. e ≡ OutOfMemory → Grows lent)
memory_behind n lent (Ok u) h = tt
memory_behind n lent (Err e) h = λ is. grew n lent (h is)

-- the first part stands, and the second is written
behind_first : (first second : List ℕ) (old new : Held) (done : Unit {0})
    (r : Result (Unit {0}) EncodeError) → WriteAnswers old.most old.bytes first (Ok done)
    → Writes second (followed_by old first) new r → Writes (first ++ second) old new r
behind_first first second old new done (Ok u) before w = record {
  ok = w.ok ∙ followed_by_two old first second;
  err = tt;
  cause = cause_behind old.most old.bytes first second done (Ok u) before w.cause;
  memory = tt;
}
behind_first first second old new done (Err e) before w = record {
  ok = tt;
  err = front_behind old first second new w.err;
  cause = cause_behind old.most old.bytes first second done (Err e) before w.cause;
  memory = memory_behind (length first) old.lent (Err e) w.memory;
}

behind : (first second : List ℕ) (old mid new : Held) (done : Unit {0})
    (r : Result (Unit {0}) EncodeError) → Writes first old mid (Ok done) → Writes second mid new r
    → Writes (first ++ second) old new r
behind first second old mid new done r before w =
    behind_first first second old new done r before.cause
    (subst (λ (m : Held). Writes second m new r) before.ok w)

pub two_parts : TwoParts
two_parts =
    record {
      joined = λ first second held. followed_by_two held first second;
      refused = refused;
      behind = behind;
    }

-- ---- puts

put_refused : (bound : Option ℕ) (old text : List ℕ) (e : EncodeError)
    → PutAnswers bound (length old + length text) (Err e) → WriteAnswers bound old text (Err e)
put_refused bound old text MessageTooLarge h = h
put_refused bound old text (ExceedsBudget len max_bytes) h = h
put_refused bound old text OutOfMemory h = tt
put_refused bound old text LengthOverflow h = h

pub put_is_a_write : PutIsWrite
put_is_a_write text old new (Ok u) put =
    record { ok = put.ok; err = tt; cause = λ some. put.cause; memory = tt }
put_is_a_write text old new (Err e) put = record {
  ok = tt;
  err = record {
    front = [];
    rest = text;
    parts = refl;
    held = put.err ∙ followed_by_none old;
  };
  cause = put_refused old.most old.bytes text e put.cause;
  memory = put.memory;
}

-- ---- piece by piece

pub start : (whole : List ℕ) (old : Held) → IsWrittenTo whole old old whole
start whole old = record {
  front = [];
  parts = refl;
  written = record {
    ok = followed_by_none old;
    err = tt;
    cause = λ some. absurd (some refl);
    memory = tt;
  };
}

module _ (whole : List ℕ) (old now : Held) where
  pub more : (next : Held) (left piece after : List ℕ) (done : Unit {0})
      → IsWrittenTo whole old now left → left ≡ piece ++ after → Writes piece now next (Ok done)
      → IsWrittenTo whole old next after
  more next left piece after done w is put = record {
    front = w.front ++ piece;
    parts = w.parts ∙ ap (λ (t : List ℕ). w.front ++ t) is ∙ sym (append_assoc w.front piece after);
    written = behind w.front piece old now next tt (Ok tt) w.written
        (record { ok = put.ok; err = tt; cause = put.cause; memory = tt });
  }

  pub last : (new : Held) (left : List ℕ) (r : Result (Unit {0}) EncodeError)
      → IsWrittenTo whole old now left → Writes left now new r → Writes whole old new r
  last new left r w put = subst (λ (t : List ℕ). Writes t old new r) (sym w.parts)
      (behind w.front left old now new tt r w.written put)

  pub breaks : (new : Held) (left piece after : List ℕ) (e : EncodeError)
      → IsWrittenTo whole old now left → left ≡ piece ++ after → Writes piece now new (Err e)
      → Writes whole old new (Err e)
  breaks new left piece after e w is put = last new left (Err e) w
      (subst (λ (t : List ℕ). Writes t now new (Err e)) (sym is)
      (refused piece after now new e put))

pub all_written : (whole : List ℕ) (old now : Held) → IsWrittenTo whole old now []
    → Writes whole old now (Ok tt)
all_written whole old now w =
    subst (λ (t : List ℕ). Writes t old now (Ok tt)) (sym (w.parts ∙ append-nil w.front)) w.written

pub piece_by_piece : PieceByPiece
piece_by_piece = record {
  start = start;
  more = more;
  refused = breaks;
  last = last;
  done = all_written;
}

-- the bytes that a write leaves
pub bytes_written : (text : List ℕ) (old new : Held) (r : Result (Unit {0}) EncodeError)
    → Writes text old new r → OnOk r (new.bytes ≡ old.bytes ++ text)
bytes_written text old new (Ok u) w = ap (λ (held : Held). held.bytes) w.ok
bytes_written text old new (Err e) w = tt

-- ---- a vector

-- nothing of the second part was written to a vector
pub only_first : (first second old new : List ℕ) → new ≡ old ++ first
    → KeepsFront (in_memory old) (first ++ second) (in_memory new)
only_first first second old new is =
    record { front = first; rest = second; parts = refl; held = ap in_memory is }

-- a write of a vector that grows, by its bytes
pub in_vector : (text old new : List ℕ) (done : Unit {0}) → new ≡ old ++ text
    → Writes text (in_memory old) (in_memory new) (Ok done)
in_vector text old new done is =
    record { ok = ap in_memory is; err = tt; cause = λ some beyond. beyond; memory = tt }

-- What is left of segments, once some bytes are read.
use Rattle.std.proofs.Common.{◌≡◌, ℕ, ◌+◌, ◌-◌, ◌<◌, ◌≤◌, List, [], ◌∷◌, ◌++◌, length, drop, get_or, set, ap, sym, refl, ◌∙◌, ⊎_elim, arith, length-append, length-drop}
use Rattle.std.proofs.lemmas.Bool.{cases_lt, lt-ltb, le-ltb}
use Rattle.std.proofs.lemmas.List.{drop-append-le}
use Rattle.std.proofs.lemmas.List.Elements.{All-head, All-tail, All-cons, All-same}
use Rattle.std.proofs.Math.Seq.{drop-nil, drop-append-add}
use Rattle.std.specs.List.{concat}
use Rattle.wire_base.specs.Rope.{AllFilled, left_segments}

-- the last byte read lies within the first segment, before its end
pub left_segments-within : (n : ℕ) (s : List ℕ) (segments : List (List ℕ)) → n < length s
    → left_segments n (s ∷ segments) ≡ drop n s ∷ segments
left_segments-within n s segments within = rw (lt-ltb n (length s) within)

-- all of the first segment is read
pub left_segments-past : (n : ℕ) (s : List ℕ) (segments : List (List ℕ)) → length s ≤ n
    → left_segments n (s ∷ segments) ≡ left_segments (n - length s) segments
left_segments-past n s segments past = rw (le-ltb n (length s) past)

-- a drop past the end of the first list is one of the second
drop-append_past : (n : ℕ) (xs ys : List ℕ) → length xs ≤ n
    → drop n (xs ++ ys) ≡ drop (n - length xs) ys
drop-append_past n xs ys past =
    let is : n ≡ length xs + (n - length xs) = omega arith in
    ap (λ m. drop m (xs ++ ys)) is ∙ drop-append-add xs ys (n - length xs)

-- the bytes that are left are all but the first n
pub concat-left_segments : (n : ℕ) (segments : List (List ℕ))
    → concat (left_segments n segments) ≡ drop n (concat segments)
concat-left_segments n [] = sym (drop-nil n)
concat-left_segments n (s ∷ segments) =
    ⊎_elim
    (λ within. ap concat (left_segments-within n s segments within)
    ∙ sym (drop-append-le n s (concat segments) (omega arith)))
    (λ past. ap concat (left_segments-past n s segments past)
    ∙ concat-left_segments (n - length s) segments
    ∙ sym (drop-append_past n s (concat segments) past))
    (cases_lt n (length s))

-- each segment that is left has a byte
pub AllFilled-left_segments : (n : ℕ) (segments : List (List ℕ)) → AllFilled segments
    → AllFilled (left_segments n segments)
AllFilled-left_segments n [] filled = filled
AllFilled-left_segments n (s ∷ segments) filled =
    ⊎_elim
    (λ within. rw (left_segments-within n s segments within)
    (All-cons (λ t. 0 < length t) (drop n s) segments (omega (arith, length-drop n s))
    (All-tail (λ t. 0 < length t) s segments filled)))
    (λ past. rw (left_segments-past n s segments past)
    (AllFilled-left_segments (n - length s) segments
    (All-tail (λ t. 0 < length t) s segments filled)))
    (cases_lt n (length s))

-- where no byte is read all segments are left
pub left_segments-none : (segments : List (List ℕ)) → AllFilled segments
    → left_segments 0 segments ≡ segments
left_segments-none [] filled = refl
left_segments-none (s ∷ segments) filled =
    left_segments-within 0 s segments (All-head (λ t. 0 < length t) s segments filled)

-- a list whose first element was looked at, and is as it was, and the others
pub first_looked_at : {T : Type 0} (xs : List T) (x : T) → 0 < length xs → x ≡ get_or xs 0 x
    → xs ≡ x ∷ drop 1 (set xs 0 x)
first_looked_at [] x some is = absurd (omega (arith, some))
first_looked_at (y ∷ xs) x some is = ap (λ z. z ∷ xs) (sym is)

-- what holds between the steps that read `all` bytes of old: so many are left to read, of the
-- segments now
pub record LeftToDrop (old : List (List ℕ)) (all left : ℕ) (now : List (List ℕ)) : Type 0 where
  pub some : left ≤ length (concat now)
  pub filled : AllFilled now
  pub same : left_segments left now ≡ left_segments all old

-- a step that reads the first segment to its end
pub LeftToDrop-past : (old : List (List ℕ)) (all left len next : ℕ) (now after : List (List ℕ))
    (s : List ℕ) → LeftToDrop old all left now → now ≡ s ∷ after → len ≡ length s → len ≤ left
    → next ≡ left - len
    → LeftToDrop old all next after
LeftToDrop-past old all left len next now after s w is size past step = record {
  some = omega (arith, w.some, ap (λ l. length (concat l)) is ∙ length-append s (concat after));
  filled = All-tail (λ t. 0 < length t) s after
      (All-same (λ t. 0 < length t) (s ∷ after) now (sym is) w.filled);
  same =
      ap (λ n. left_segments n after) (omega arith)
      ∙ sym (left_segments-past left s after (omega arith))
      ∙ ap (left_segments left) (sym is)
      ∙ w.same;
}

-- no byte is left to read
pub LeftToDrop-none : (old : List (List ℕ)) (all left : ℕ) (now : List (List ℕ))
    → LeftToDrop old all left now → left ≤ 0 → now ≡ left_segments all old
LeftToDrop-none old all left now w none =
    sym (left_segments-none now w.filled) ∙ ap (λ n. left_segments n now) (omega arith) ∙ w.same

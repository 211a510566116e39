-- One event more in a room.
use Rattle.std.proofs.Common.{◌≡◌, ℕ, ◌+◌, ◌-◌, ◌<◌, ◌≤◌, List, [], ◌∷◌, ◌++◌, length, length-append, append_assoc, drop, refl, sym, ap, subst, ◌∙◌, arith}
use Rattle.std.proofs.lemmas.List.{set-append_right, drop-set, drop-set-add}
use Rattle.std.proofs.Math.ListN.{set}
use Rattle.wire_read.specs.declared.event.Event.{Event}
use Rattle.wire_read.specs.Reading.{At, Gives}
use Rattle.wire_page.specs.declared.record.Record.{Record}
use Rattle.wire_page.specs.Batch.{Fills, Tells}
use Rattle.wire_page.specs.Told.{page_record}

tells-more : (all : List ℕ) (told : List Record) (s t u : At) (e : Event)
    → Tells all told s t → Gives e all t u → Tells all (told ++ page_record e ∷ []) s u
tells-more all [] s t u e none given =
    (e, u, subst (λ a. Gives e all a u) (sym none) given, refl, refl)
tells-more all (r ∷ told) s t u e (f, m, first, is, more) given =
    (f, m, first, is, tells-more all told m t u e more given)

-- a store at the front of what is left of a list
front : (l : List Record) (i : ℕ) (x : Record) → i < length l
    → set (drop i l) (i - i) x ≡ x ∷ drop (i + 1) l
front l i x room =
    ap (λ k. set (drop i l) k x) (omega arith)
    ∙ sym (drop-set-add i l 0 x)
    ∙ ap (λ k. drop i (set l k x)) (omega arith)
    ∙ drop-set l i x room

pub fills-more : (all : List ℕ) (s t u : At) (old mid new : List Record) (count : ℕ) (e : Event)
    → count < length old → Fills all s t old mid count → Gives e all t u
    → new ≡ set mid count (page_record e) → Fills all s u old new (count + 1)
fills-more all s t u old mid new count e room so_far given is =
    let x = page_record e in
    let told = so_far.told in
    record {
      told = told ++ x ∷ [];
      tells = tells-more all told s t u e so_far.tells given;
      many = omega (arith, length-append told (x ∷ []), so_far.many);
      written = is ∙ ap (λ (l : List Record). set l count x) so_far.written
          ∙ set-append_right told (drop count old) count count x so_far.many (omega arith)
          ∙ ap (λ (l : List Record). told ++ l) (front old count x room)
          ∙ sym (append_assoc told (x ∷ []) (drop (count + 1) old));
    }

-- a room with no place left has as many events as it has places
pub all-filled : (all : List ℕ) (s t : At) (old new : List Record) (count : ℕ)
    → Fills all s t old new count → length new ≡ length old → length new ≤ count
    → count ≡ length old
all-filled all s t old new count f same none =
    omega (arith, ap length f.written, length-append f.told (drop count old), f.many, same, none)

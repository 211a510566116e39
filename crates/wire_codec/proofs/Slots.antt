-- Slots of which sixteen are inside, and the others behind them.
use Rattle.std.proofs.Common.{◌≡◌, ℕ, ◌+◌, ◌-◌, ◌<◌, ◌≤◌, List, ◌∷◌, ◌++◌, length, take, drop}
use Rattle.std.proofs.Common.{get_or, add-one, arith, sym}
use Rattle.std.proofs.lemmas.List.{length-append, length-take, set-append_left}
use Rattle.std.proofs.lemmas.List.{set-append_right, get_or-append_right, get_or-take}
use Rattle.std.proofs.Math.ListN.{set, get_or-append}
use Rattle.std.proofs.Math.Seq.{take-set-lt, drop-cons}

-- how many slots there are
pub length-slots : (inside behind : List ℕ) (slots : ℕ) → length inside ≡ 16
    → length behind ≡ slots - 16 → length (take slots inside ++ behind) ≡ slots
length-slots inside behind slots p q =
    omega (arith, length-append (take slots inside) behind, length-take slots inside)

-- a slot inside is written
pub set-inside : (inside behind : List ℕ) (slots i x : ℕ) → length inside ≡ 16 → i < slots → i < 16
    → take slots (set inside i x) ++ behind ≡ set (take slots inside ++ behind) i x
set-inside inside behind slots i x p q r =
    let k : i < length (take slots inside) = omega (arith, length-take slots inside) in
    rw (take-set-lt slots inside i x q, set-append_left (take slots inside) behind i x k)

-- a slot behind is written
pub set-behind : (inside behind : List ℕ) (slots i x : ℕ) → length inside ≡ 16 → i < slots → 16 ≤ i
    → take slots inside ++ set behind (i - 16) x ≡ set (take slots inside ++ behind) i x
set-behind inside behind slots i x p q r =
    let k : length (take slots inside) ≡ 16 = omega (arith, length-take slots inside) in
    sym (set-append_right (take slots inside) behind 16 i x k r)

-- a slot inside is the next to be read
pub next-inside : (inside behind : List ℕ) (slots i d x : ℕ) → length inside ≡ 16
    → length behind ≡ slots - 16 → i < slots → i < 16 → x ≡ get_or inside i d
    → drop i (take slots inside ++ behind) ≡ x ∷ drop (i + 1) (take slots inside ++ behind)
next-inside inside behind slots i d x p q r s read =
    let n : i < length (take slots inside ++ behind) =
    rw (length-slots inside behind slots p q) r in
    let k : i < length (take slots inside) = omega (arith, length-take slots inside) in
    let e = drop-cons (take slots inside ++ behind) i d n in
    let f = get_or-append (take slots inside) behind d i k in
    rw (add-one, e, f, get_or-take slots inside i d r, read)

-- a slot behind is the next to be read
pub next-behind : (inside behind : List ℕ) (slots i d x : ℕ) → length inside ≡ 16
    → length behind ≡ slots - 16 → i < slots → 16 ≤ i → x ≡ get_or behind (i - 16) d
    → drop i (take slots inside ++ behind) ≡ x ∷ drop (i + 1) (take slots inside ++ behind)
next-behind inside behind slots i d x p q r s read =
    let n : i < length (take slots inside ++ behind) =
    rw (length-slots inside behind slots p q) r in
    let k : length (take slots inside) ≡ 16 = omega (arith, length-take slots inside) in
    let e = drop-cons (take slots inside ++ behind) i d n in
    let f = get_or-append_right (take slots inside) behind 16 i d k s in
    rw (add-one, e, f, read)

-- how many slots there are, and what a write does to them
pub ruleset slot_laws = (length-slots, set-inside, set-behind)

-- Bytes in segments, and a tail that grows.
use Rattle.std.specs.Prelude.{ℕ, ◌-◌, ◌<◌, nat_lt, if◌then◌else◌, refl, List, [], ◌∷◌, ◌++◌, length, drop, All}
use Rattle.std.specs.List.{concat}
use Rattle.std.specs.Coded.{Coded, code_by, coded×, coded_list, coded_ℕ}

-- what a rope has: its finished segments, the tail behind them, and how many bytes a shared run has
-- at least that becomes a segment of its own
pub record RopeParts : Type 0 where
  pub segments : List (List ℕ)
  pub tail : List ℕ
  pub min_segment : ℕ

-- it is stored as the tuple of its fields
abbrev pub rope_code : Coded RopeParts
rope_code =
    code_by (List (List ℕ)
    × (List ℕ
    × ℕ)) (coded× (coded_list (coded_list coded_ℕ)) (coded× (coded_list coded_ℕ) coded_ℕ))
    (λ r. (r.segments, (r.tail, r.min_segment)))
    (λ p. record { segments = p.0; tail = p.1.0; min_segment = p.1.1 }) (λ _. refl)

-- each segment has a byte
abbrev pub AllFilled : List (List ℕ) → Type 0
AllFilled segments = All (λ s. 0 < length s) segments

-- a tail as segments: none where it has no byte
abbrev pub tail_segments : List ℕ → List (List ℕ)
tail_segments [] = []
tail_segments (b ∷ bytes) = (b ∷ bytes) ∷ []

-- all the segments of a rope, its tail the last
abbrev pub all_segments : RopeParts → List (List ℕ)
all_segments r = r.segments ++ tail_segments r.tail

-- all the bytes of a rope
abbrev pub rope_bytes : RopeParts → List ℕ
rope_bytes r = concat r.segments ++ r.tail

-- a rope of no bytes
abbrev pub empty_rope : ℕ → RopeParts
empty_rope min_segment = record { segments = []; tail = []; min_segment = min_segment }

-- bytes behind the tail
abbrev pub with_bytes : RopeParts → List ℕ → RopeParts
with_bytes r bytes =
    record { segments = r.segments; tail = r.tail ++ bytes; min_segment = r.min_segment }

-- a segment of its own behind all others
abbrev pub with_segment : RopeParts → List ℕ → RopeParts
with_segment r bytes =
    record { segments = all_segments r ++ bytes ∷ []; tail = []; min_segment = r.min_segment }

-- a shared run is a segment of its own where it is long enough, and goes behind the tail otherwise
abbrev pub with_shared : RopeParts → List ℕ → RopeParts
with_shared r bytes =
    if nat_lt (length bytes) r.min_segment then with_bytes r bytes else with_segment r bytes

-- the bytes of the first segment
abbrev pub first_segment : List (List ℕ) → List ℕ
first_segment [] = []
first_segment (s ∷ segments) = s

-- the segments that are left once n bytes are read: what is left of the one that the last of them
-- lies in, and those behind it as they are
abbrev pub left_segments : ℕ → List (List ℕ) → List (List ℕ)
left_segments n [] = []
left_segments n (s ∷ segments) =
    if nat_lt n (length s) then drop n s ∷ segments else left_segments (n - length s) segments

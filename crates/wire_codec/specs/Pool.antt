-- A pool of memory for size caches.
use Rattle.std.specs.Prelude.{◌≡◌, ℕ, ◌<◌, ◌≤◌, List, [], length, All, refl}
use Rattle.std.specs.Coded.{Coded, code_by, coded×, coded_list, coded_ℕ}

-- how many sizes each of the kept buffers has room for, and the pool's limits on these
pub record PoolState : Type 0 where
  pub capacities : List ℕ
  pub max_buffers : ℕ
  pub max_capacity : ℕ

-- it is stored as the tuple of its fields
abbrev pub pool_code : Coded PoolState
pool_code =
    code_by (List ℕ × (ℕ × ℕ)) (coded× (coded_list coded_ℕ) (coded× coded_ℕ coded_ℕ))
    (λ s. (s.capacities, (s.max_buffers, s.max_capacity)))
    (λ p. record { capacities = p.0; max_buffers = p.1.0; max_capacity = p.1.1 }) (λ _. refl)

-- no buffers, under these limits
abbrev pub empty_pool : ℕ → ℕ → PoolState
empty_pool max_buffers max_capacity =
    record { capacities = []; max_buffers = max_buffers; max_capacity = max_capacity }

-- no more buffers than the limit, and each has room, but for no more sizes than the limit
pub record IsWithinLimits (s : PoolState) : Type 0 where
  pub buffers : length s.capacities ≤ s.max_buffers
  pub each : All (λ capacity. (0 < capacity) × (capacity ≤ s.max_capacity)) s.capacities

-- the same pool with other buffers, within its limits
pub record KeepsLimits (old new : PoolState) : Type 0 where
  pub max_buffers : new.max_buffers ≡ old.max_buffers
  pub max_capacity : new.max_capacity ≡ old.max_capacity
  pub within : IsWithinLimits new

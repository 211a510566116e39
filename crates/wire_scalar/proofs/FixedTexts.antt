-- Numbers of four or eight bytes, read from what is written.
use Rattle.std.proofs.Common.{◌≡◌, ℕ, ◌^◌, ◌<◌, List, ◌++◌, refl, sym, arith}
use Rattle.std.proofs.lemmas.Nat.{from_le_bytes-to_le_bytes_4, from_le_bytes-to_le_bytes_8}
use Rattle.std.specs.Int.{w32, w64, to_le_bytes}
use Rattle.std.specs.Prelude.{ℤ, pos, negsuc, FitsSigned}
use Rattle.wire_base.specs.Fixed.{IsFixed}
use Rattle.wire_scalar.specs.Reading.{ReadsValue}
use Rattle.wire_scalar.specs.ValueMap.{ValueMap, wrapped}

pub wrapped-below_32 : (v : ℤ) → FitsSigned w32 v → wrapped 32 v < 2 ^ 32
wrapped-below_32 (pos n) h = omega (arith, h)
wrapped-below_32 (negsuc n) h = omega arith

pub wrapped-below_64 : (v : ℤ) → FitsSigned w64 v → wrapped 64 v < 2 ^ 64
wrapped-below_64 (pos n) h = omega (arith, h)
wrapped-below_64 (negsuc n) h = omega arith

module _ {T : Type 0} (map : ValueMap T) (value : T) (rest : List ℕ)
    (back : map.dec (map.enc value) ≡ value) where
  pub four_bytes : map.enc value < 2 ^ 32
      → ReadsValue (IsFixed w32) map (to_le_bytes w32 (map.enc value) ++ rest) value rest
  four_bytes below = record {
    number = map.enc value;
    read = record {
      text = to_le_bytes w32 (map.enc value);
      parts = refl;
      spelled =
          (refl, from_le_bytes-to_le_bytes_4 (map.enc value) below);
    };
    is = sym back;
  }

  pub eight_bytes : map.enc value < 2 ^ 64
      → ReadsValue (IsFixed w64) map (to_le_bytes w64 (map.enc value) ++ rest) value rest
  eight_bytes below = record {
    number = map.enc value;
    read = record {
      text = to_le_bytes w64 (map.enc value);
      parts = refl;
      spelled =
          (refl, from_le_bytes-to_le_bytes_8 (map.enc value) below);
    };
    is = sym back;
  }

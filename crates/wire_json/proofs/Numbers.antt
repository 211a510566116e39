-- Numbers, part by part.
use Rattle.std.proofs.Common.{◌≡◌, List, ℕ, Ok, Err}
use Rattle.wire_json.specs.Bytes.{◌>>=◌, past_one, is_byte}
use Rattle.wire_json.specs.Number.{integer_end, fraction_end, exponent_end, apart, number_end}
use Rattle.wire_json.proofs.Steps.{bind_err}

module _ (old m : List ℕ) (minus : m ≡ past_one (is_byte 45) old) where
  pub integer_fault : (left : List ℕ) → integer_end m ≡ Err left → number_end old ≡ Err left
  integer_fault left h =
      rw (← minus) (bind_err (integer_end m >>= fraction_end >>= exponent_end) apart left
      (bind_err (integer_end m >>= fraction_end) exponent_end left
      (bind_err (integer_end m) fraction_end left h)))

  module _ (i : List ℕ) (integer : integer_end m ≡ Ok i) where
    pub fraction_fault : (left : List ℕ) → fraction_end i ≡ Err left → number_end old ≡ Err left
    fraction_fault left h =
        rw (← minus, integer) (bind_err (fraction_end i >>= exponent_end) apart left
        (bind_err (fraction_end i) exponent_end left h))

    module _ (f : List ℕ) (fraction : fraction_end i ≡ Ok f) where
      pub exponent_fault : (left : List ℕ) → exponent_end f ≡ Err left
          → number_end old ≡ Err left
      exponent_fault left h =
          rw (← minus, integer, fraction) (bind_err (exponent_end f) apart left h)

      pub number_parts : (e : List ℕ) → exponent_end f ≡ Ok e → number_end old ≡ apart e
      number_parts e h = rw (← minus, integer, fraction, h)

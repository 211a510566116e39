-- What a table has at a key that is another's.
use Rattle.std.specs.Prelude.{◌≡◌, ℕ, ℤ, pos, Bool, true, false, ◌&&◌, nat_eq, List, Option, None, Some, IsSome, String}
use Rattle.std.specs.declared.alloc.Global.{Global}
use Rattle.std.specs.BTreeMap.{BTreeMap, get_by_text}
use Rattle.std.specs.Option.{is_some}
use Rattle.std.specs.Ordering.{int_eq, is_eq}
use Rattle.std.specs.Str.{bytes_eq}
use Rattle.std.proofs.Common.{ap, sym, subst, rules, arith, ◌∙◌, of_z, w32}
use Rattle.std.proofs.lemmas.Bool.{false_from_ne_true}
use Rattle.std.proofs.lemmas.Bool.Decides.{nat_tests, Decides-int_eq}
use Rattle.std.proofs.lemmas.Slice.Eq.{bytes_eq-Decides}
use Rattle.wire_dynamic.specs.Extensions.{place_cmp}

-- nothing was found where the answer says so
pub none_found : {X : Type 0} (o p : Option X) (b : Bool) → o ≡ p → b ≡ is_some o → b ≡ false
    → p ≡ None
none_found None p b same is not_there = sym same
none_found (Some x) p b same is not_there =
    let wrong = sym is ∙ not_there in absurd (search (rules, wrong))

module _ {X : Type 0} (m : BTreeMap (String Global) X) (name q : List ℕ) where
  pub absent_text : get_by_text m name ≡ None → bytes_eq q name ≡ true → get_by_text m q ≡ None
  absent_text none e =
      subst (λ t. get_by_text m t ≡ None) (sym ((bytes_eq-Decides q name).0 e)) none

  pub present_text : IsSome (get_by_text m name) → bytes_eq q name ≡ true
      → IsSome (get_by_text m q)
  present_text some e =
      subst (λ t. IsSome (get_by_text m t)) (sym ((bytes_eq-Decides q name).0 e)) some

-- a signed number that is not this one
pub not_number : (x : ℤ) (n : ℕ) → (of_z w32 x ≡ n → ⊥) → int_eq x (pos n) ≡ false
not_number x n differs =
    false_from_ne_true _ (λ e. differs (ap (of_z w32) ((Decides-int_eq x (pos n)).0 e)))

-- the order of places and numbers tells which are the same
pub same_place : (p n : ℕ) (at : ℕ × ℕ)
    → is_eq (place_cmp (p, n) at) ≡ (nat_eq at.0 p && nat_eq n at.1)
same_place p n at = grind (arith, nat_tests)

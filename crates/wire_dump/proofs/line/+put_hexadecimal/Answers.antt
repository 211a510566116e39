use Rattle.std.proofs.Common.{◌≡◌, ◌≢◌, ℕ, zero, suc, ◌-◌, ◌/◌, ◌%◌, ◌≤◌, List, [], ◌∷◌, ◌++◌, refl, ap, ◌∙◌, append_assoc, sym, Result, OnOk, arith, rules}
use Rattle.std.proofs.lemmas.Result.{on_ok_weaker}
use Rattle.std.specs.declared.alloc.AllocError.{AllocError}
use Rattle.wire_dump.specs.Lines.{hexadecimal, hexadecimal_digit}
use Rattle.wire_dump.proofs.line.+put_hexadecimal.Goals as goal

last_digit : (width v : ℕ) (out mid new : List ℕ) (d : ℕ) → width ≢ 0
    → mid ≡ out ++ hexadecimal (width - 1) (v / 16) → d ≡ hexadecimal_digit (v % 16)
    → new ≡ mid ++ d ∷ [] → new ≡ out ++ hexadecimal width v
last_digit zero v out mid new d some before digit e = absurd (some refl)
last_digit (suc width) v out mid new d some before digit e =
    let less : suc width - 1 ≡ width = omega arith in
    e ∙ ap (λ (l : List ℕ). l ++ d ∷ []) before
    ∙ append_assoc out (hexadecimal (suc width - 1) (v / 16)) (d ∷ [])
    ∙ ap (λ (k : ℕ). out ++ (hexadecimal k (v / 16) ++ d ∷ [])) less
    ∙ ap (λ (k : ℕ). out ++ (hexadecimal width (v / 16) ++ k ∷ [])) digit

wider : (j k v : ℕ) (out mid : List ℕ) → j ≡ k → mid ≡ out ++ hexadecimal j v
    → mid ≡ out ++ hexadecimal k v
wider j k v out mid same e = e ∙ ap (λ (x : ℕ). out ++ hexadecimal x v) same

-- four digits, one behind the other
last_four : (width v : ℕ) (out mid new : List ℕ) (a b c d : ℕ) → 4 ≤ width
    → mid ≡ out ++ hexadecimal (width - 4) (v / 16 / 16 / 16 / 16)
    → a ≡ hexadecimal_digit (v / 16 / 16 / 16 % 16) → b ≡ hexadecimal_digit (v / 16 / 16 % 16)
    → c ≡ hexadecimal_digit (v / 16 % 16) → d ≡ hexadecimal_digit (v % 16)
    → new ≡ mid ++ a ∷ b ∷ c ∷ d ∷ [] → new ≡ out ++ hexadecimal width v
last_four width v out mid new a b c d wide before first second third fourth e =
    let one_mid = mid ++ a ∷ [] in
    let two_mid = one_mid ++ b ∷ [] in
    let three_mid = two_mid ++ c ∷ [] in
    let one_less : width - 4 ≡ width - 3 - 1 = omega (arith, wide) in
    let two_less : width - 3 ≡ width - 2 - 1 = omega (arith, wide) in
    let three_less : width - 2 ≡ width - 1 - 1 = omega (arith, wide) in
    let one_some : width - 3 ≢ 0 = λ h. omega (arith, h, wide) in
    let two_some : width - 2 ≢ 0 = λ h. omega (arith, h, wide) in
    let three_some : width - 1 ≢ 0 = λ h. omega (arith, h, wide) in
    let some : width ≢ 0 = λ h. omega (arith, h, wide) in
    let one : one_mid ≡ out ++ hexadecimal (width - 3) (v / 16 / 16 / 16) =
    last_digit (width - 3) (v / 16 / 16 / 16) out mid one_mid a one_some
    (wider (width - 4) (width - 3 - 1) (v / 16 / 16 / 16 / 16) out mid one_less before) first
    refl in
    let two : two_mid ≡ out ++ hexadecimal (width - 2) (v / 16 / 16) =
    last_digit (width - 2) (v / 16 / 16) out one_mid two_mid b two_some
    (wider (width - 3) (width - 2 - 1) (v / 16 / 16 / 16) out one_mid two_less one) second refl in
    let three : three_mid ≡ out ++ hexadecimal (width - 1) (v / 16) =
    last_digit (width - 1) (v / 16) out two_mid three_mid c three_some
    (wider (width - 2) (width - 1 - 1) (v / 16 / 16) out two_mid three_less two) third refl in
    let apart : new ≡ three_mid ++ d ∷ [] =
    e ∙ sym (append_assoc two_mid (c ∷ []) (d ∷ []) ∙ append_assoc one_mid (b ∷ []) (c ∷ d ∷ [])
    ∙ append_assoc mid (a ∷ []) (b ∷ c ∷ d ∷ [])) in
    last_digit width v out three_mid new d some three fourth apart

pub returns-then-width-lt4 : goal.returns-then-width-lt4
returns-then-width-lt4 t c =
    last_digit c.args.width c.args.value c.args.out.now.items c.put_hexadecimal.new.out.items
    c.push.new.self.items c.hexadecimal_digit.result (search rules) (search rules) (search rules)
    (search rules)

put_ok : (r : Result (Unit {0}) AllocError) (width v : ℕ) (out mid new : List ℕ) (a b c d : ℕ)
    → 4 ≤ width → mid ≡ out ++ hexadecimal (width - 4) (v / 16 / 16 / 16 / 16)
    → a ≡ hexadecimal_digit (v / 16 / 16 / 16 % 16) → b ≡ hexadecimal_digit (v / 16 / 16 % 16)
    → c ≡ hexadecimal_digit (v / 16 % 16) → d ≡ hexadecimal_digit (v % 16)
    → OnOk r (new ≡ mid ++ a ∷ b ∷ c ∷ d ∷ []) → OnOk r (new ≡ out ++ hexadecimal width v)
put_ok r width v out mid new a b c d wide before first second third fourth =
    on_ok_weaker r
    (last_four width v out mid new a b c d wide before first second third fourth)

pub returns : goal.returns
returns t c =
    let wide : 4 ≤ c.args.width = omega arith in
    let put : OnOk c.extend_from_slice.result (c.extend_from_slice.new.self.items
    ≡ c.put_hexadecimal-2.new.out.items ++ c.hexadecimal_digit-2.result
    ∷ c.hexadecimal_digit-3.result ∷ c.hexadecimal_digit-4.result
    ∷ c.hexadecimal_digit-5.result ∷ []) = search rules in
    put_ok c.extend_from_slice.result c.args.width c.args.value c.args.out.now.items
    c.put_hexadecimal-2.new.out.items c.extend_from_slice.new.self.items
    c.hexadecimal_digit-2.result c.hexadecimal_digit-3.result c.hexadecimal_digit-4.result
    c.hexadecimal_digit-5.result wide (search rules) (search rules) (search rules) (search rules)
    (search rules) put

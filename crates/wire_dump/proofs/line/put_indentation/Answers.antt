use Rattle.std.proofs.Common.{◌≡◌, ℕ, ◌+◌, ◌*◌, ◌-◌, ◌≤◌, List, ◌++◌, length, length-append, replicate, take, ap, ◌∙◌, arith, rules}
use Rattle.std.proofs.Math.Seq.{take-append-add}
use Rattle.std.proofs.lemmas.List.{length-replicate, take-replicate}
use Rattle.wire_dump.specs.Lines.{indented}
use Rattle.wire_dump.proofs.line.put_indentation.Goals as goal

-- of the spaces of 16 levels so many are left
cut : (old mid new : List ℕ) (level n : ℕ) → level ≤ 16 → mid ≡ old ++ replicate 32 32
    → n ≡ length mid - 2 * (16 - level) → new ≡ take n mid → new ≡ old ++ indented level
cut old mid new level n few put cut_at is =
    let spaces : List ℕ = replicate 32 32 in
    let long : length mid ≡ length old + 32 =
    ap length put ∙ length-append old spaces
    ∙ ap (λ (k : ℕ). length old + k) (length-replicate {A = ℕ} 32 32) in
    let at : n ≡ length old + 2 * level = omega (arith, few, long, cut_at) in
    let short : 2 * level ≤ 32 = omega (arith, few) in
    is ∙ ap (λ (k : ℕ). take k mid) at
    ∙ ap (λ (l : List ℕ). take (length old + 2 * level) l) put
    ∙ take-append-add old spaces (2 * level)
    ∙ ap (λ (l : List ℕ). old ++ l) (take-replicate {X = ℕ} (2 * level) 32 32 short)

pub returns : goal.returns
returns c =
    let mid = c.extend_from_slice.new.self.items in
    let few : c.args.level ≤ 16 = search (rules, arith) in
    let put : mid ≡ c.args.out.now.items ++ replicate 32 32 = search rules in
    let n = c.len.result - 2 * (16 - c.args.level) in
    let at : n ≡ length mid - 2 * (16 - c.args.level) = search rules in
    let is : c.truncate.new.self.items ≡ take n mid = search rules in
    cut c.args.out.now.items mid c.truncate.new.self.items c.args.level n few put at is

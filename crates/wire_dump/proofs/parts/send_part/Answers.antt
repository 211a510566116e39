use Rattle.std.proofs.Common.{◌≡◌, List, ℕ, [], sym, subst, rules}
use Rattle.std.specs.Io.KnownBytes.{Appends}
use Rattle.wire_dump.specs.Parts.{InParts}
use Rattle.wire_dump.proofs.Sent.{all_sent}
use Rattle.wire_dump.proofs.parts.send_part.Goals as goal

pub returns : goal.returns
returns g c =
    let before = g.W.Write.contents c.args.sink.now in
    let behind = g.W.Write.contents c.write_all.new.self in
    let old = c.args.out.now.items in
    let gone : Appends before behind old = search rules in
    let none : c.clear.new.self.items ≡ [] = search rules in
    subst (λ (x : List ℕ). InParts before behind x (λ (y : List ℕ). y ≡ old)) (sym none)
    (all_sent before behind old gone)

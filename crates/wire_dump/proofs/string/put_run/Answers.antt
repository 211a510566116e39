use Rattle.std.proofs.Common.{◌≡◌, ◌∷◌, ◌++◌, ◌∙◌, sym, ap, take, drop, List, ℕ, rules}
use Rattle.std.proofs.lemmas.List.{take-append-drop}
use Rattle.wire_dump.specs.Lines.{escaped_byte}
use Rattle.wire_dump.proofs.Escaped.{run_put}
use Rattle.wire_dump.proofs.string.put_run.Goals as goal

pub returns-clause-ok : goal.returns-clause-ok
returns-clause-ok c =
    let bytes = c.args.bytes.now in
    let count = c.plain_len.result in
    let b = c.in-Some.byte.now in
    let rest = c.in-Some.rest.now in
    let behind : drop count bytes ≡ b ∷ rest = search rules in
    let parts : bytes ≡ take count bytes ++ b ∷ rest =
    sym (take-append-drop count bytes) ∙ ap (λ (t : List ℕ). take count bytes ++ t) behind in
    let mid : c.extend_from_slice.new.self.items ≡ c.args.out.now.items ++ take count bytes =
    search rules in
    let new : c.put_escaped_byte.new.out.items
    ≡ c.extend_from_slice.new.self.items ++ escaped_byte b = search rules in
    run_put c.args.out.now.items c.extend_from_slice.new.self.items
    c.put_escaped_byte.new.out.items (take count bytes) rest bytes b c.plain_len.ensures.plain parts
    mid new

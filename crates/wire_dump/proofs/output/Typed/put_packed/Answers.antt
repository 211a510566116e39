use Rattle.std.proofs.Common.{◌≡◌, ◌≢◌, ◌+◌, ℕ, List, [], ◌∷◌, true, nat_eq, length, arith, refl, sym, ◌∙◌, rules}
use Rattle.wire_dump.proofs.ShownPacked.{broken_list, finished, one_more}
use Rattle.wire_dump.proofs.output.Typed.put_packed.Goals as goal

nat_eq-true : (a b : ℕ) → nat_eq a b ≡ true → a ≡ b
nat_eq-true a b e = grind arith

nothing_in : (xs : List ℕ) → length xs ≡ 0 → xs ≡ []
nothing_in [] e = refl
nothing_in (x ∷ xs) e = absurd (omega arith)

pub returns-in_default-take_number-clause-unfit :
    goal.returns-in_default-take_number-clause-unfit
returns-in_default-take_number-clause-unfit c =
    let r = c.args.found.now in
    let some : c.loop-rest.rest.now ≢ [] = search rules in
    broken_list c.one_varint.ensures c.args.self.now r.spot.depth r.spot.level r.event.number
    r.spot.place (r.spot.place + length r.text.now) r.field.now c.in-Some.wire_type
    c.args.payload.now c.loop-rest.rest.now c.args.out.now.text.items c.args.out.now.has_note
    c.loop-rest.out c.loop-rest.invariant some c.requires.kind
    (sym c.number_type.ensures ∙ c.in-Some.is) c.in_default-take_number.ensures.none

pub loop-rest-preserved : goal.loop-rest-preserved
loop-rest-preserved c =
    let r = c.args.found.now in
    let (line, is, put) = c.in_ok-put_number.ensures in
    one_more c.args.self.now r.spot.level r.event.number r.spot.place
    (r.spot.place + length r.text.now) c.in-Some-take_number.number r.field.now
    c.in-Some.wire_type c.args.payload.now c.loop-rest.rest.now c.take_number.new.bytes.now
    c.args.out.now.text.items line c.args.out.now.has_note c.loop-rest.out _
    c.loop-rest.invariant c.in-Some-take_number.ensures.some is put refl

pub returns-clause-fits : goal.returns-clause-fits
returns-clause-fits c =
    let r = c.args.found.now in
    let empty : c.is_empty.result ≡ true = search rules in
    let zero : length c.loop-rest.rest.now ≡ 0 =
    nat_eq-true (length c.loop-rest.rest.now) 0 (sym c.is_empty.ensures ∙ empty) in
    let none = nothing_in c.loop-rest.rest.now zero in
    let repeated : r.field.now.is_repeated ≡ true = search rules in
    finished c.args.self.now r.spot.depth r.spot.budget r.spot.level r.event.number r.spot.place
    r.field.now
    c.in-Some.wire_type c.args.payload.now c.loop-rest.rest.now r.text.now
    c.args.out.now.text.items c.args.out.now.has_note c.loop-rest.out c.loop-rest.invariant none
    c.requires.is repeated (sym c.number_type.ensures ∙ c.in-Some.is)

use Rattle.std.proofs.Common.{rules, ◌≡◌, ◌+◌, true, [], ◌∷◌, ◌++◌, take, arith, string_bytes, refl, subst}
use Rattle.std.specs.Prelude.{cond, Some, None, IsSome}
use Rattle.std.proofs.lemmas.Grind.{common_steps}
use Rattle.std.proofs.lemmas.Map.Text.{text_keys}
use Rattle.std.specs.BTreeMap.{get_by_text}
use Rattle.std.specs.Str.{bytes_eq}
use Rattle.wire_dynamic.specs.Fields.{field_has_name, as_number}
use Rattle.wire_dynamic.proofs.Found.{absent_text, present_text, none_found}
use Rattle.std.proofs.Common.{◌∙◌, sym}
use Rattle.std.specs.Option.{is_some}
use Rattle.wire_dynamic.proofs.Tables.{matches_kept, matches_pushed}
use Rattle.wire_dynamic.proofs.message_type.numbers_of.Goals as goal

pub loop-field-preserved : goal.loop-field-preserved
loop-field-preserved c = λ k.
    let d = c.field-item.result in
    let xs = c.args.fields.now in
    let i = c.loop-field.field-index in
    let n = c.unwrap_or-number.result in
    let number : n ≡ as_number d.number = search rules in
    let name : string_bytes c.in_ok-clone.field-0 ≡ string_bytes d.name = search rules in
    let step : take (i + 1) xs ≡ take i xs ++ d ∷ [] = grind (arith, common_steps) in
    let old = get_by_text c.loop-field.numbers k in
    let found : c.contains_key.result ≡ is_some (get_by_text c.loop-field.numbers (string_bytes d.name)) = subst (λ q. c.contains_key.result ≡ is_some (get_by_text c.loop-field.numbers q)) c.as_str.ensures.value c.contains_key.ensures in
    let absent : bytes_eq k (string_bytes d.name) ≡ true → old ≡ None = absent_text c.loop-field.numbers (string_bytes d.name) k (none_found _ (get_by_text c.loop-field.numbers (string_bytes d.name)) c.contains_key.result refl found c.if-contains_key.false) in
    let new : get_by_text c.insert.new.self k ≡ cond (bytes_eq k (string_bytes d.name)) (Some n) old = grind (arith, text_keys, name, c.in_ok-insert.ensures.updates) in
    rw step (matches_pushed (λ d number. number ≡ as_number d.number) d (take i xs) n (field_has_name k) old (get_by_text c.insert.new.self k) (c.loop-field.invariant k) number absent new)

pub loop-field-preserved-then-contains_key : goal.loop-field-preserved-then-contains_key
loop-field-preserved-then-contains_key c = λ k.
    let d = c.field-item.result in
    let xs = c.args.fields.now in
    let i = c.loop-field.field-index in
    let step : take (i + 1) xs ≡ take i xs ++ d ∷ [] = grind (arith, common_steps) in
    let old = get_by_text c.loop-field.numbers k in
    let found : c.contains_key.result ≡ is_some (get_by_text c.loop-field.numbers (string_bytes d.name)) = subst (λ q. c.contains_key.result ≡ is_some (get_by_text c.loop-field.numbers q)) c.as_str.ensures.value c.contains_key.ensures in
    let present : bytes_eq k (string_bytes d.name) ≡ true → IsSome old = present_text c.loop-field.numbers (string_bytes d.name) k (sym found ∙ c.if-contains_key.true) in
    rw step (matches_kept (λ d number. number ≡ as_number d.number) d (take i xs) (field_has_name k) old (c.loop-field.invariant k) present)

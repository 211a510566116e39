use Rattle.std.proofs.Common.{◌≡◌, true, arith, rules, subst}
use Rattle.std.specs.BTreeMap.{get, get_by_text}
use Rattle.std.specs.Ordering.{nat_cmp}
use Rattle.std.specs.Prelude.{find}
use Rattle.std.proofs.lemmas.Bool.Decides.{nat_tests}
use Rattle.wire_dynamic.specs.Fields.{field_has_name, has_number, as_number}
use Rattle.wire_dynamic.specs.Messages.{IsOwnField}
use Rattle.wire_dynamic.specs.Table.{IsTableOf, Matches}
use Rattle.wire_dynamic.proofs.Counts.{found_alone, matched_by}
use Rattle.wire_dynamic.proofs.message_type.MessageType.of.Goals as goal

pub returns-clause-ok : goal.returns-clause-ok
returns-clause-ok c =
    let ds = c.args.message.now.descriptor.field.items in
    let Tells = IsOwnField c.args.declared.now c.args.places.now c.args.message.now in
    let fields = c.in_ok-fields.fields in
    let numbers = c.in_ok-numbers.numbers in
    let table = c.in_ok-fields.ensures.ok in
    let apart = c.in_ok-fields.ensures.apart in
    let at = subst (λ l. IsTableOf field_has_name (λ d n. n ≡ as_number d.number) l (get_by_text numbers)) c.deref.ensures.value c.in_ok-numbers.ensures in
    record {
      named = search rules;
      entry = search rules;
      apart = apart;
      fields = table;
      numbers = at;
      by_name = λ k. matched_by Tells (λ d. as_number d.number) (get nat_cmp fields) (find (field_has_name k) ds) (get_by_text numbers k) (at k)
          (λ d is.
          let n = as_number d.number in
          let passes : has_number n d ≡ true = grind (arith, nat_tests) in
          subst (λ o. Matches Tells o (get nat_cmp fields n)) (found_alone (field_has_name k) (has_number n) d ds is passes (apart n)) (table n));
    }

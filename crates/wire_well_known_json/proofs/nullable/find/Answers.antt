use Rattle.std.proofs.Common.{ℕ, Option, suc, ◌∷◌, drop, sym, subst, ◌∙◌}
use Rattle.wire_jsonfields.specs.Objects.{IsNameOf}
use Rattle.wire_jsonfields.proofs.Finding.{Sofar, first_entry, item_here, next_index, none_there, past_entry}
use Rattle.wire_well_known_json.proofs.nullable.find.Goals as goal
use Rattle.wire_well_known_json.proofs.nullable.find.Goals.{then-is_called+else-is_some, else-is_called}

pub loop-member-preserved : goal.loop-member-preserved
loop-member-preserved c = λ text ms are.
    let Named = IsNameOf c.args.name.now c.args.json_name.now in
    let entries = c.args.members.now in
    let i = c.loop-member.member-index in
    let item = c.member-item.result in
    let rest = drop (suc i) entries in
    let here = item_here Named text entries i item c.loop-member-test.true c.member-item.is
    c.loop-member.found ms (c.loop-member.invariant text ms are) in
    elim c.if-is_called.branch [
      | then-is_called+else-is_some w ↦
          let none = none_there c.loop-member.found (sym w.is_some.ensures ∙ w.if-is_some.false) in
          let P : Option ℕ → Type 0 = λ o. Sofar Named text (item ∷ rest) o ms in
          let Q : Option ℕ → Type 0 = λ o. Sofar Named text rest o ms in
          next_index Named text entries i c.if-is_called.found ms
          (subst Q (sym w.found-is)
          (first_entry Named text item rest ms (subst P none here) w.if-is_called.ensures))
      | else-is_called w ↦
          let Q : Option ℕ → Type 0 = λ o. Sofar Named text rest o ms in
          next_index Named text entries i c.if-is_called.found ms
          (subst Q (sym w.found-is)
          (past_entry Named text item rest c.loop-member.found ms here w.if-is_called.ensures))
    ]

use Rattle.std.proofs.Common.{◌≡◌, rules, ap, sym, ◌∙◌}
use Rattle.std.proofs.lemmas.Result.{on_ok_weaker}
use Rattle.std.specs.Prelude.{false}
use Rattle.wire_codec.specs.Field.{joined}
use Rattle.wire_extensions.proofs.Records.{all_others, none_is}
use Rattle.wire_extensions.specs.Extension.{is_own, picked}
use Rattle.wire_extensions.proofs.extension.Extension.set.Goals as goal

pub returns-then-not-has-clause-ok : goal.returns-then-not-has-clause-ok
returns-then-not-has-clause-ok g c =
    let owns = is_own c.args.self.now.number c.args.self.now.types in
    let more = c.in_ok-more.more in
    let no : c.has.result ≡ false = search rules in
    let empty = none_is (picked owns c.args.fields.now)
    (λ some. let yes = c.has.ensures.1 some in cc) in
    on_ok_weaker c.put_behind.result (λ h. (
      more,
      c.in_ok-more.ensures.ok,
      h ∙ ap (λ x. joined x more) (sym (all_others owns c.args.fields.now empty)),
    ))
    c.put_behind.ensures.ok

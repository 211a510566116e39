use Rattle.std.proofs.Common.{ap, refl, rules, true}
use Rattle.std.specs.Option.{option_copied}
use Rattle.wire_dump.proofs.ShownUnfit.{group_noted}
use Rattle.wire_dump.proofs.output.Typed.put_group_opening.Goals as goal

pub returns : goal.returns
returns c =
    let f = c.in-Some.field.now in
    let is = ap option_copied c.in-Some.is in
    record {
      ok = group_noted c.args.self.now c.args.place c.args.level c.args.number f
          (option_copied c.args.field) c.args.text.now c.args.out.now.text.items
          c.put_opening-2.new.out.items c.args.out.now.has_note
          (record { text = c.put_note.new.out; has_note = true }) c.margin-margin.result is
          (λ place e. c.in_default-kind.not-Group place e) (search rules)
          c.margin-margin.ensures c.in_ok-put_opening-3.ensures c.in_ok-put_note.ensures refl;
      misfit = λ m e. absurd (cc e);
    }

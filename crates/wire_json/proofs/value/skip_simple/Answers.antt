use Rattle.std.proofs.Common.{true, false, ap, drop, refl, ◌∙◌, Some}
use Rattle.std.specs.Prelude.{codes}
use Rattle.wire_json.specs.Json.{null, boolean}
use Rattle.wire_json.specs.declared.kind.Kind.TheVariants as kinds
use Rattle.wire_json.proofs.Scalars.{word_value, word_fault, number_value, number_fault}
use Rattle.wire_json.proofs.value.skip_simple.Goals as goal

pub returns-in-Null-clause-ok : goal.returns-in-Null-clause-ok
returns-in-Null-clause-ok c =
    word_value c.args.text.now (drop c.args.at c.args.text.now) (codes "null") null (λ new h. h)
    refl refl c.skip_word.result c.skip_word.ensures.answer

pub returns-in-Null-clause-fault : goal.returns-in-Null-clause-fault
returns-in-Null-clause-fault c =
    word_fault c.args.text.now (drop c.args.at c.args.text.now) (codes "null") kinds.Null
    (c.requires.kind ∙ ap Some c.in-Null.is) refl c.skip_word.result c.skip_word.ensures.answer

pub returns-in-True-clause-ok : goal.returns-in-True-clause-ok
returns-in-True-clause-ok c =
    word_value c.args.text.now (drop c.args.at c.args.text.now) (codes "true") (boolean true) (λ new h. h)
    refl refl c.skip_word-in-True.result c.skip_word-in-True.ensures.answer

pub returns-in-True-clause-fault : goal.returns-in-True-clause-fault
returns-in-True-clause-fault c =
    word_fault c.args.text.now (drop c.args.at c.args.text.now) (codes "true") kinds.True
    (c.requires.kind ∙ ap Some c.in-True.is) refl c.skip_word-in-True.result c.skip_word-in-True.ensures.answer

pub returns-in-False-clause-ok : goal.returns-in-False-clause-ok
returns-in-False-clause-ok c =
    word_value c.args.text.now (drop c.args.at c.args.text.now) (codes "false") (boolean false) (λ new h. h)
    refl refl c.skip_word-in-False.result c.skip_word-in-False.ensures.answer

pub returns-in-False-clause-fault : goal.returns-in-False-clause-fault
returns-in-False-clause-fault c =
    word_fault c.args.text.now (drop c.args.at c.args.text.now) (codes "false") kinds.False
    (c.requires.kind ∙ ap Some c.in-False.is) refl c.skip_word-in-False.result c.skip_word-in-False.ensures.answer

pub returns-in-Number-clause-ok : goal.returns-in-Number-clause-ok
returns-in-Number-clause-ok c =
    number_value c.args.text.now c.args.at c.skip_number.result c.skip_number.ensures.answer
    c.skip_number.ensures.behind

pub returns-in-Number-clause-fault : goal.returns-in-Number-clause-fault
returns-in-Number-clause-fault c =
    number_fault c.args.text.now (drop c.args.at c.args.text.now)
    (c.requires.kind ∙ ap Some c.in-Number.is) c.skip_number.result c.skip_number.ensures.answer

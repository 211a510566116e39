use Rattle.std.proofs.Common.{◌∙◌}
use Rattle.std.proofs.lemmas.Result.{on_ok_weaker}
use Rattle.wire_fields.specs.Nest.{listed_row, row_pushed}
use Rattle.wire_albums.specs.Genre.{Genre-Value, genre-one, genre-value}
use Rattle.wire_albums.specs.declared.genre.Genre.{Genre, out-Genre, fold_out-Genre}
use Rattle.wire_albums.specs.declared.genre.Genre.TheFolds.{fold-roll-Genre, map-Genre}
use Rattle.wire_albums.proofs.genre.GenreRecursiveMember.push.Goals as goal

pub returns-in-0-clause-ok : goal.returns-in-0-clause-ok
returns-in-0-clause-ok c =
    λ here many kind. on_ok_weaker c.push_message.result (λ pushed. rw (
      c.in-0.is,
      fold_out-Genre Genre-Value genre-one c.args.self.now,
    ) (fold-roll-Genre Genre-Value genre-one _
    ∙ row_pushed genre-value 0
    (genre-one (map-Genre Genre Genre-Value genre-value (out-Genre c.args.self.now)))
    _ _ c.args.message (listed_row _) pushed)) c.push_message.ensures.ok

use Rattle.std.proofs.Common.{◌∙◌}
use Rattle.std.proofs.lemmas.Result.{on_ok_weaker}
use Rattle.wire_fields.specs.Nest.{listed_row, row_pushed}
use Rattle.wire_albums.specs.Genre.{Genre-Value, genre-view_one, genre-view_value}
use Rattle.wire_albums.specs.declared.genre_view.GenreView as declared
use Rattle.wire_albums.specs.declared.genre_view.GenreView.TheFolds as folds
use Rattle.wire_albums.proofs.genre_view.GenreViewRecursiveHeldRefSliceU8.push.Goals as goal

pub returns-in-0-clause-ok : goal.returns-in-0-clause-ok
returns-in-0-clause-ok c =
    λ here many kind. on_ok_weaker c.push_message.result (λ pushed. rw (
      c.in-0.is,
      declared.fold_out-GenreView Genre-Value genre-view_one c.args.self.now,
    ) (folds.fold-roll-GenreView Genre-Value genre-view_one _
    ∙ row_pushed genre-view_value 0
    (genre-view_one
    (folds.map-GenreView declared.GenreView Genre-Value genre-view_value
    (declared.out-GenreView c.args.self.now)))
    _ _ c.args.message (listed_row _) pushed)) c.push_message.ensures.ok

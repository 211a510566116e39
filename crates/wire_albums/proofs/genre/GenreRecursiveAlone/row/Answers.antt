use Rattle.std.proofs.Common.{◌∙◌, ap, map, sym}
use Rattle.wire_fields.specs.Nest.{listed_row}
use Rattle.wire_albums.specs.Genre.{Genre-Value, genre-one, genre-value}
use Rattle.wire_albums.specs.declared.genre.Genre.{fold_out-Genre}
use Rattle.wire_albums.proofs.genre.GenreRecursiveAlone.row.Goals as goal

pub returns-in-0 : goal.returns-in-0
returns-in-0 c =
    rw (c.in-0.is, fold_out-Genre Genre-Value genre-one c.args.self.now)
    (ap (map genre-value) c.deref.ensures.value ∙ sym (listed_row _))

use Rattle.std.proofs.Common.{◌≡◌, map, take}
use Rattle.wire_albums.specs.Genre.{genre-value, genre-view_value}
use Rattle.wire_albums.proofs.genre_view.+own.Given as goal

abbrev pub invariant-each_owned_genre-loop-view : goal.invariant-each_owned_genre-loop-view
invariant-each_owned_genre-loop-view l =
    map genre-value l.messages.items
    ≡ map genre-view_value (take l.view-index l.views)

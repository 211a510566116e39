use Rattle.std.proofs.Common.{refl, sym, ◌∙◌}
use Rattle.std.proofs.lemmas.Iterator.Adapters.{option_map_id}
use Rattle.wire_albums.specs.Genre.{Genre-Value, genre-like-row, genre-like-view_row, genre-one}
use Rattle.wire_albums.specs.Genre.{genre-view_one}
use Rattle.wire_albums.specs.declared.genre.Genre.{Genre, Genre-F}
use Rattle.wire_albums.specs.declared.genre.Genre.TheFolds.{fold-roll-Genre}
use Rattle.wire_albums.specs.declared.genre_view.GenreView.{fold_out-GenreView, out-GenreView}
use Rattle.wire_albums.proofs.genre_view.+own.Goals as goal

pub owned_genre-returns-clause-ok : goal.owned_genre-returns-clause-ok
owned_genre-returns-clause-ok t c =
    let made : Genre-F Genre = record {
      name = c.in_ok-own_name.own_name;
      within = c.in_ok-own_within.own_within;
      like = c.in_ok-own_like.own_like;
      mood = c.in_ok-own_mood.own_mood;
      years = c.in_ok-own_years.own_years;
      unknown = c.in_ok-own_unknown.own_unknown;
    } in
    fold-roll-Genre Genre-Value genre-one made
    ∙ rw (
      c.in_ok-own_name.ensures.ok,
      c.in_ok-own_within.ensures.ok,
      c.deref.ensures.value,
      genre-like-row made made.like refl,
      c.in_ok-own_like.ensures.ok,
      genre-like-view_row (out-GenreView c.args.view.now)
          (out-GenreView c.args.view.now).like refl,
      sym (option_map_id made.mood)
          ∙ c.in_ok-own_mood.ensures.ok
          ∙ option_map_id (out-GenreView c.args.view.now).mood,
      c.in_ok-own_years.ensures.ok,
      c.in_ok-own_unknown.ensures.ok,
      (c.deref-2).ensures.value,
    ) refl
    ∙ sym (fold_out-GenreView Genre-Value genre-view_one c.args.view.now)

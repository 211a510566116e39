-- What the same bytes are as a message and as its view.
use Rattle.std.specs.Prelude.{◌≡◌, Result, Ok, Err}
use Rattle.wire_codec.specs.DecodeError.{DecodeError}
use Rattle.wire_codec.specs.DecodeError.TheVariants.{OutOfMemory}
use Rattle.wire_albums.specs.Album.{album-value, album-view_value}
use Rattle.wire_albums.specs.declared.album.Album.{Album}
use Rattle.wire_albums.specs.declared.album_view.AlbumView.{AlbumView}

-- both are read, as one value, or neither is, where memory lasts
abbrev pub AreAlike : Result AlbumView DecodeError → Result Album DecodeError → Type 0
AreAlike (Ok view) (Ok message) = album-view_value view ≡ album-value message
AreAlike (Ok view) (Err e) = e ≡ OutOfMemory
AreAlike (Err e) (Ok message) = e ≡ OutOfMemory
AreAlike (Err e) (Err f) = Unit {0}

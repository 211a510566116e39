-- The same bytes as a message and as its view.
use Rattle.std.proofs.Common.{◌≡◌, ◌≢◌, ℕ, List, [], Result, Ok, Err, refl}
use Rattle.std.specs.Prelude.{IfOk, IfErr}
use Rattle.wire_codec.specs.DecodeError.{DecodeError}
use Rattle.wire_codec.specs.DecodeError.TheVariants.{UnexpectedEof, VarintTooLong, InvalidWireType}
use Rattle.wire_codec.specs.DecodeError.TheVariants.{InvalidFieldNumber, MessageTooLarge}
use Rattle.wire_codec.specs.DecodeError.TheVariants.{WireTypeMismatch, InvalidUtf8}
use Rattle.wire_codec.specs.DecodeError.TheVariants.{RecursionLimitExceeded, InvalidEndGroup}
use Rattle.wire_codec.specs.DecodeError.TheVariants.{InvalidMessageSet, UnknownFieldLimitExceeded}
use Rattle.wire_codec.specs.DecodeError.TheVariants.{ElementMemoryLimitExceeded, Custom}
use Rattle.wire_codec.specs.DecodeError.TheVariants.{OutOfMemory}
use Rattle.wire_codec.specs.Limits.{Limits}
use Rattle.wire_codec.specs.Taking.{TakesAll, IsCharged, NotDecoded}
use Rattle.wire_codec.specs.TakingLaws.{TakenInOneWay}
use Rattle.wire_albums.specs.Album.{album-shape, album-value, album-view_value}
use Rattle.wire_view_uses.specs.Alike.{AreAlike}
use Rattle.wire_albums.specs.declared.album.Album.{Album}
use Rattle.wire_albums.specs.declared.album_view.AlbumView.{AlbumView}

-- an error that is no other than want of memory
is_memory : (e : DecodeError) → ((e ≢ OutOfMemory) → ⊥) → e ≡ OutOfMemory
is_memory UnexpectedEof refused = absurd (refused (λ e. cc))
is_memory VarintTooLong refused = absurd (refused (λ e. cc))
is_memory (InvalidWireType n) refused = absurd (refused (λ e. cc))
is_memory InvalidFieldNumber refused = absurd (refused (λ e. cc))
is_memory MessageTooLarge refused = absurd (refused (λ e. cc))
is_memory (WireTypeMismatch a b c) refused = absurd (refused (λ e. cc))
is_memory InvalidUtf8 refused = absurd (refused (λ e. cc))
is_memory RecursionLimitExceeded refused = absurd (refused (λ e. cc))
is_memory (InvalidEndGroup n) refused = absurd (refused (λ e. cc))
is_memory (InvalidMessageSet m) refused = absurd (refused (λ e. cc))
is_memory UnknownFieldLimitExceeded refused = absurd (refused (λ e. cc))
is_memory ElementMemoryLimitExceeded refused = absurd (refused (λ e. cc))
is_memory (Custom m) refused = absurd (refused (λ e. cc))
is_memory OutOfMemory refused = refl

module _ (one : TakenInOneWay album-shape.takes) (l after other : Limits) (bytes : List ℕ) where
  pub alike : (view : Result AlbumView DecodeError) (message : Result Album DecodeError)
      → IfOk view (λ v. IsCharged l after (λ c. TakesAll album-shape.takes l album-shape.default
      bytes c (album-view_value v)))
      → IfErr view (λ e. e ≢ OutOfMemory
      → NotDecoded album-shape.takes l album-shape.default bytes)
      → IfOk message (λ m. IsCharged l other (λ c. TakesAll album-shape.takes l
      album-shape.default bytes c (album-value m)))
      → IfErr message (λ e. e ≢ OutOfMemory
      → NotDecoded album-shape.takes l album-shape.default bytes)
      → AreAlike view message
  alike (Ok v) (Ok m) seen none taken refused = (one _ _ _ _ _ _ _ _ _ _ _ seen.taken taken.taken).1
  alike (Ok v) (Err e) seen none taken refused =
      is_memory e (λ other. refused other (album-view_value v) (seen.charge, seen.taken))
  alike (Err e) (Ok m) seen none taken refused =
      is_memory e (λ other. none other (album-value m) (taken.charge, taken.taken))
  alike (Err e) (Err f) seen none taken refused = tt

-- What is read of a message, as the reader of a message type cites it.
use Rattle.std.proofs.Common.{◌≡◌, ◌≢◌, ℕ, ◌≤◌, List, drop, refl, sym, ap, subst, arith}
use Rattle.wire_json.specs.Json.{Json, null, boolean, number, string, array, object, Members, depth, members_depth}
use Rattle.wire_json.specs.Reading.{ReadsValue}
use Rattle.wire_json.proofs.OneReading.{one_value_lemma}
use Rattle.wire_jsonfields.specs.declared.object.PlacedMember.{PlacedMember}
use Rattle.wire_protojson.specs.declared.refusal.ReadError.{ReadError}
use Rattle.wire_protojson.specs.declared.refusal.ReadError.TheVariants.{Refused, OutOfMemory}
use Rattle.wire_jsonfields.specs.Levels.{NothingMeant}
use Rattle.wire_jsonfields.specs.Messages.{ObjectMeans}
use Rattle.wire_jsonfields.specs.Objects.{ArePlaced, NoObjectHere}
use Rattle.wire_protojson.specs.Reads.{RefusedAt, UnlessNoMemory}
use Rattle.wire_jsonfields.proofs.ObjectReads.{no_object_read}

-- the members are those of the entries as a slice
pub in_slice : (text : List ℕ) (ms : Members) (slice items : List PlacedMember) → slice ≡ items
    → ArePlaced text items ms → ArePlaced text slice ms
in_slice text ms slice items is are = subst (λ (l : List PlacedMember). ArePlaced text l ms) (sym is) are

same_members : (ms others : Members) → object ms ≡ object others → ms ≡ others
same_members ms others h = cc

module _ {V : Type 0} (Say : Members → V → Type 0) (levels : ℕ) (old : List ℕ) where
  -- where no object stands no message is read
  pub no_object : (text : List ℕ) (e : ReadError)
      → UnlessNoMemory e (λ refusal. RefusedAt text refusal (NoObjectHere levels old))
      → e ≢ OutOfMemory → NothingMeant levels (ObjectMeans Say) old
  no_object text (Refused refusal) h other = λ value new read.
      none read.0 value new read.1 read.2 read.3
    where
      none : (json : Json) (value : V) (new : List ℕ) → ReadsValue json old new
          → depth json ≤ levels → ObjectMeans Say json value → ⊥
      none (object ms) value new reads fits means =
          no_object_read levels old ms new refusal.reason (drop refusal.at text) reads fits h
      none null value new reads fits means = means
      none (boolean b) value new reads fits means = means
      none (number t) value new reads fits means = means
      none (string bytes) value new reads fits means = means
      none (array es) value new reads fits means = means
  no_object text OutOfMemory h other = absurd (other refl)

  -- where the members say nothing of a message none is read
  pub none_said : (ms : Members) (rest : List ℕ) → ReadsValue (object ms) old rest
      → ((value : V) → members_depth ms ≤ levels → Say ms value → ⊥)
      → NothingMeant levels (ObjectMeans Say) old
  none_said ms rest stands says = λ value new read. none read.0 value new read.1 read.2 read.3
    where
      none : (json : Json) (value : V) (new : List ℕ) → ReadsValue json old new
          → depth json ≤ levels → ObjectMeans Say json value → ⊥
      none (object others) value new reads fits means =
          let same = one_value_lemma (object others) (object ms) old new rest reads stands in
          let all = same_members others ms same.0 in
          let deep : members_depth others ≡ members_depth ms = ap members_depth all in
          let P : Members → Type 0 = λ l. Say l value in
          says value (omega (arith, fits, deep)) (subst P all means)
      none null value new reads fits means = means
      none (boolean b) value new reads fits means = means
      none (number t) value new reads fits means = means
      none (string bytes) value new reads fits means = means
      none (array es) value new reads fits means = means

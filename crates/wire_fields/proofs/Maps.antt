-- Entries of maps: as they are held, and as contracts see them.
use Rattle.std.proofs.Common.{◌≡◌, ℕ, List, [], ◌∷◌, refl, ap, ◌∙◌}
use Rattle.std.specs.BTreeMap.{insert_entry}
use Rattle.std.specs.declared.cmp.Ordering.{Ordering}
use Rattle.std.specs.declared.cmp.Ordering.TheVariants.{Less, Equal, Greater}
use Rattle.std.specs.Ordering.{match_ordering}
use Rattle.wire_codec.specs.Limits.{Limits}
use Rattle.wire_codec.specs.Taking.{TakesRecord, IsCharged, NotTaken}
use Rattle.wire_codec.specs.WireType.{WireType}
use Rattle.wire_fields.specs.Maps.{EntryOf, entry_default, entry_takes, reads_entry}
use Rattle.wire_fields.specs.Maps.{viewed, each_entry, entry_record}
use Rattle.wire_fields.specs.Messages.{length_prefixed, gathers}
use Rattle.wire_fields.specs.Scalar.{ScalarType}
use Rattle.wire_fields.specs.Shape.{FieldKind}
use Rattle.wire_fields.proofs.Measuring.{Splits}

module _ {S T K V : Type 0} (key : S → K) (value : T → V) (cmp : S → S → Ordering)
    (order : K → K → Ordering) (same : (x y : S) → cmp x y ≡ order (key x) (key y)) where
  placed : (o : Ordering) (k x : S) (v w : T) (es : List (S × T))
      → viewed key value (insert_entry cmp es k v)
      ≡ insert_entry order (viewed key value es) (key k) (value v)
      → viewed key value (match_ordering o ((k, v) ∷ (x, w) ∷ es) ((x, v) ∷ es)
      ((x, w) ∷ insert_entry cmp es k v))
      ≡ match_ordering o ((key k, value v) ∷ (key x, value w) ∷ viewed key value es)
      ((key x, value v) ∷ viewed key value es)
      ((key x, value w) ∷ insert_entry order (viewed key value es) (key k) (value v))
  placed Less k x v w es more = refl
  placed Equal k x v w es more = refl
  placed Greater k x v w es more = ap (λ (l : List (K × V)). (key x, value w) ∷ l) more

  -- an entry is put in the same place in either
  pub viewed_insert : (es : List (S × T)) (k : S) (v : T)
      → viewed key value (insert_entry cmp es k v)
      ≡ insert_entry order (viewed key value es) (key k) (value v)
  viewed_insert [] k v = refl
  viewed_insert (e ∷ es) k v =
      placed (cmp k e.0) k e.0 v e.1 es (viewed_insert es k v)
      ∙ ap (λ o. match_ordering o ((key k, value v) ∷ (key e.0, value e.1) ∷ viewed key value es)
      ((key e.0, value v) ∷ viewed key value es)
      ((key e.0, value e.1) ∷ insert_entry order (viewed key value es) (key k) (value v)))
      (same k e.0)

-- the entry in front, and those behind it
pub next_entry : {S T K V : Type 0} (key : S → K) (value : T → V) (t : ScalarType K)
    (kind : FieldKind V) (n : ℕ) (es rest : List (S × T)) (k : S) (v : T)
    → es ≡ (k, v) ∷ rest
    → Splits (each_entry t kind n (viewed key value es)) (entry_record t kind n (key k, value v))
    (each_entry t kind n (viewed key value rest))
next_entry {S} {T} key value t kind n es rest k v is =
    record { is = ap (λ (l : List (S × T)). each_entry t kind n (viewed key value l)) is }

-- ---- what is taken

-- an entry that is read is put into the map
module _ {K V M : Type 0} (place : ℕ) (key : ScalarType K) (value : FieldKind V)
    (put : M → EntryOf K V → M) (l : Limits) (n : ℕ) (w : WireType) (m : M) (old : List ℕ) where
  pub entry_put : (k : Limits) (e : EntryOf K V) (z : M) (new : List ℕ) → z ≡ put m e
      → IsCharged l k (λ c. TakesRecord (reads_entry place key value) l n w
      (entry_default key value) old c e new)
      → IsCharged l k (λ c. TakesRecord (gathers place length_prefixed (entry_takes key value)
      (entry_default key value) put) l n w m old c z new)
  entry_put k e z new is h =
      let (after, one, step, charged, same) = h.taken.step in
      record {
        charge = h.charge;
        taken = record {
          payload = h.taken.payload;
          read = h.taken.read;
          step = (after, one, step, charged, is ∙ ap (put m) same);
        };
        left = h.left;
      }

  pub no_entry : NotTaken (TakesRecord (reads_entry place key value) l n w (entry_default key value) old)
      → NotTaken (TakesRecord (gathers place length_prefixed (entry_takes key value)
      (entry_default key value) put) l n w m old)
  no_entry none c z new h =
      let (after, one, step, charged, is) = h.step in
      none c after new (record {
        payload = h.payload;
        read = h.read;
        step = (after, one, step, charged, refl);
      })

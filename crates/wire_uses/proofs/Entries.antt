-- The labels of a report, as they are held and as contracts see them.
use Rattle.std.proofs.Common.{◌≡◌, Bool, true, false, cond, ℕ, List, [], ◌∷◌, Option, Some}
use Rattle.std.proofs.Common.{Global, String, option_map, refl, ap, ◌∙◌}
use Rattle.std.specs.BTreeMap.{insert_entry}
use Rattle.std.specs.Cmp.Lexicographic.{slice_cmp}
use Rattle.std.specs.Map.{lookup}
use Rattle.std.specs.Ordering.{match_ordering, nat_cmp}
use Rattle.std.specs.Prelude.{string_bytes}
use Rattle.std.specs.String.{string_cmp}
use Rattle.std.specs.declared.cmp.Ordering.{Ordering}
use Rattle.std.specs.declared.cmp.Ordering.TheVariants.{Less, Equal, Greater}
use Rattle.wire_fields.specs.Maps.{viewed}
use Rattle.wire_uses.specs.Labels.{with_label}

abbrev Text : Type 0
Text = String Global

abbrev Held : Type 0
Held = List (Text × Text)

-- as contracts see them
abbrev pub seen : Held → List (List ℕ × List ℕ)
seen = viewed (λ s. string_bytes s) (λ s. string_bytes s)

-- ---- a look-up

found : (is : Bool) (text : Text) (behind : Option (List ℕ)) (among : Option Text)
    → behind ≡ option_map (λ s. string_bytes s) among
    → cond is (Some (string_bytes text)) behind
    ≡ option_map (λ s. string_bytes s) (cond is (Some text) among)
found true text behind among same = refl
found false text behind among same = same

-- it finds the bytes of the text that is held
pub lookup-seen : (test : List ℕ → Bool) (es : Held)
    → lookup test (seen es)
    ≡ option_map (λ s. string_bytes s) (lookup (λ k. test (string_bytes k)) es)
lookup-seen test [] = refl
lookup-seen test (e ∷ es) = found (test (string_bytes e.0)) e.1 _ _ (lookup-seen test es)

-- ---- a label more

placed : (o : Ordering) (k v : Text) (e : Text × Text) (es more : Held)
    → (behind : List (List ℕ × List ℕ)) → seen more ≡ behind
    → seen (match_ordering o ((k, v) ∷ e ∷ es) ((e.0, v) ∷ es) (e ∷ more))
    ≡ match_ordering o ((string_bytes k, string_bytes v) ∷ seen (e ∷ es))
    ((string_bytes e.0, string_bytes v) ∷ seen es)
    ((string_bytes e.0, string_bytes e.1) ∷ behind)
placed Less k v e es more behind same = refl
placed Equal k v e es more behind same = refl
placed Greater k v e es more behind same =
    ap (λ (l : List (List ℕ × List ℕ)). (string_bytes e.0, string_bytes e.1) ∷ l) same

inserted : (es : Held) (k v : Text)
    → seen (insert_entry string_cmp es k v) ≡ with_label (string_bytes k) (string_bytes v) (seen es)
inserted [] k v = refl
inserted (e ∷ es) k v =
    placed (slice_cmp nat_cmp (string_bytes k) (string_bytes e.0)) k v e es _ _ (inserted es k v)

-- it stands in the same place
pub insert-seen : (new es : Held) (k v : Text) (key text : List ℕ)
    → new ≡ insert_entry string_cmp es k v → string_bytes k ≡ key → string_bytes v ≡ text
    → seen new ≡ with_label key text (seen es)
insert-seen new es k v key text is same_key same_text =
    ap seen is ∙ inserted es k v
    ∙ ap (λ (x : List ℕ). with_label x (string_bytes v) (seen es)) same_key
    ∙ ap (λ (x : List ℕ). with_label key x (seen es)) same_text

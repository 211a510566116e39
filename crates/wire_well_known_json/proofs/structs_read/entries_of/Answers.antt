use Rattle.std.proofs.Common.{[], ◌∷◌, ◌++◌, map, refl, sym, ap, ◌∙◌, append-nil}
use Rattle.std.proofs.lemmas.Map.Iter.{rest_all, rest_more}
use Rattle.std.specs.Prelude.{string_bytes}
use Rattle.wire_jsonfields.specs.Maps.{entries_seen}
use Rattle.wire_jsonfields.proofs.Listing.{map_more}
use Rattle.wire_well_known_json.specs.Structs.{Plain-Fields, entry-plain, value-plain}
use Rattle.wire_well_known_json.proofs.StructReads.{entries_more}
use Rattle.wire_well_known_json.proofs.structs_read.entries_of.Goals as goal

pub loop-key-init : goal.loop-key-init
loop-key-init c =
    rw (c.new-entries.ensures.items, c.into_iter-key-iterator.ensures.into_iter_gives.0) refl

pub loop-key-preserved : goal.loop-key-preserved
loop-key-preserved c =
    let seen = entries_seen string_bytes value-plain in
    let old = map entry-plain c.loop-key.entries.items in
    let here = ap seen (rest_more (λ p. p) _ _ _ _ c.in-Some.is c.next.ensures.steps) in
    let more = ap (map entry-plain) c.in_ok-push_entry.ensures
    ∙ map_more entry-plain c.loop-key.entries.items _
    ∙ ap (λ e. old ++ e ∷ []) c.in_ok-entry_of.ensures in
    entries_more _ _ _ _ _ _ c.loop-key.invariant here more

pub returns : goal.returns
returns c =
    let seen = entries_seen string_bytes value-plain in
    let none = ap seen (rest_all (λ p. p) c.loop-key.key-iterator _ _ c.in-None.is c.next.ensures.steps) in
    let old = map entry-plain c.loop-key.entries.items in
    sym (c.loop-key.invariant ∙ ap (λ (l : Plain-Fields). old ++ l) none ∙ append-nil old)

-- The payload behind a tag, by its wire type.
use Rattle.std.proofs.Common.{◌≡◌, ℕ, ◌<◌, ◌≤◌, List, ◌++◌, length, take, drop, refl, sym, subst, length-take-le}
use Rattle.std.specs.Int.{w32, w64, from_le_bytes}
use Rattle.wire_base.specs.declared.tag.WireType.TheVariants as types
use Rattle.wire_base.specs.Charge.{charge, payload_charge}
use Rattle.wire_base.specs.Delimited.{IsDelimited}
use Rattle.wire_base.specs.Ending.{by_tag}
use Rattle.wire_base.specs.Field.{varint, fixed64, fixed32, bytes, group, Fields}
use Rattle.wire_base.specs.Limits.{Limits, Charge, Fits, one_field, bytes_charge, inner, left_after}
use Rattle.wire_base.specs.Read.{Reads}
use Rattle.wire_base.specs.RecordLaws.{GroupIsList}
use Rattle.wire_base.specs.Spells.{SpellsPayload, Spells, IsPayload}
use Rattle.wire_base.specs.Tag.{IsTagSpelling}
use Rattle.wire_base.specs.Taken.{TakesPayload, TakesFields, TakesUntil}
use Rattle.wire_base.specs.Varint.{IsSpelling}
use Rattle.wire_base.proofs.DelimitedLaws.{delimited_at}
use Rattle.wire_base.proofs.JoinedLaws.{payload_as}
use Rattle.wire_base.proofs.LimitsLaws.{Fits-both, Fits-group}
use Rattle.wire_base.proofs.ReadLaws.{Reads-take, Reads-inside, joined_parts}
use Rattle.wire_base.proofs.Takes.{last_before}

-- ---- the body of a group, and its end tag

group_read : (c : Charge) (l : Limits) (n : ℕ) (fs : Fields) (old new : List ℕ)
    → TakesUntil c l (by_tag n) fs old new
    → Reads old (IsPayload n types.StartGroup (group fs)) new
group_read c l n fs old new h = payload_as n (group fs) old new (record {
  text = h.fields.read.text ++ h.ended.text;
  parts = joined_parts (Spells fs)
      (IsTagSpelling n types.EndGroup) old h.end new h.fields.read h.ended;
  spelled = (
    h.ended.text,
    record { text = h.fields.read.text; parts = refl; spelled = h.fields.read.spelled },
    h.ended.spelled,
  );
})

group_list : (c : Charge) (l : Limits) (n : ℕ) (fs : Fields) (old new : List ℕ) → Fits c l
    → Reads old (IsPayload n types.StartGroup (group fs)) new
    → TakesUntil c l (by_tag n) fs old new
group_list c l n fs old new fits h =
    let (end, fields, tag) = h.spelled.spelled in
    let read = Reads-inside (Spells fs) old h.text end new h.parts fields in
    record {
      end = end ++ new;
      fields = record { read = read; fits = fits };
      ended = record { text = end; parts = refl; spelled = tag };
      last = last_before (by_tag n) fs old (end ++ new) read (λ rest longer. tt);
    }

pub group_is_list_lemma : GroupIsList
group_is_list_lemma c l n fs old new = (
  λ h. (group_read c l n fs old new h, h.fields.fits),
  λ h. group_list c l n fs old new h.1 h.0,
)

-- ---- each wire type

module _ (l : Limits) (n : ℕ) (slot : Fits one_field l) where
  pub takes_varint : (v : ℕ) (old new : List ℕ) → Reads old (IsSpelling v) new
      → TakesPayload one_field l n types.Varint (varint v) old new
  takes_varint v old new h = record { read = payload_as n (varint v) old new h; fits = slot }

  pub takes_fixed64 : (old new : List ℕ) → 8 ≤ length old → new ≡ drop 8 old
      → TakesPayload one_field l n types.Fixed64 (fixed64 (from_le_bytes w64 (take 8 old))) old new
  takes_fixed64 old new long e =
      let v = from_le_bytes w64 (take 8 old) in
      record {
        read = payload_as n (fixed64 v) old new
            (Reads-take (SpellsPayload n (fixed64 v)) 8 old new e
            (length-take-le 8 old long, refl));
        fits = slot;
      }

  pub takes_fixed32 : (old new : List ℕ) → 4 ≤ length old → new ≡ drop 4 old
      → TakesPayload one_field l n types.Fixed32 (fixed32 (from_le_bytes w32 (take 4 old))) old new
  takes_fixed32 old new long e =
      let v = from_le_bytes w32 (take 4 old) in
      record {
        read = payload_as n (fixed32 v) old new
            (Reads-take (SpellsPayload n (fixed32 v)) 4 old new e
            (length-take-le 4 old long, refl));
        fits = slot;
      }

  pub takes_delimited : (b old new : List ℕ) → Reads old (IsDelimited b) new
      → Fits (bytes_charge (length b)) (left_after l one_field)
      → TakesPayload (payload_charge (bytes b)) l n types.LengthDelimited (bytes b) old new
  takes_delimited b old new h room = record {
    read = payload_as n (bytes b) old new h;
    fits = Fits-both l one_field (bytes_charge (length b)) slot room;
  }

  -- the payload that a length tells
  pub takes_bytes : (len : ℕ) (old mid new : List ℕ) → Reads old (IsSpelling len) mid
      → len ≤ length mid → new ≡ drop len mid → Fits (bytes_charge len) (left_after l one_field)
      → TakesPayload (payload_charge (bytes (take len mid))) l n types.LengthDelimited
      (bytes (take len mid)) old new
  takes_bytes len old mid new h there e room =
      takes_delimited (take len mid) old new (delimited_at len old mid new h there e)
      (subst (λ k. Fits (bytes_charge k) (left_after l one_field))
      (sym (length-take-le len mid there)) room)

  pub takes_group : (fs : Fields) (old new : List ℕ) → 0 < l.depth
      → TakesUntil (charge fs) (inner (left_after l one_field)) (by_tag n) fs old new
      → TakesPayload (payload_charge (group fs)) l n types.StartGroup (group fs) old new
  takes_group fs old new level h = record {
    read = group_read (charge fs) (inner (left_after l one_field)) n fs old new h;
    fits = Fits-group l fs slot level h.fields.fits;
  }

-- records up to a place where they end
pub takes_until : (l : Limits) (n : ℕ) (fs : Fields) (old mid new : List ℕ)
    → TakesFields (charge fs) l fs old mid → Reads mid (IsTagSpelling n types.EndGroup) new
    → TakesUntil (charge fs) l (by_tag n) fs old new
takes_until l n fs old mid new h end =
    record {
      end = mid;
      fields = h;
      ended = end;
      last = last_before (by_tag n) fs old mid h.read
          (λ rest longer. tt);
    }

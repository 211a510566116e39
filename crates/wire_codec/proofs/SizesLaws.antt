-- No embedded message is longer than the records that it stands in: where the whole is small, no
-- size is cut.
use Rattle.std.proofs.Common.{◌≡◌, ℕ, ◌^◌, ◌<◌, ◌≤◌, List, [], ◌∷◌, ◌++◌, length, map, refl, arith}
use Rattle.std.proofs.Common.{length-append}
use Rattle.std.proofs.lemmas.List.Elements.{All-nil, All-cons, All-head, All-tail, All-append}
use Rattle.std.proofs.lemmas.List.Elements.{All-weaker}
use Rattle.std.specs.Prelude.{All}
use Rattle.wire_base.specs.declared.tag.WireType.TheVariants.{EndGroup}
use Rattle.wire_base.specs.Field.{type_of}
use Rattle.wire_base.specs.Tag.{tag_text}
use Rattle.wire_base.specs.Text.{payload_text}
use Rattle.wire_base.specs.Varint.{shortest_varint}
use Rattle.wire_codec.specs.Records.{ValuePayload, varint, fixed64, fixed32, bytes, group, embedded}
use Rattle.wire_codec.specs.Records.{Records, none, field, plain_payload, text, text_size}
use Rattle.wire_codec.specs.Sizes.{payload_sizes, sizes, cut, cut_sizes}

mutual
  payload_sizes_below : (p : ValuePayload) (n most : ℕ)
      → length (payload_text n (plain_payload p)) ≤ most → All (λ k. k ≤ most) (payload_sizes p)
  payload_sizes_below (varint v) n most h = All-nil (λ k. k ≤ most)
  payload_sizes_below (fixed64 v) n most h = All-nil (λ k. k ≤ most)
  payload_sizes_below (fixed32 v) n most h = All-nil (λ k. k ≤ most)
  payload_sizes_below (bytes b) n most h = All-nil (λ k. k ≤ most)
  payload_sizes_below (group rs) n most h =
      sizes_below rs most (omega (arith, length-append (text rs) (tag_text n EndGroup)))
  payload_sizes_below (embedded rs) n most h =
      let inner : text_size rs ≤ most = omega
      (arith, length-append (shortest_varint (text_size rs)) (text rs)) in
      All-cons (λ k. k ≤ most) (text_size rs) (sizes rs) inner (sizes_below rs most inner)

  pub sizes_below : (rs : Records) (most : ℕ) → text_size rs ≤ most → All (λ k. k ≤ most) (sizes rs)
  sizes_below none most h = All-nil (λ k. k ≤ most)
  sizes_below (field n p rest) most h =
      let tag = length-append (tag_text n (type_of (plain_payload p)))
      (payload_text n (plain_payload p) ++ text rest) in
      let payload = length-append (payload_text n (plain_payload p)) (text rest) in
      All-append (λ k. k ≤ most) (payload_sizes p) (sizes rest)
      (payload_sizes_below p n most (omega arith)) (sizes_below rest most (omega arith))

uncut : (ns : List ℕ) → All (λ k. k < 2 ^ 32) ns → map cut ns ≡ ns
uncut [] h = refl
uncut (n ∷ ns) h =
    let P : ℕ → Type 0 = λ k. k < 2 ^ 32 in
    let first : cut n ≡ n = omega (arith, All-head P n ns h) in
    let others : map cut ns ≡ ns = uncut ns (All-tail P n ns h) in
    cc

pub cut_sizes-below : (rs : Records) → text_size rs < 2 ^ 32 → cut_sizes rs ≡ sizes rs
cut_sizes-below rs small =
    let below = sizes_below rs (text_size rs) (omega arith) in
    uncut (sizes rs) (All-weaker (λ k. k ≤ text_size rs) (λ k. k < 2 ^ 32) (λ k h. omega arith)
    (sizes rs) below)

pub cut_sizes-small : (rs : Records) → text_size rs ≤ 2147483647 → cut_sizes rs ≡ sizes rs
cut_sizes-small rs small = cut_sizes-below rs (omega arith)

-- a size that was not cut
pub uncut_size : (answer n : ℕ) → answer ≡ cut n → answer ≤ 2147483647 → n ≤ 2147483647
uncut_size answer n is small = omega arith

pub whole_size : (answer n : ℕ) → answer ≡ cut n → n ≤ 2147483647 → answer ≡ n
whole_size answer n is small = omega arith

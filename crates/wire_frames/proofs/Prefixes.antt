-- Prefixes: one at most stands at the front, and bytes begin with one, wait for more, or have a
-- fault.
use Rattle.std.proofs.Common.{◌≡◌, ℕ, zero, suc, ◌<◌, ◌≤◌, ◌⊎◌, inl, inr, Bool, true, false, List, [], ◌∷◌, ◌++◌, length, take, drop, get_or, nat_eq, refl, sym, ap, subst, ◌∙◌, append_assoc, arith, length-append, length-take-le, take-append-drop}
use Rattle.std.proofs.lemmas.Bool.{cases_lt}
use Rattle.std.proofs.lemmas.List.{take_at, drop_at}
use Rattle.std.specs.Int.{w32, from_be_bytes}
use Rattle.wire_base.specs.declared.error.DecodeError.{DecodeError}
use Rattle.wire_base.specs.declared.error.DecodeError.TheVariants.{UnexpectedEof, VarintTooLong}
use Rattle.wire_base.specs.Read.{Reads}
use Rattle.wire_base.specs.Varint.{IsSpelling, VarintFault, cut_short, too_long}
use Rattle.wire_base.specs.VarintLaws.{OneVarint, NoVarintBesideFault, OneVarintFault, VarintOrFault, VarintOrFaultStands}
use Rattle.wire_frames.specs.declared.error.FrameError.{FrameError}
use Rattle.wire_frames.specs.declared.error.FrameError.TheVariants.{LengthTooLong, UnknownFlag}
use Rattle.wire_frames.specs.declared.frame.Framing.{Framing}
use Rattle.wire_frames.specs.declared.frame.Framing.TheVariants.{Delimited, Grpc}
use Rattle.wire_frames.specs.Prefix.{flag_of, IsPrefix, HasFlag, IsBegun, PrefixFault}

-- ---- varints

pub varint_of : (c : Bool) (len : ℕ) (bytes rest : List ℕ)
    → Reads bytes (IsPrefix Delimited c len) rest → Reads bytes (IsSpelling len) rest
varint_of c len bytes rest h =
    record { text = h.text; parts = h.parts; spelled = h.spelled.1 }

cut_or_long : (bytes : List ℕ) (e : DecodeError) → VarintFault bytes e
    → VarintFault bytes UnexpectedEof ⊎ VarintFault bytes VarintTooLong
cut_or_long bytes e (cut_short all few) = inl (cut_short all few)
cut_or_long bytes e (too_long front tenth rest parts all nine last) =
    inr (too_long front tenth rest parts all nine last)

long_behind : (bytes more : List ℕ) (e : DecodeError) → VarintFault bytes e → e ≡ VarintTooLong
    → VarintFault (bytes ++ more) VarintTooLong
long_behind bytes more e (cut_short all few) is = absurd cc
long_behind bytes more e (too_long front tenth rest parts all nine last) is =
    too_long front tenth (rest ++ more)
    (ap (λ (t : List ℕ). t ++ more) parts ∙ append_assoc front (tenth ∷ rest) more) all nine last

-- ---- flags

flag_is_small : (c : Bool) → flag_of c ≤ 1
flag_is_small true = omega arith
flag_is_small false = omega arith

same_flag : (c d : Bool) → flag_of c ≡ flag_of d → c ≡ d
same_flag true true e = refl
same_flag true false e = absurd (omega arith)
same_flag false true e = absurd (omega arith)
same_flag false false e = refl

flag_from : (flag : ℕ) → flag ≤ 1 → (c : Bool) × (flag_of c ≡ flag)
flag_from zero small = (false, refl)
flag_from (suc zero) small = (true, refl)
flag_from (suc (suc n)) small = absurd (omega arith)

-- the bytes, part by part
grpc_parts : (c : Bool) (len : ℕ) (bytes rest : List ℕ)
    (h : Reads bytes (IsPrefix Grpc c len) rest)
    → bytes ≡ flag_of c ∷ (h.spelled.number ++ rest)
grpc_parts c len bytes rest h = h.parts ∙ ap (λ (t : List ℕ). t ++ rest) h.spelled.parts

-- ---- one prefix

pub record SamePrefix (c d : Bool) (len other : ℕ) (r s : List ℕ) : Type 0 where
  pub flag : c ≡ d
  pub value : len ≡ other
  pub rest : r ≡ s

pub one_prefix : OneVarint → (form : Framing) (c d : Bool) (len other : ℕ) (bytes r s : List ℕ)
    → Reads bytes (IsPrefix form c len) r → Reads bytes (IsPrefix form d other) s
    → SamePrefix c d len other r s
one_prefix varint Delimited c d len other bytes r s h k =
    let same = varint bytes r s len other (varint_of c len bytes r h) (varint_of d other bytes s k)
    in
    record { flag = h.spelled.0 ∙ sym k.spelled.0; value = same.0; rest = same.1 }
one_prefix varint Grpc c d len other bytes r s h k =
    let m = h.spelled.number in
    let n = k.spelled.number in
    let same : flag_of c ∷ (m ++ r) ≡ flag_of d ∷ (n ++ s) =
    sym (grpc_parts c len bytes r h) ∙ grpc_parts d other bytes s k in
    let flags : flag_of c ≡ flag_of d = cc in
    let behind : m ++ r ≡ n ++ s = cc in
    let number : m ≡ n = sym (take_at m r 4 h.spelled.four)
    ∙ ap (λ (t : List ℕ). take 4 t) behind ∙ take_at n s 4 k.spelled.four in
    record {
      flag = same_flag c d flags;
      value = sym h.spelled.value ∙ ap (from_be_bytes w32) number ∙ k.spelled.value;
      rest = sym (drop_at m r 4 h.spelled.four) ∙ ap (λ (t : List ℕ). drop 4 t) behind
          ∙ drop_at n s 4 k.spelled.four;
    }

pub no_prefix_beside_begun : NoVarintBesideFault → (form : Framing) (c : Bool) (len : ℕ)
    (bytes rest : List ℕ) → Reads bytes (IsPrefix form c len) rest → IsBegun form bytes → ⊥
no_prefix_beside_begun beside Delimited c len bytes rest h begun =
    beside bytes rest len UnexpectedEof (varint_of c len bytes rest h) begun
no_prefix_beside_begun beside Grpc c len bytes rest h begun =
    let size = ap length (grpc_parts c len bytes rest h) in
    omega (arith, size, begun.0, h.spelled.four, length-append h.spelled.number rest)

pub no_prefix_beside_fault : NoVarintBesideFault → (form : Framing) (c : Bool) (len : ℕ)
    (bytes rest : List ℕ) (e : FrameError) → Reads bytes (IsPrefix form c len) rest
    → PrefixFault form bytes e → ⊥
no_prefix_beside_fault beside Delimited c len bytes rest e h fault =
    beside bytes rest len VarintTooLong (varint_of c len bytes rest h) fault.0
no_prefix_beside_fault beside Grpc c len bytes rest e h (flag, more, parts, large, is) =
    let same : flag_of c ∷ (h.spelled.number ++ rest) ≡ flag ∷ more =
    sym (grpc_parts c len bytes rest h) ∙ parts in
    let flags : flag_of c ≡ flag = cc in
    omega (arith, flags, flag_is_small c, large)

pub no_begun_beside_fault : OneVarintFault → (form : Framing) (bytes : List ℕ) (e : FrameError)
    → IsBegun form bytes → PrefixFault form bytes e → ⊥
no_begun_beside_fault one Delimited bytes e begun fault =
    let same : UnexpectedEof ≡ VarintTooLong =
    one bytes UnexpectedEof VarintTooLong begun fault.0 in
    absurd cc
no_begun_beside_fault one Grpc bytes e begun (flag, more, parts, large, is) =
    let small : flag ≤ 1 = subst HasFlag parts begun.1 in
    omega arith

pub one_prefix_fault : (form : Framing) (bytes : List ℕ) (e f : FrameError)
    → PrefixFault form bytes e → PrefixFault form bytes f → e ≡ f
one_prefix_fault Delimited bytes e f h k = h.1 ∙ sym k.1
one_prefix_fault Grpc bytes e f (flag, more, parts, large, is) (other, behind, same, big, named) =
    let both : flag ∷ more ≡ other ∷ behind = sym parts ∙ same in
    let flags : flag ≡ other = cc in
    is ∙ ap UnknownFlag flags ∙ sym named

-- ---- one of the three stands

abbrev pub PrefixOutcome : Framing → List ℕ → Type 0
PrefixOutcome form bytes =
    ((c : Bool) × (len : ℕ) × (rest : List ℕ) × Reads bytes (IsPrefix form c len) rest)
    ⊎ (IsBegun form bytes ⊎ ((e : FrameError) × PrefixFault form bytes e))

-- what is read at a flag
flag_is : (flag : ℕ) → flag ≤ 1 → flag_of (nat_eq flag 1) ≡ flag
flag_is zero small = refl
flag_is (suc zero) small = refl
flag_is (suc (suc n)) small = absurd (omega arith)

first_of : (bytes chunk : List ℕ) → take (length chunk) bytes ≡ chunk → 0 < length chunk
    → bytes ≡ get_or chunk 0 0 ∷ drop 1 bytes
first_of bytes [] front some = absurd (omega arith)
first_of [] (x ∷ chunk) front some = absurd cc
first_of (b ∷ bytes) (x ∷ chunk) front some =
    let same : b ≡ x = cc in ap (λ (f : ℕ). f ∷ bytes) same

pub grpc_from : (bytes mid new chunk : List ℕ) (flag len : ℕ)
    → take (length chunk) bytes ≡ chunk → 0 < length chunk → flag ≡ get_or chunk 0 0 → flag ≤ 1
    → 5 ≤ length bytes → mid ≡ drop 1 bytes → len ≡ from_be_bytes w32 (take 4 mid)
    → new ≡ drop 4 mid → Reads bytes (IsPrefix Grpc (nat_eq flag 1) len) new
grpc_from bytes mid new chunk flag len front some first small five behind value rest =
    let parts : bytes ≡ flag ∷ mid = first_of bytes chunk front some
    ∙ ap (λ (f : ℕ). f ∷ drop 1 bytes) (sym first) ∙ ap (λ (t : List ℕ). flag ∷ t) (sym behind) in
    let four : 4 ≤ length mid = omega (arith, ap length parts) in
    record {
      text = flag ∷ take 4 mid;
      parts = parts ∙ ap (λ (t : List ℕ). flag ∷ t)
          (sym (take-append-drop 4 mid) ∙ ap (λ (t : List ℕ). take 4 mid ++ t) (sym rest));
      spelled = record {
        number = take 4 mid;
        parts = ap (λ (f : ℕ). f ∷ take 4 mid) (sym (flag_is flag small));
        four = length-take-le 4 mid four;
        value = sym value;
      };
    }

-- behind a flag, four bytes or fewer
behind_flag : (flag : ℕ) (more : List ℕ) → flag ≤ 1
    → (length more < 4) ⊎ (4 ≤ length more) → PrefixOutcome Grpc (flag ∷ more)
behind_flag flag more small (inl few) = inr (inl (omega arith, small))
behind_flag flag more small (inr there) =
    let known = flag_from flag small in
    inl (
      known.0,
      from_be_bytes w32 (take 4 more),
      drop 4 more,
      record {
        text = flag ∷ take 4 more;
        parts = ap (λ (t : List ℕ). flag ∷ t) (sym (take-append-drop 4 more));
        spelled = record {
          number = take 4 more;
          parts = ap (λ (f : ℕ). f ∷ take 4 more) (sym known.1);
          four = length-take-le 4 more there;
          value = refl;
        };
      },
    )

at_flag : (flag : ℕ) (more : List ℕ) → (1 < flag) ⊎ (flag ≤ 1) → PrefixOutcome Grpc (flag ∷ more)
at_flag flag more (inl large) =
    inr (inr (UnknownFlag flag, (flag, more, refl, omega arith, refl)))
at_flag flag more (inr small) = behind_flag flag more small (cases_lt (length more) 4)

at_varint : (bytes : List ℕ) → VarintOrFault bytes → PrefixOutcome Delimited bytes
at_varint bytes (inl (v, rest, h)) =
    inl (false, v, rest, record { text = h.text; parts = h.parts; spelled = (refl, h.spelled) })
at_varint bytes (inr (e, fault)) = at_fault (cut_or_long bytes e fault)
  where
    at_fault : VarintFault bytes UnexpectedEof ⊎ VarintFault bytes VarintTooLong
        → PrefixOutcome Delimited bytes
    at_fault (inl cut) = inr (inl cut)
    at_fault (inr long) = inr (inr (LengthTooLong, (long, refl)))

pub prefix_outcome : VarintOrFaultStands → (form : Framing) (bytes : List ℕ)
    → PrefixOutcome form bytes
prefix_outcome stands Delimited bytes = at_varint bytes (stands bytes)
prefix_outcome stands Grpc [] = inr (inl (omega arith, tt))
prefix_outcome stands Grpc (flag ∷ more) = at_flag flag more (cases_lt 1 flag)

-- ---- bytes behind

pub Reads-behind : {P : List ℕ → Type 0} (old new more : List ℕ) → Reads old P new
    → Reads (old ++ more) P (new ++ more)
Reads-behind old new more h = record {
  text = h.text;
  parts = ap (λ (t : List ℕ). t ++ more) h.parts ∙ append_assoc h.text new more;
  spelled = h.spelled;
}

pub fault_behind : (form : Framing) (bytes more : List ℕ) (e : FrameError)
    → PrefixFault form bytes e → PrefixFault form (bytes ++ more) e
fault_behind Delimited bytes more e h = (long_behind bytes more VarintTooLong h.0 refl, h.1)
fault_behind Grpc bytes more e (flag, behind, parts, large, is) =
    (flag, behind ++ more, ap (λ (t : List ℕ). t ++ more) parts, large, is)

-- ---- lengths

pub prefix_is_some : (form : Framing) (c : Bool) (len : ℕ) (text : List ℕ)
    → IsPrefix form c len text → 0 < length text
prefix_is_some Delimited c len [] h = absurd h.1.ended
prefix_is_some Delimited c len (b ∷ text) h = omega arith
prefix_is_some Grpc c len text h = omega (arith, ap length h.parts)

pub nothing_is_begun : (form : Framing) → IsBegun form []
nothing_is_begun Delimited = cut_short tt (omega arith)
nothing_is_begun Grpc = (omega arith, tt)

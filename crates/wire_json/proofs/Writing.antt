-- The compact text of a string, run by run.
use Rattle.std.proofs.Common.{◌≡◌, ℕ, ◌+◌, ◌-◌, ◌≤◌, true, false, List, [], ◌∷◌, ◌++◌, take, drop, refl, sym, ap, ◌∙◌, append_assoc, append-nil, arith}
use Rattle.std.proofs.lemmas.Bool.Decides.{nat_tests}
use Rattle.wire_json.specs.Bytes.{begins, past}
use Rattle.wire_json.specs.Compact.{Extends}
use Rattle.wire_json.specs.Part.{is_plain}
use Rattle.wire_json.specs.Written.{written_byte, written_bytes}
use Rattle.wire_json.proofs.Runs.{Plain, between_places, past_stops, slice_plain}

-- a plain byte is written as it is
pub plain_written : (b : ℕ) → is_plain b ≡ true → written_byte b ≡ b ∷ []
plain_written b h = grind (arith, nat_tests)

pub run_written : (run rest : List ℕ) → Plain run
    → written_bytes (run ++ rest) ≡ run ++ written_bytes rest
run_written [] rest plain = refl
run_written (b ∷ run) rest (one, others) =
    ap (λ (l : List ℕ). l ++ written_bytes (run ++ rest)) (plain_written b one)
    ∙ ap (λ (l : List ℕ). b ∷ l) (run_written run rest others)

-- the bytes up to the next that is to be escaped
pub run_between : (bytes : List ℕ) (place end : ℕ) → place ≤ end
    → drop end bytes ≡ past is_plain (drop place bytes)
    → written_bytes (drop place bytes)
    ≡ take (end - place) (drop place bytes) ++ written_bytes (drop end bytes)
run_between bytes place end order stops =
    ap written_bytes (between_places bytes place end order)
    ∙ run_written (take (end - place) (drop place bytes)) (drop end bytes)
    (slice_plain bytes place end order stops)

pub escape_next : (bytes : List ℕ) (place end byte : ℕ)
    → drop end bytes ≡ past is_plain (drop place bytes)
    → drop end bytes ≡ byte ∷ drop (end + 1) bytes → is_plain byte ≡ false
escape_next bytes place end byte stops here =
    ap (begins is_plain) (sym here ∙ stops) ∙ past_stops is_plain (drop place bytes)

-- one run and one escape more
pub goes_on : (bytes old now : List ℕ) (place end byte : ℕ) → place ≤ end
    → drop end bytes ≡ past is_plain (drop place bytes)
    → drop end bytes ≡ byte ∷ drop (end + 1) bytes
    → now ++ written_bytes (drop place bytes) ≡ old ++ written_bytes bytes
    → ((now ++ take (end - place) (drop place bytes)) ++ written_byte byte)
    ++ written_bytes (drop (end + 1) bytes) ≡ old ++ written_bytes bytes
goes_on bytes old now place end byte order stops here all =
    let run = take (end - place) (drop place bytes) in
    append_assoc (now ++ run) (written_byte byte) (written_bytes (drop (end + 1) bytes))
    ∙ ap (λ (l : List ℕ). (now ++ run) ++ written_bytes l) (sym here)
    ∙ append_assoc now run (written_bytes (drop end bytes))
    ∙ ap (λ (l : List ℕ). now ++ l) (sym (run_between bytes place end order stops)) ∙ all

pub ends : (bytes old now : List ℕ) (place end : ℕ) → place ≤ end
    → drop end bytes ≡ past is_plain (drop place bytes) → drop end bytes ≡ []
    → now ++ written_bytes (drop place bytes) ≡ old ++ written_bytes bytes
    → now ++ take (end - place) (drop place bytes) ≡ old ++ written_bytes bytes
ends bytes old now place end order stops here all =
    let run = take (end - place) (drop place bytes) in
    ap (λ (l : List ℕ). now ++ l) (sym (append-nil run)
    ∙ ap (λ (l : List ℕ). run ++ written_bytes l) (sym here)
    ∙ sym (run_between bytes place end order stops)) ∙ all

-- the text of one part behind that of another
pub written-append : (xs ys : List ℕ)
    → written_bytes (xs ++ ys) ≡ written_bytes xs ++ written_bytes ys
written-append [] ys = refl
written-append (b ∷ xs) ys =
    ap (λ (l : List ℕ). written_byte b ++ l) (written-append xs ys)
    ∙ sym (append_assoc (written_byte b) (written_bytes xs) (written_bytes ys))

pub plain_as_it_is : (run : List ℕ) → Plain run → written_bytes run ≡ run
plain_as_it_is run plain =
    ap written_bytes (sym (append-nil run)) ∙ run_written run [] plain ∙ append-nil run

-- a run more
pub run_more : (old bytes run : List ℕ) → Plain run
    → (old ++ written_bytes bytes) ++ run ≡ old ++ written_bytes (bytes ++ run)
run_more old bytes run plain =
    append_assoc old (written_bytes bytes) run
    ∙ ap (λ (l : List ℕ). old ++ l) (ap (λ (l : List ℕ). written_bytes bytes ++ l)
    (sym (plain_as_it_is run plain)) ∙ sym (written-append bytes run))

-- a run and a character more
pub char_more : (old before bytes run char : List ℕ) → Plain run
    → before ≡ old ++ written_bytes bytes
    → (before ++ run) ++ written_bytes char ≡ old ++ written_bytes ((bytes ++ run) ++ char)
char_more old before bytes run char plain is =
    ap (λ (l : List ℕ). (l ++ run) ++ written_bytes char) is
    ∙ ap (λ (l : List ℕ). l ++ written_bytes char) (run_more old bytes run plain)
    ∙ append_assoc old (written_bytes (bytes ++ run)) (written_bytes char)
    ∙ ap (λ (l : List ℕ). old ++ l) (sym (written-append (bytes ++ run) char))

-- ---- what was put behind what there was

pub grows : (old now sofar more : List ℕ) (first : ℕ) → now ≡ old ++ first ∷ sofar
    → now ++ more ≡ old ++ first ∷ (sofar ++ more)
grows old now sofar more first is =
    ap (λ (l : List ℕ). l ++ more) is ∙ append_assoc old (first ∷ sofar) more

pub extends_further : (old now new : List ℕ) → Extends old now → Extends now new → Extends old new
extends_further old now new (front, is) (more, then) =
    (front ++ more, then ∙ ap (λ (l : List ℕ). l ++ more) is ∙ append_assoc old front more)

-- The text of members, field by field.
use Rattle.std.proofs.Common.{◌≡◌, ◌≢◌, ℕ, Bool, true, false, ◌&&◌, List, [], ◌∷◌, ◌++◌, Result, Ok, Err, inl, inr, Option, None, refl, sym, ap, ◌∙◌, subst, append_assoc, append-nil}
use Rattle.std.specs.Prelude.{IfOk, OnOk}
use Rattle.wire_json.specs.Json.{Json, object, Members, no_member, member}
use Rattle.wire_json.specs.Written.{written, written_name, written_members, written_more_members}
use Rattle.wire_jsonfields.specs.Oneofs.{OneofTrees}
use Rattle.wire_jsonfields.specs.Parts.{BothTrees}
use Rattle.wire_jsonfields.specs.Messages.{IsFieldTree, IsObjectTree, comma_unless, is_no_member, members_joined, text_behind, text_of_members}

behind_joined : (ms others : Members)
    → text_behind (members_joined ms others) ≡ text_behind ms ++ text_behind others
behind_joined no_member others = refl
behind_joined (member n e ms) others =
    ap (λ (l : List ℕ). 44 ∷ (written_name n ++ (written e ++ l))) (behind_joined ms others)
    ∙ ap (λ (l : List ℕ). 44 ∷ (written_name n ++ l))
    (sym (append_assoc (written e) (text_behind ms) (text_behind others)))
    ∙ ap (λ (l : List ℕ). 44 ∷ l)
    (sym (append_assoc (written_name n) (written e ++ text_behind ms) (text_behind others)))

text_joined : (ms others : Members) → text_of_members true (members_joined ms others)
    ≡ text_of_members true ms ++ text_of_members (is_no_member ms) others
text_joined no_member others = refl
text_joined (member n e ms) others =
    ap (λ (l : List ℕ). written_name n ++ (written e ++ l)) (behind_joined ms others)
    ∙ ap (λ (l : List ℕ). written_name n ++ l)
    (sym (append_assoc (written e) (text_behind ms) (text_behind others)))
    ∙ sym (append_assoc (written_name n) (written e ++ text_behind ms) (text_behind others))

empty_joined : (ms others : Members)
    → is_no_member (members_joined ms others) ≡ (is_no_member ms && is_no_member others)
empty_joined no_member others = refl
empty_joined (member n e ms) others = refl

more_closed : (ms : Members) → written_more_members ms ≡ text_behind ms ++ 125 ∷ []
more_closed no_member = refl
more_closed (member n e ms) =
    ap (λ (l : List ℕ). 44 ∷ (written_name n ++ (written e ++ l))) (more_closed ms)
    ∙ ap (λ (l : List ℕ). 44 ∷ (written_name n ++ l))
    (sym (append_assoc (written e) (text_behind ms) (125 ∷ [])))
    ∙ ap (λ (l : List ℕ). 44 ∷ l)
    (sym (append_assoc (written_name n) (written e ++ text_behind ms) (125 ∷ [])))

closed : (ms : Members) → written_members ms ≡ text_of_members true ms ++ 125 ∷ []
closed no_member = refl
closed (member n e ms) =
    ap (λ (l : List ℕ). written_name n ++ (written e ++ l)) (more_closed ms)
    ∙ ap (λ (l : List ℕ). written_name n ++ l)
    (sym (append_assoc (written e) (text_behind ms) (125 ∷ [])))
    ∙ sym (append_assoc (written_name n) (written e ++ text_behind ms) (125 ∷ []))

-- the text of members from wherever they begin
text_behind_joined : (first : Bool) (ms others : Members)
    → text_of_members first (members_joined ms others)
    ≡ text_of_members first ms ++ text_of_members (first && is_no_member ms) others
text_behind_joined true ms others = text_joined ms others
text_behind_joined false ms others = behind_joined ms others

and_assoc : (a b c : Bool) → ((a && b) && c) ≡ (a && (b && c))
and_assoc true b c = refl
and_assoc false b c = refl

-- members, and others behind them
pub both_put : (first next last : Bool) (ms others : Members) (old mid new : List ℕ)
    → mid ≡ old ++ text_of_members first ms → next ≡ (first && is_no_member ms)
    → new ≡ mid ++ text_of_members next others → last ≡ (next && is_no_member others)
    → (new ≡ old ++ text_of_members first (members_joined ms others))
    × (last ≡ (first && is_no_member (members_joined ms others)))
both_put first next last ms others old mid new one is other then_is = (
  other ∙ ap (λ (l : List ℕ). l ++ text_of_members next others) one
      ∙ append_assoc old (text_of_members first ms) (text_of_members next others)
      ∙ ap (λ (b : Bool). old ++ (text_of_members first ms ++ text_of_members b others)) is
      ∙ ap (λ (l : List ℕ). old ++ l) (sym (text_behind_joined first ms others)),
  then_is ∙ ap (λ (b : Bool). b && is_no_member others) is
      ∙ and_assoc first (is_no_member ms) (is_no_member others)
      ∙ ap (λ (b : Bool). first && b) (sym (empty_joined ms others)),
)

module _ {V W : Type 0} (P : V → Members → Type 0) (Q : W → Members → Type 0) (v : V) (w : W)
    (first next : Bool) (xs : Members) (old mid new : List ℕ) where
  pub put_both : P v xs → mid ≡ old ++ text_of_members first xs
      → next ≡ (first && is_no_member xs) → {E : Type 0} (r : Result Bool E)
      → IfOk r (λ last. (ys : Members) × Q w ys × (new ≡ mid ++ text_of_members next ys)
      × (last ≡ (next && is_no_member ys)))
      → IfOk r (λ last. (ms : Members) × BothTrees P Q (v, w) ms
      × (new ≡ old ++ text_of_members first ms) × (last ≡ (first && is_no_member ms)))
  put_both one put is (Ok last) (ys, other, behind, then_is) =
      let both = both_put first next last xs ys old mid new put is behind then_is in
      (members_joined xs ys, (xs, ys, one, other, refl), both.0, both.1)
  put_both one put is (Err e) h = tt

-- ---- a message

-- the front of an object of these members was put behind what there was
pub record Begun (old out : List ℕ) (first : Bool) (ms : Members) : Type 0 where
  pub text : out ≡ old ++ (123 ∷ text_of_members true ms)
  pub none : first ≡ is_no_member ms

pub begun : (old out : List ℕ) → out ≡ old ++ 123 ∷ [] → Begun old out true no_member
begun old out put = record { text = put; none = refl }

pub with_field : (old out : List ℕ) (first : Bool) (ms : Members) (new : List ℕ) (next : Bool)
    (field : Members) → Begun old out first ms → new ≡ out ++ text_of_members first field
    → next ≡ (first && is_no_member field) → Begun old new next (members_joined ms field)
with_field old out first ms new next field s put is = record {
  text = put ∙ ap (λ (l : List ℕ). l ++ text_of_members first field) s.text
      ∙ append_assoc old (123 ∷ text_of_members true ms) (text_of_members first field)
      ∙ ap (λ (b : Bool). old ++ (123 ∷ (text_of_members true ms ++ text_of_members b field))) s.none
      ∙ ap (λ (l : List ℕ). old ++ (123 ∷ l)) (sym (text_joined ms field));
  none = is ∙ ap (λ (b : Bool). b && is_no_member field) s.none ∙ sym (empty_joined ms field);
}

ended : (old out : List ℕ) (first : Bool) (ms : Members) (new : List ℕ) → Begun old out first ms
    → new ≡ out ++ 125 ∷ [] → new ≡ old ++ written (object ms)
ended old out first ms new s put =
    put ∙ ap (λ (l : List ℕ). l ++ 125 ∷ []) s.text
    ∙ append_assoc old (123 ∷ text_of_members true ms) (125 ∷ [])
    ∙ ap (λ (l : List ℕ). old ++ (123 ∷ l)) (sym (closed ms))

pub written_whole : {V : Type 0} (Trees : V → Members → Type 0) (v : V) (old out : List ℕ)
    (first : Bool) (ms : Members) → Begun old out first ms → Trees v ms → (new : List ℕ)
    → new ≡ out ++ 125 ∷ []
    → (json : Json) × IsObjectTree Trees v json × (new ≡ old ++ written json)
written_whole Trees v old out first ms s trees new put =
    (object ms, (ms, trees, refl), ended old out first ms new s put)

-- ---- a field

none_text : (first : Bool) → text_of_members first no_member ≡ []
none_text true = refl
none_text false = refl

still : (first : Bool) → first ≡ (first && true)
still true = refl
still false = refl

pub not_first : (first : Bool) → false ≡ (first && false)
not_first true = refl
not_first false = refl

-- nothing is written where there is no member
pub none_put : (first : Bool) (items : List ℕ)
    → (items ≡ items ++ text_of_members first no_member)
    × (first ≡ (first && is_no_member no_member))
none_put first items =
    (sym (append-nil items) ∙ ap (λ (l : List ℕ). items ++ l) (sym (none_text first)), still first)

-- nothing is written of a oneof that has no value
pub none_chosen : {V : Type 0} (Trees : V → Members → Type 0) (o : Option V) → o ≡ None
    → (first : Bool) (items : List ℕ) → (ms : Members) × OneofTrees Trees o ms
    × (items ≡ items ++ text_of_members first ms) × (first ≡ (first && is_no_member ms))
none_chosen Trees o none first items =
    let (put, next) = none_put first items in
    (no_member, subst (λ x. OneofTrees Trees x no_member) (sym none) refl, put, next)

module _ {V : Type 0} (absent : V) (Tree : V → Json → Type 0) (name : List ℕ) (v : V) where
  pub field_absent : (first : Bool) (items : List ℕ) → v ≡ absent
      → (ms : Members) × IsFieldTree absent Tree name v ms
      × (items ≡ items ++ text_of_members first ms) × (first ≡ (first && is_no_member ms))
  field_absent first items is =
      let (put, next) = none_put first items in
      (no_member, inl (is, refl), put, next)

  -- a field with its member
  pub field_present : (first : Bool) (old new : List ℕ) → v ≢ absent
      → (e : Json) × Tree v e × (new ≡ old ++ text_of_members first (member name e no_member))
      → (ms : Members) × IsFieldTree absent Tree name v ms
      × (new ≡ old ++ text_of_members first ms) × (false ≡ (first && is_no_member ms))
  field_present first old new other (e, tree, put) =
      (member name e no_member, inr (other, (e, tree, refl)), put, not_first first)

one_text : (first : Bool) (name : List ℕ) (e : Json)
    → text_of_members first (member name e no_member)
    ≡ comma_unless first ++ (written_name name ++ (written e ++ []))
one_text true name e = refl
one_text false name e = refl

-- the text of a member, piece by piece
pub member_text : (first : Bool) (name : List ℕ) (e : Json) (old mid named new : List ℕ)
    → mid ≡ old ++ comma_unless first → named ≡ mid ++ written_name name
    → new ≡ named ++ written e
    → new ≡ old ++ text_of_members first (member name e no_member)
member_text first name e old mid named new comma naming put =
    put ∙ ap (λ (l : List ℕ). l ++ written e) naming
    ∙ append_assoc mid (written_name name) (written e)
    ∙ ap (λ (l : List ℕ). mid ++ (written_name name ++ l)) (sym (append-nil (written e)))
    ∙ ap (λ (l : List ℕ). l ++ (written_name name ++ (written e ++ []))) comma
    ∙ append_assoc old (comma_unless first) (written_name name ++ (written e ++ []))
    ∙ ap (λ (l : List ℕ). old ++ l) (sym (one_text first name e))

pub member_put : {V : Type 0} (Tree : V → Json → Type 0) (v : V) (first : Bool) (name : List ℕ)
    (old mid named : List ℕ) → mid ≡ old ++ comma_unless first
    → named ≡ mid ++ written_name name → {T E : Type 0} (r : Result T E) (new : List ℕ)
    → OnOk r ((e : Json) × Tree v e × (new ≡ named ++ written e))
    → OnOk r ((e : Json) × Tree v e
    × (new ≡ old ++ text_of_members first (member name e no_member)))
member_put Tree v first name old mid named comma naming (Ok x) new (e, tree, put) =
    (e, tree, member_text first name e old mid named new comma naming put)
member_put Tree v first name old mid named comma naming (Err x) new h = tt

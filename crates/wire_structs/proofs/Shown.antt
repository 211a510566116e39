-- What is shown of a value is read where the value is.
use Rattle.std.proofs.Common.{◌≡◌, ap, ◌∙◌, sym, subst, refl, List, Bool, true, false}
use Rattle.std.specs.Prelude.{ℕ, Option, Some, None, option_map, ◌||◌, if◌then◌else◌}
use Rattle.wire_codec.specs.Field.{Payload, Fields, none, field, push}
use Rattle.wire_codec.specs.Folds.{Step, Folds}
use Rattle.wire_codec.specs.Limits.{Limits, Charge}
use Rattle.wire_codec.specs.Taking.{Decodes, NotDecoded}
use Rattle.wire_fields.specs.Messages.{Encoding, inside, or_else, merges, once_in}
use Rattle.wire_fields.specs.Oneof.{Variants, variant, either_of}
use Rattle.wire_fields.specs.Shape.{Owns, on, either, same_pair, Lawful, Shape, known}
use Rattle.wire_fields.specs.Shape.{two, unknown}
use Rattle.wire_structs.specs.Passed.{passed_by}
use Rattle.wire_structs.specs.Showing.{ShowsSteps, ShowsShape}

-- ---- lists of records

module _ {V W : Type 0} (show : V → W) (s : Step V) (t : Step W) (h : ShowsSteps show s t) where
  pub folds_on : (m : V) (fs : Fields) (c : Charge) (z : V) → Folds s m fs c z
      → Folds t (show m) fs c (show z)
  folds_on m none c z k = (k.0, ap show k.1)
  folds_on m (field n p others) c z (mid, first, rest, step, more, sum) =
      (show mid, first, rest, h.on m n p first mid step, folds_on mid others rest z more, sum)

  pub folds_back : (m : V) (fs : Fields) (c : Charge) (w : W) → Folds t (show m) fs c w
      → (z : V) × Folds s m fs c z × (w ≡ show z)
  folds_back m none c w k = (m, (k.0, refl), k.1)
  folds_back m (field n p others) c w (mid, first, rest, step, more, sum) =
      let one = h.back m n p first mid step in
      let behind = folds_back one.0 others rest w
      (subst (λ x. Folds t x others rest w) one.2 more) in
      (behind.0, (one.0, first, rest, one.1, behind.1, sum), behind.2)

  pub decodes_back : (l : Limits) (m : V) (bytes : List ℕ) (w : W) → Decodes t l (show m) bytes w
      → (z : V) × Decodes s l m bytes z × (w ≡ show z)
  decodes_back l m bytes w k =
      let folded = folds_back m k.1.fields k.0 w k.1.folded in (
        folded.0,
        (k.0, record { fields = k.1.fields; read = k.1.read; folded = folded.1 }),
        folded.2,
      )

  pub not_decoded_back : (l : Limits) (m : V) (bytes : List ℕ) → NotDecoded t l (show m) bytes
      → NotDecoded s l m bytes
  not_decoded_back l m bytes not z k = not (show z) (
    k.0,
    record {
      fields = k.1.fields;
      read = k.1.read;
      folded = folds_on m k.1.fields k.0 z k.1.folded;
    },
  )

-- ---- shapes

-- all of a value is shown
pub all_shown : {V : Type 0} (s : Step V) → ShowsSteps (λ v. v) s s
all_shown s = record { on = λ m n p c z h. h; back = λ m n p c w h. (w, h, refl) }

-- one field
pub known_shown : {V W : Type 0} (show : V → W) (n : ℕ) (f : Lawful V) (g : Lawful W)
    → g.kind.default ≡ show f.kind.default → ShowsSteps show f.kind.takes g.kind.takes
    → ShowsShape show (known n f) (known n g)
known_shown show n f g default steps = record {
  owns = λ k p. refl;
  default = default;
  steps = steps;
}

-- a field all of which is shown
pub same_shown : {V : Type 0} (n : ℕ) (f : Lawful V) → ShowsShape (λ v. v) (known n f) (known n f)
same_shown n f = known_shown (λ v. v) n f f refl (all_shown f.kind.takes)

-- fields all of which are shown
pub same_shape : {V : Type 0} (s : Shape V) → ShowsShape (λ v. v) s s
same_shape s = record { owns = λ n p. refl; default = refl; steps = all_shown s.takes }

-- the unknown fields, which are not shown
pub unknown_shown : ShowsShape (λ fs. tt) unknown passed_by
unknown_shown = record {
  owns = λ n p. refl;
  default = refl;
  steps = record {
    on = λ m n p c z h. h.0;
    back = λ m n p c w h. (push m n p, (h, refl), refl);
  };
}

-- two parts of a value
module _ {A B C D : Type 0} (show : A → C) (reveal : B → D) (one : Step A) (other : Step B)
    (one_too : Step C) (other_too : Step D) (first : ShowsSteps show one one_too)
    (second : ShowsSteps reveal other other_too) where
  on_either : (b : Bool) (m z : A × B) (n : ℕ) (p : Payload) (c : Charge)
      → on b (one m.0 n p c z.0 × (z.1 ≡ m.1)) (other m.1 n p c z.1 × (z.0 ≡ m.0))
      → on b (one_too (show m.0) n p c (show z.0) × (reveal z.1 ≡ reveal m.1))
      (other_too (reveal m.1) n p c (reveal z.1) × (show z.0 ≡ show m.0))
  on_either true m z n p c h = (first.on m.0 n p c z.0 h.0, ap reveal h.1)
  on_either false m z n p c h = (second.on m.1 n p c z.1 h.0, ap show h.1)

  back_either : (b : Bool) (m : A × B) (w : C × D) (n : ℕ) (p : Payload) (c : Charge)
      → on b (one_too (show m.0) n p c w.0 × (w.1 ≡ reveal m.1))
      (other_too (reveal m.1) n p c w.1 × (w.0 ≡ show m.0))
      → (z : A × B) × on b (one m.0 n p c z.0 × (z.1 ≡ m.1)) (other m.1 n p c z.1 × (z.0 ≡ m.0))
      × (w ≡ (show z.0, reveal z.1))
  back_either true m w n p c h =
      let mine = first.back m.0 n p c w.0 h.0 in
      ((mine.0, m.1), (mine.1, refl), same_pair w (show mine.0, reveal m.1) mine.2 h.1)
  back_either false m w n p c h =
      let mine = second.back m.1 n p c w.1 h.0 in
      ((m.0, mine.0), (mine.1, refl), same_pair w (show m.0, reveal mine.0) h.1 mine.2)

  pub either_shown : (owns owns_too : Owns) → ((n : ℕ) (p : Payload) → owns_too n p ≡ owns n p)
      → ShowsSteps (λ m. (show m.0, reveal m.1)) (either owns one other)
      (either owns_too one_too other_too)
  either_shown owns owns_too same = record {
    on = λ m n p c z h.
        rw (same n p) (on_either (owns n p) m z n p c h);
    back = λ m n p c w h. back_either (owns n p) m w n p c (rw (same n p) at h);
  }

pub two_shown : {A B C D : Type 0} (show : A → C) (reveal : B → D) (a : Shape A) (b : Shape B)
    (c : Shape C) (d : Shape D) → ShowsShape show a c → ShowsShape reveal b d
    → ShowsShape (λ m. (show m.0, reveal m.1)) (two a b) (two c d)
two_shown show reveal a b c d first second = record {
  owns = λ n p. ap (λ x. x || d.owns n p) (first.owns n p)
      ∙ ap (λ x. a.owns n p || x) (second.owns n p);
  default = same_pair (c.default, d.default) (show a.default, reveal b.default) first.default
      second.default;
  steps = either_shown show reveal a.takes b.takes c.takes d.takes first.steps second.steps a.owns
      c.owns first.owns;
}

-- ---- messages inside

module _ {V W : Type 0} (show : V → W) (encoding : Encoding) (s : Step V) (t : Step W)
    (h : ShowsSteps show s t) where
  pub inside_shown : ShowsSteps show (inside encoding s) (inside encoding t)
  inside_shown = record {
    on = λ m n p c z (fs, within, has, folded, charged).
        (fs, within, has, folds_on show s t h m fs within z folded, charged);
    back = λ m n p c w (fs, within, has, folded, charged).
        let one = folds_back show s t h m fs within w folded in
        (one.0, (fs, within, has, one.1, charged), one.2);
  }

  begun : (start : V) (m : Option V) → or_else (show start) (option_map show m)
      ≡ show (or_else start m)
  begun start None = refl
  begun start (Some v) = refl

  pub merges_shown : (start : V) (start_too : W) → start_too ≡ show start
      → ShowsSteps (option_map show) (merges encoding s start) (merges encoding t start_too)
  merges_shown start start_too same = record {
    on = λ m n p c z (after, step, is). (
      show after,
      subst (λ x. inside encoding t x n p c (show after))
          (sym (ap (λ x. or_else x (option_map show m)) same ∙ begun start m))
          (inside_shown.on (or_else start m) n p c after step),
      ap (option_map show) is,
    );
    back = λ m n p c w (after, step, is).
        let one = inside_shown.back (or_else start m) n p c after
        (subst (λ x. inside encoding t x n p c after)
        (ap (λ x. or_else x (option_map show m)) same ∙ begun start m) step) in
        (Some one.0, (one.0, one.1, refl), is ∙ ap Some one.2);
  }

-- a message inside, where there is one
pub once_shown : {V W : Type 0} (show : V → W) (n : ℕ) (encoding : Encoding) (s : Shape V)
    (t : Shape W) → ShowsShape show s t
    → ShowsShape (option_map show) (known n (once_in encoding s)) (known n (once_in encoding t))
once_shown show n encoding s t h =
    known_shown (option_map show) n (once_in encoding s) (once_in encoding t) refl
    (merges_shown show encoding s.takes t.takes h.steps s.default t.default h.default)

-- ---- oneofs

started : {T U : Type 0} (reveal : T → U) (start : T) (m : Option T)
    → or_else (reveal start) (option_map reveal m) ≡ reveal (or_else start m)
started reveal start None = refl
started reveal start (Some v) = refl

-- one variant of two oneofs
module _ {V W T U : Type 0} (show : V → W) (reveal : T → U) (n : ℕ) (f : Lawful T) (g : Lawful U)
    (get : V → Option T) (get_too : W → Option U) (set : T → V) (set_too : U → W)
    (begins : g.kind.default ≡ reveal f.kind.default)
    (gets : (m : V) → get_too (show m) ≡ option_map reveal (get m))
    (puts : (x : T) → set_too (reveal x) ≡ show (set x))
    (h : ShowsSteps reveal f.kind.takes g.kind.takes) where
  stands : (m : V) → or_else g.kind.default (get_too (show m))
      ≡ reveal (or_else f.kind.default (get m))
  stands m =
      ap (λ x. or_else x (get_too (show m))) begins
      ∙ ap (or_else (reveal f.kind.default)) (gets m)
      ∙ started reveal f.kind.default (get m)

  pub variant_shown :
      ShowsSteps show (variant n f get set).takes (variant n g get_too set_too).takes
  variant_shown = record {
    on = λ m k p c z (x, step, is). (
      reveal x,
      subst (λ y. g.kind.takes y k p c (reveal x)) (sym (stands m))
          (h.on (or_else f.kind.default (get m)) k p c x step),
      ap show is ∙ sym (puts x),
    );
    back = λ m k p c w (u, step, is).
        let one = h.back (or_else f.kind.default (get m)) k p c u
        (subst (λ y. g.kind.takes y k p c u) (stands m) step) in
        (set one.0, (one.0, one.1, refl), is ∙ ap set_too one.2 ∙ puts one.0);
  }

-- some variants, or others
module _ {V W : Type 0} (show : V → W) (a b : Variants V) (c d : Variants W)
    (same : (n : ℕ) (p : Payload) → c.owns n p ≡ a.owns n p)
    (first : ShowsSteps show a.takes c.takes) (second : ShowsSteps show b.takes d.takes) where
  on_choice : (mine : Bool) (m z : V) (n : ℕ) (p : Payload) (e : Charge)
      → on mine (a.takes m n p e z) (b.takes m n p e z)
      → on mine (c.takes (show m) n p e (show z)) (d.takes (show m) n p e (show z))
  on_choice true m z n p e h = first.on m n p e z h
  on_choice false m z n p e h = second.on m n p e z h

  back_choice : (mine : Bool) (m : V) (w : W) (n : ℕ) (p : Payload) (e : Charge)
      → on mine (c.takes (show m) n p e w) (d.takes (show m) n p e w)
      → (z : V) × on mine (a.takes m n p e z) (b.takes m n p e z) × (w ≡ show z)
  back_choice true m w n p e h = first.back m n p e w h
  back_choice false m w n p e h = second.back m n p e w h

  pub either_of_shown : ShowsSteps show (either_of a b).takes (either_of c d).takes
  either_of_shown = record {
    on = λ m n p e z h. rw (same n p) (on_choice (a.owns n p) m z n p e h);
    back = λ m n p e w h. back_choice (a.owns n p) m w n p e (rw (same n p) at h);
  }

-- one of two values, each of which shows what it should
pub chosen_seen : {V W : Type 0} (show : V → W) (b : Bool) (x y : V) (u w : W) → show x ≡ u
    → show y ≡ w → show (if b then x else y) ≡ (if b then u else w)
chosen_seen show true x y u w first second = first
chosen_seen show false x y u w first second = second

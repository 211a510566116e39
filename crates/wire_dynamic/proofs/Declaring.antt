-- What lists of declarations gain, one step after another.
use Rattle.std.specs.Prelude.{◌≡◌, ◌≢◌, ℕ, ◌≤◌, List, [], ◌∷◌, ◌++◌, Some, All, Contains, Vec, flat_map, string_bytes}
use Rattle.std.specs.List.{AllZip}
use Rattle.std.specs.declared.alloc.Global.{Global}
use Rattle.std.proofs.Common.{append_assoc, append-nil, ap, refl, sym, subst, ◌∙◌}
use Rattle.std.proofs.lemmas.List.Concat.{flat_map-append}
use Rattle.std.proofs.lemmas.List.{map-append}
use Rattle.std.proofs.lemmas.List.Elements.{All-append, All-nil, All-push}
use Rattle.wire_base.specs.declared.error.DecodeError.{DecodeError}
use Rattle.wire_base.specs.declared.error.DecodeError.TheVariants as decode
use Rattle.wire_fields.specs.Shape.{NotDecodedAs}
use Rattle.wire_descriptor.specs.DescriptorProto.{descriptor_proto-shape}
use Rattle.wire_descriptor.specs.declared.descriptor_proto.DescriptorProto.{DescriptorProto}
use Rattle.wire_descriptor.specs.declared.file_descriptor_proto.FileDescriptorProto.{FileDescriptorProto}
use Rattle.wire_dynamic.specs.declared.declared.Declared.{Declared}
use Rattle.wire_dynamic.specs.declared.declared.DeclaredEnum.{DeclaredEnum}
use Rattle.wire_dynamic.specs.declared.declared.DeclaredExtension.{DeclaredExtension}
use Rattle.wire_dynamic.specs.declared.declared.DeclaredMessage.{DeclaredMessage}
use Rattle.wire_dynamic.specs.declared.error.SchemaError.{SchemaError}
use Rattle.wire_dynamic.specs.declared.error.SchemaError.TheVariants as errors
use Rattle.wire_dynamic.specs.declared.features.Features.{Features}
use Rattle.wire_dynamic.specs.Declares.{own_enums, own_extensions, at_descriptor, scope_of, standing, AllOf, none, one, AreNestedIn, FileDeclares, FilesDeclare, IsEnumOf, IsExtensionOf, IsNestedIn, IsOutermost, IsShallow, Parts, Standing}
use Rattle.wire_dynamic.specs.DeclaresFault.{deeper, itself, FileFault, IsAtFault, TypeFault, NestedFault}
use Rattle.wire_dynamic.specs.Errors.{decode_failed}
use Rattle.wire_dynamic.specs.Features.{file_features}
use Rattle.wire_dynamic.specs.Gained.{AreWithin, Gains, GainsAll, GainsFile, GainsMessage}
use Rattle.wire_dynamic.proofs.Tables.{zip_pushed}

-- lists that agree, one behind another
pub zip_append : {A B : Type 0} (R : A → B → Type 0) (xs : List A) (ys : List B) (us : List A)
    (vs : List B) → AllZip R xs ys → AllZip R us vs → AllZip R (xs ++ us) (ys ++ vs)
zip_append R [] [] us vs a b = b
zip_append R [] (y ∷ ys) us vs a b = absurd a
zip_append R (x ∷ xs) [] us vs a b = absurd a
zip_append R (x ∷ xs) (y ∷ ys) us vs a b = (a.0, zip_append R xs ys us vs a.1 b)

pub AllOf-append : {xs all : List DeclaredMessage} (ys more : List DeclaredMessage)
    → AllOf xs all → AllOf ys more → AllOf (xs ++ ys) (all ++ more)
AllOf-append ys more none b = b
AllOf-append ys more (one {m = m} {within = within} {behind = behind} near deep rest) b =
    rw (append_assoc within (m ∷ behind) more) (one near deep (AllOf-append ys more rest b))

flat_map_pushed : {A B : Type 0} (f : A → List B) (xs : List A) (x : A)
    → flat_map f xs ++ f x ≡ flat_map f (xs ++ x ∷ [])
flat_map_pushed f xs x =
    sym (flat_map-append f xs (x ∷ []) ∙ ap (λ l. flat_map f xs ++ l) (append-nil (f x)))

-- ---- parts

abbrev pub nothing : Parts
nothing = record { messages = []; enums = []; extensions = [] }

abbrev pub joined : Parts → Parts → Parts
joined p q = record {
  messages = p.messages ++ q.messages;
  enums = p.enums ++ q.enums;
  extensions = p.extensions ++ q.extensions;
}

pub within_none : AreWithin [] nothing
within_none = record {
  messages = none;
  enums = tt;
  extensions = tt;
  levels = All-nil IsShallow;
}

pub within_joined : (xs ys : List DeclaredMessage) (p q : Parts) → AreWithin xs p → AreWithin ys q
    → AreWithin (xs ++ ys) (joined p q)
within_joined xs ys p q a b = record {
  messages = AllOf-append ys q.messages a.messages b.messages;
  enums =
      rw (flat_map-append own_enums p.messages q.messages)
      (zip_append IsEnumOf (flat_map own_enums p.messages) p.enums (flat_map own_enums q.messages) q.enums
      a.enums b.enums);
  extensions =
      rw (flat_map-append own_extensions p.messages q.messages)
      (zip_append IsExtensionOf (flat_map own_extensions p.messages) p.extensions
      (flat_map own_extensions q.messages) q.extensions a.extensions b.extensions);
  levels = All-append IsShallow p.messages q.messages a.levels b.levels;
}

-- a message type behind those nested in it, with its enums and extensions
abbrev pub with_itself : DeclaredMessage → List DeclaredEnum → List DeclaredExtension → Parts
    → Parts
with_itself m es xs p = record {
  messages = p.messages ++ m ∷ [];
  enums = p.enums ++ es;
  extensions = p.extensions ++ xs;
}

pub within_one : (m : DeclaredMessage) (nested : List DeclaredMessage) (p : Parts)
    (es : List DeclaredEnum) (xs : List DeclaredExtension)
    → AreNestedIn m nested → AreWithin nested p
    → AllZip IsEnumOf (own_enums m) es
    → AllZip IsExtensionOf
    (own_extensions m) xs
    → m.level ≤ 100 → AreWithin (m ∷ []) (with_itself m es xs p)
within_one m nested p es xs near within enums extensions level = record {
  messages = one near within.messages none;
  enums =
      rw (flat_map-append own_enums p.messages (m ∷ []), append-nil (own_enums m))
      (zip_append IsEnumOf (flat_map own_enums p.messages) p.enums
      (own_enums m) es within.enums
      enums);
  extensions =
      rw (flat_map-append own_extensions p.messages (m ∷ []), append-nil (own_extensions m))
      (zip_append IsExtensionOf (flat_map own_extensions p.messages) p.extensions
      (own_extensions m) xs
      within.extensions extensions);
  levels = All-push IsShallow p.messages m within.levels level;
}

-- ---- what is gained

pub gains_none : (d : Declared) → Gains nothing d d
gains_none d = record {
  messages = sym (append-nil d.messages.items);
  enums = sym (append-nil d.enums.items);
  extensions = sym (append-nil d.extensions.items);
}

behind_both : {A : Type 0} (xs ys zs us vs : List A) → ys ≡ xs ++ us → zs ≡ ys ++ vs
    → zs ≡ xs ++ (us ++ vs)
behind_both xs ys zs us vs first second =
    second ∙ ap (λ l. l ++ vs) first ∙ append_assoc xs us vs

pub gains_joined : (p q : Parts) (a b c : Declared) → Gains p a b → Gains q b c
    → Gains (joined p q) a c
gains_joined p q a b c first second = record {
  messages = behind_both a.messages.items b.messages.items c.messages.items p.messages q.messages
      first.messages second.messages;
  enums = behind_both a.enums.items b.enums.items c.enums.items p.enums q.enums first.enums
      second.enums;
  extensions = behind_both a.extensions.items b.extensions.items c.extensions.items p.extensions
      q.extensions first.extensions second.extensions;
}

module _ {D E : Type 0} (Tells : Standing D → E → Type 0) (scope : List ℕ) (outer : Features)
  where
    pub gains_begun : (old : List E) → GainsAll Tells scope outer [] old old
    gains_begun old = ([], tt, sym (append-nil old))

    -- one declaration more
    pub gains_more : (front : List D) (d : D) (e : E) (old mid new : List E)
        → GainsAll Tells scope outer front old mid
        → Tells (at_descriptor scope outer d) e → new ≡ mid ++ e ∷ []
        → GainsAll Tells scope outer (front ++ d ∷ []) old new
    gains_more front d e old mid new so_far is step = (
      so_far.0 ++ e ∷ [],
      subst (λ l. AllZip Tells l (so_far.0 ++ e ∷ []))
          (sym (map-append (at_descriptor scope outer) front (d ∷ [])))
          (zip_pushed Tells (standing scope outer front) so_far.0 (at_descriptor scope outer d) e
          so_far.1 is),
      behind_both old mid new so_far.0 (e ∷ []) so_far.2 step,
    )

    pub gains_at : (to : List ℕ) (ds es : List D) (old new : List E)
        → GainsAll Tells scope outer ds old new → scope ≡ to → ds ≡ es
        → GainsAll Tells to outer es old new
    gains_at to ds es old new gains name same =
        subst (λ s. GainsAll Tells s outer es old new) name
        (subst (λ l. GainsAll Tells scope outer l old new) same gains)

-- ---- those nested in a message type

-- the first of them are taken in
pub record NestedTaken (m : DeclaredMessage) (front : List (Vec ℕ Global)) (old new : Declared)
    : Type 0 where
  pub nested : List DeclaredMessage
  pub parts : Parts
  pub near : AllZip (λ bytes n. IsNestedIn m bytes.items n) front nested
  pub within : AreWithin nested parts
  pub gains : Gains parts old new

pub nested_begun : (m : DeclaredMessage) (d : Declared) → NestedTaken m [] d d
nested_begun m d = record {
  nested = [];
  parts = nothing;
  near = tt;
  within = within_none;
  gains = gains_none d;
}

pub nested_more : (m n : DeclaredMessage) (front : List (Vec ℕ Global)) (bytes : Vec ℕ Global)
    (old mid new : Declared) → NestedTaken m front old mid → IsNestedIn m bytes.items n
    → GainsMessage n mid new → NestedTaken m (front ++ bytes ∷ []) old new
nested_more m n front bytes old mid new so_far is gains = record {
  nested = so_far.nested ++ n ∷ [];
  parts = joined so_far.parts gains.0;
  near = zip_pushed (λ b k. IsNestedIn m b.items k) front so_far.nested bytes n so_far.near is;
  within = within_joined so_far.nested (n ∷ []) so_far.parts gains.0 so_far.within gains.1;
  gains = gains_joined so_far.parts gains.0 old mid new so_far.gains gains.2;
}

-- all of them are taken in, then the enums and extensions, and then it itself
pub message_gained : (m : DeclaredMessage) (old mid new : Declared) → m.level ≤ 100
    → NestedTaken m m.descriptor.nested_type.items old mid
    → new.messages.items ≡ mid.messages.items ++ m ∷ []
    → GainsAll IsEnumOf (string_bytes m.name) m.features m.descriptor.enum_type.items
    mid.enums.items new.enums.items
    → GainsAll IsExtensionOf (string_bytes m.name) m.features m.descriptor.extension.items
    mid.extensions.items new.extensions.items
    → GainsMessage m old new
message_gained m old mid new level all pushed enums extensions = (
  with_itself m enums.0 extensions.0 all.parts,
  within_one m all.nested all.parts enums.0 extensions.0 all.near all.within enums.1 extensions.1
      level,
  record {
    messages = behind_both old.messages.items mid.messages.items new.messages.items
        all.parts.messages (m ∷ []) all.gains.messages pushed;
    enums = behind_both old.enums.items mid.enums.items new.enums.items all.parts.enums enums.0
        all.gains.enums enums.2;
    extensions = behind_both old.extensions.items mid.extensions.items new.extensions.items
        all.parts.extensions extensions.0 all.gains.extensions extensions.2;
  },
)

pub fault_here : (m : DeclaredMessage) (bytes : Vec ℕ Global) (read : List ℕ) (e : SchemaError)
    → Contains m.descriptor.nested_type.items bytes → read ≡ bytes.items
    → NestedFault m read e → TypeFault m e
fault_here m bytes read e is same fault = record {
  message = m;
  stands = itself;
  bytes = bytes;
  nested = is;
  fault = subst (λ b. NestedFault m b e) same fault;
}

pub fault_deeper : (m n : DeclaredMessage) (bytes : Vec ℕ Global) (e : SchemaError)
    → Contains m.descriptor.nested_type.items bytes → IsNestedIn m bytes.items n
    → TypeFault n e → TypeFault m e
fault_deeper m n bytes e is nested f = record {
  message = f.message;
  stands = deeper bytes is nested f.stands;
  bytes = f.bytes;
  nested = f.nested;
  fault = f.fault;
}

-- what is said of a fault of decoding
failed_cases : (m : DeclaredMessage) (bytes : List ℕ) (error : DecodeError)
    → (error ≢ decode.OutOfMemory → NotDecodedAs descriptor_proto-shape bytes)
    → decode_failed error ≢ errors.OutOfMemory → NestedFault m bytes (decode_failed error)
failed_cases m bytes decode.OutOfMemory is_none other = absurd (other refl)
failed_cases m bytes error is_none other = is_none (λ e. cc)

pub decode_fault : (m : DeclaredMessage) (bytes : List ℕ) (error : DecodeError) (e : SchemaError)
    → e ≡ decode_failed error
    → (error ≢ decode.OutOfMemory → NotDecodedAs descriptor_proto-shape bytes)
    → e ≢ errors.OutOfMemory → NestedFault m bytes e
decode_fault m bytes error e is is_none = subst
    (λ x. x ≢ errors.OutOfMemory → NestedFault m bytes x) (sym is)
    (failed_cases m bytes error is_none)

-- ---- the message types of a file

-- the first of them are taken in
pub record OutermostTaken (file : FileDescriptorProto) (features : Features)
    (front : List DescriptorProto) (old new : Declared) : Type 0 where
  pub outermost : List DeclaredMessage
  pub parts : Parts
  pub own : AllZip (IsOutermost file features) front outermost
  pub within : AreWithin outermost parts
  pub gains : Gains parts old new

pub outermost_begun : (file : FileDescriptorProto) (features : Features) (d : Declared)
    → OutermostTaken file features [] d d
outermost_begun file features d = record {
  outermost = [];
  parts = nothing;
  own = tt;
  within = within_none;
  gains = gains_none d;
}

pub outermost_more : (file : FileDescriptorProto) (features : Features)
    (front : List DescriptorProto) (d : DescriptorProto) (n : DeclaredMessage)
    (old mid new : Declared) → OutermostTaken file features front old mid
    → IsOutermost file features d n → GainsMessage n mid new
    → OutermostTaken file features (front ++ d ∷ []) old new
outermost_more file features front d n old mid new so_far is gains = record {
  outermost = so_far.outermost ++ n ∷ [];
  parts = joined so_far.parts gains.0;
  own = zip_pushed (IsOutermost file features) front so_far.outermost d n so_far.own is;
  within = within_joined so_far.outermost (n ∷ []) so_far.parts gains.0 so_far.within gains.1;
  gains = gains_joined so_far.parts gains.0 old mid new so_far.gains gains.2;
}

pub fault_in_file : (file : FileDescriptorProto) (e : SchemaError) → IsAtFault file e
    → FileFault file e
fault_in_file file (errors.UnknownEdition name) at_fault = absurd at_fault.fault.fault
fault_in_file file e at_fault = at_fault

-- all the message types of a file, behind its own enums and extensions
pub file_gained : (file : FileDescriptorProto) (features : Features) (old mid new : Declared)
    → file_features file ≡ Some features
    → mid.messages.items ≡ old.messages.items
    → GainsAll IsEnumOf (scope_of (string_bytes file.package)) features file.enum_type.items
    old.enums.items mid.enums.items
    → GainsAll IsExtensionOf (scope_of (string_bytes file.package)) features file.extension.items
    old.extensions.items mid.extensions.items
    → OutermostTaken file features file.message_type.items mid new → GainsFile file old new
file_gained file features old mid new known same enums extensions all = (
  record {
    messages = all.parts.messages;
    enums = enums.0 ++ all.parts.enums;
    extensions = extensions.0 ++ all.parts.extensions;
  },
  record {
    features = features;
    known = known;
    outermost = all.outermost;
    own = all.own;
    messages = all.within.messages;
    enums = zip_append IsEnumOf
        (standing (scope_of (string_bytes file.package)) features file.enum_type.items) enums.0
        (flat_map own_enums all.parts.messages) all.parts.enums enums.1 all.within.enums;
    extensions = zip_append IsExtensionOf
        (standing (scope_of (string_bytes file.package)) features file.extension.items)
        extensions.0 (flat_map own_extensions all.parts.messages) all.parts.extensions extensions.1
        all.within.extensions;
  },
  all.within.levels,
  record {
    messages = all.gains.messages ∙ ap (λ l. l ++ all.parts.messages) same;
    enums = behind_both old.enums.items mid.enums.items new.enums.items enums.0 all.parts.enums
        enums.2 all.gains.enums;
    extensions = behind_both old.extensions.items mid.extensions.items new.extensions.items
        extensions.0 all.parts.extensions extensions.2 all.gains.extensions;
  },
)

-- ---- the files of a set

pub files_more : (front : List FileDescriptorProto) (file : FileDescriptorProto)
    (mid new : Declared) → FilesDeclare front mid → GainsFile file mid new
    → FilesDeclare (front ++ file ∷ []) new
files_more front file mid new so_far gains = record {
  parts = so_far.parts ++ gains.0 ∷ [];
  each = zip_pushed FileDeclares front so_far.parts file gains.0 so_far.each gains.1;
  messages = gains.3.messages ∙ ap (λ l. l ++ gains.0.messages) so_far.messages
      ∙ flat_map_pushed (λ p. p.messages) so_far.parts gains.0;
  enums = gains.3.enums ∙ ap (λ l. l ++ gains.0.enums) so_far.enums
      ∙ flat_map_pushed (λ p. p.enums) so_far.parts gains.0;
  extensions = gains.3.extensions ∙ ap (λ l. l ++ gains.0.extensions) so_far.extensions
      ∙ flat_map_pushed (λ p. p.extensions) so_far.parts gains.0;
  levels = subst (All IsShallow) (sym gains.3.messages)
      (All-append IsShallow mid.messages.items gains.0.messages so_far.levels gains.2);
}

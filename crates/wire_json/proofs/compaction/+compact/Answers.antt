use Rattle.std.proofs.Common.{◌≡◌, ℕ, List, [], ◌∷◌, ◌++◌, drop, Some, None, sym, ap, ◌∙◌, arith}
use Rattle.std.proofs.lemmas.Result.{err_from_is_err_and}
use Rattle.wire_json.specs.declared.kind.Kind.TheVariants as kinds
use Rattle.wire_json.specs.Container.{separator}
use Rattle.wire_json.specs.Fault.{no_value, deep_array, deep_object}
use Rattle.wire_json.specs.Kind.{kind_begun}
use Rattle.wire_json.specs.Written.{written, written_name}
use Rattle.wire_json.proofs.Compacting.{in_element, in_member_name, in_member_value, puts_array, puts_object, puts_simple, puts_string, refused_array, refused_object, refused_simple, refused_string}
use Rattle.wire_json.proofs.Elements as elements
use Rattle.wire_json.proofs.Members as members
use Rattle.wire_json.proofs.Nested.{behind_further}
use Rattle.wire_json.proofs.Writing.{extends_further, grows}
use Rattle.wire_json.proofs.compaction.+compact.Goals as goal

-- ---- arrays

pub compact_elements-loop-next-init : goal.compact_elements-loop-next-init
compact_elements-loop-next-init t c =
    let (inside, opens, first) = c.in_ok-next.ensures.ok in
    record {
      sofar = (
        inside,
        [],
        opens,
        elements.opened c.args.levels c.args.text.now inside c.in_ok-next.next first,
        c.in_ok-write_mark.ensures.ok,
      );
      onward = c.in_ok-next.ensures.behind;
    }

pub compact_elements-returns-in_err-after-in-Item-clause-fault : goal.compact_elements-returns-in_err-after-in-Item-clause-fault
compact_elements-returns-in_err-after-in-Item-clause-fault t c =
    let r = c.from_residual-in_err-after-in-Item in
    let p = err_from_is_err_and r.result r.ensures.1 in
    let (inside, before, opens, state, put) = c.loop-next.invariant.sofar in
    let here = rw c.in-Item.is at state in
    rw (p.1, p.2) (in_element c.args.levels c.args.text.now (drop c.args.at c.args.text.now)
    inside before c.in-Item.place opens here c.in_err-after-in-Item.field-0.0
    c.in_err-after-in-Item.ensures.fault)

pub compact_elements-returns-in_err-after-in-Item-clause-kept : goal.compact_elements-returns-in_err-after-in-Item-clause-kept
compact_elements-returns-in_err-after-in-Item-clause-kept t c =
    let r = c.from_residual-in_err-after-in-Item in
    let p = err_from_is_err_and r.result r.ensures.1 in
    let (inside, before, opens, state, put) = c.loop-next.invariant.sofar in
    rw p.1 (extends_further c.args.out.now.items c.loop-next.out.items _ (91 ∷ before, put)
    c.in_err-after-in-Item.ensures.kept)

pub compact_elements-returns-in_err-next-in-Item-clause-fault : goal.compact_elements-returns-in_err-next-in-Item-clause-fault
compact_elements-returns-in_err-next-in-Item-clause-fault t c =
    let r = c.from_residual-in_err-next-in-Item in
    let p = err_from_is_err_and r.result r.ensures.1 in
    let text = c.args.text.now in
    let (inside, before, opens, state, put) = c.loop-next.invariant.sofar in
    let here = rw c.in-Item.is at state in
    let (e, reads, fits, more) = c.in_ok-after-in-Item.ensures.ok in
    let fault = c.in_err-next-in-Item.field-0.0 in
    rw (p.1, p.2) (
      inside,
      opens,
      elements.stops c.args.levels text inside before c.in-Item.place
          c.in_ok-after-in-Item.after e here reads fits fault.kind (drop fault.at text)
          c.in_err-next-in-Item.ensures.fault,
    )

pub compact_elements-loop-next-preserved : goal.compact_elements-loop-next-preserved
compact_elements-loop-next-preserved t c =
    let text = c.args.text.now in
    let old = c.args.out.now.items in
    let (inside, before, opens, state, put) = c.loop-next.invariant.sofar in
    let here = rw c.in-Item.is at state in
    let order = rw c.in-Item.is at c.loop-next.invariant.onward in
    let (e, reads, fits, more) = c.in_ok-after-in-Item.ensures.ok in
    let next = c.in_ok-next-in-Item in
    let with_value = grows old c.loop-next.out.items before (written e) 91 put in
    record {
      sofar = (
        inside,
        _,
        opens,
        elements.goes_on c.args.levels text inside before c.in-Item.place
            c.in_ok-after-in-Item.after e here reads fits next.next next.ensures.ok,
        c.in_ok-write_separator-in-Item.ensures.ok
            ∙ ap (λ (l : List ℕ). l ++ separator next.next) more
            ∙ grows old (c.loop-next.out.items ++ written e) (before ++ written e)
            (separator next.next) 91 with_value,
      );
      onward = behind_further c.args.at c.in_ok-after-in-Item.after next.next text
          (omega (arith, order, c.in_ok-after-in-Item.ensures.behind.forward)) next.ensures.behind;
    }

pub compact_elements-returns-in-End-clause-ok : goal.compact_elements-returns-in-End-clause-ok
compact_elements-returns-in-End-clause-ok t c =
    let old = c.args.out.now.items in
    let (inside, before, opens, state, put) = c.loop-next.invariant.sofar in
    let all = rw c.in-End.is at state in (
      inside,
      all.elements,
      opens,
      all.reads,
      all.fits,
      c.in_ok-write_mark-in-End.ensures.ok
          ∙ grows old c.loop-next.out.items before (93 ∷ []) 91 put
          ∙ ap (λ (l : List ℕ). old ++ 91 ∷ l) (sym all.written_is),
    )

-- ---- objects

pub compact_members-loop-next-init : goal.compact_members-loop-next-init
compact_members-loop-next-init t c =
    let (inside, opens, first) = c.in_ok-next.ensures.ok in
    record {
      sofar = (
        inside,
        [],
        opens,
        members.opened c.args.levels c.args.text.now inside c.in_ok-next.next first,
        c.in_ok-write_mark.ensures.ok,
      );
      onward = c.in_ok-next.ensures.behind;
    }

pub compact_members-returns-in_err-after-in-Item-clause-fault : goal.compact_members-returns-in_err-after-in-Item-clause-fault
compact_members-returns-in_err-after-in-Item-clause-fault t c =
    let r = c.from_residual-in_err-after-in-Item in
    let p = err_from_is_err_and r.result r.ensures.1 in
    let (inside, before, opens, state, put) = c.loop-next.invariant.sofar in
    let here = rw c.in-Item.is at state in
    let (name, named, head) = c.in_ok-value-in-Item.ensures.ok in
    rw (p.1, p.2) (in_member_value c.args.levels c.args.text.now (drop c.args.at c.args.text.now)
    inside before c.in-Item.place c.in_ok-value-in-Item.value name opens here named
    c.in_err-after-in-Item.field-0.0 c.in_err-after-in-Item.ensures.fault)

pub compact_members-returns-in_err-after-in-Item-clause-kept : goal.compact_members-returns-in_err-after-in-Item-clause-kept
compact_members-returns-in_err-after-in-Item-clause-kept t c =
    let r = c.from_residual-in_err-after-in-Item in
    let p = err_from_is_err_and r.result r.ensures.1 in
    let (inside, before, opens, state, put) = c.loop-next.invariant.sofar in
    let (name, named, head) = c.in_ok-value-in-Item.ensures.ok in
    rw p.1 (extends_further c.args.out.now.items c.copy_name.new.out.items _
    (extends_further c.args.out.now.items c.loop-next.out.items c.copy_name.new.out.items
    (123 ∷ before, put) (written_name name, head)) c.in_err-after-in-Item.ensures.kept)

pub compact_members-returns-in_err-next-in-Item-clause-fault : goal.compact_members-returns-in_err-next-in-Item-clause-fault
compact_members-returns-in_err-next-in-Item-clause-fault t c =
    let r = c.from_residual-in_err-next-in-Item in
    let p = err_from_is_err_and r.result r.ensures.1 in
    let text = c.args.text.now in
    let (inside, before, opens, state, put) = c.loop-next.invariant.sofar in
    let here = rw c.in-Item.is at state in
    let (name, named, head) = c.in_ok-value-in-Item.ensures.ok in
    let (e, reads, fits, more) = c.in_ok-after-in-Item.ensures.ok in
    let value = drop c.in_ok-value-in-Item.value text in
    let fault = c.in_err-next-in-Item.field-0.0 in
    rw (p.1, p.2) (
      inside,
      opens,
      members.stops c.args.levels text inside before c.in-Item.place
          c.in_ok-after-in-Item.after name e here
          (record { value = value; named = named; reads = reads; fits = fits }) fault.kind (drop fault.at text)
          c.in_err-next-in-Item.ensures.fault,
    )

pub compact_members-loop-next-preserved : goal.compact_members-loop-next-preserved
compact_members-loop-next-preserved t c =
    let text = c.args.text.now in
    let old = c.args.out.now.items in
    let (inside, before, opens, state, put) = c.loop-next.invariant.sofar in
    let here = rw c.in-Item.is at state in
    let order = rw c.in-Item.is at c.loop-next.invariant.onward in
    let (name, named, head) = c.in_ok-value-in-Item.ensures.ok in
    let (e, reads, fits, more) = c.in_ok-after-in-Item.ensures.ok in
    let value = drop c.in_ok-value-in-Item.value text in
    let next = c.in_ok-next-in-Item in
    let with_name = grows old c.loop-next.out.items before (written_name name) 123 put in
    let with_value = grows old (c.loop-next.out.items ++ written_name name)
    (before ++ written_name name) (written e) 123 with_name in
    record {
      sofar = (
        inside,
        _,
        opens,
        members.goes_on c.args.levels text inside before c.in-Item.place
            c.in_ok-after-in-Item.after name e here
            (record { value = value; named = named; reads = reads; fits = fits }) next.next next.ensures.ok,
        c.in_ok-write_separator-in-Item.ensures.ok
            ∙ ap (λ (l : List ℕ). l ++ separator next.next)
            (more ∙ ap (λ (l : List ℕ). l ++ written e) head)
            ∙ grows old ((c.loop-next.out.items ++ written_name name) ++ written e)
            ((before ++ written_name name) ++ written e)
            (separator next.next) 123 with_value,
      );
      onward = behind_further c.args.at c.in_ok-after-in-Item.after next.next text
          (omega (arith, order, c.in_ok-value-in-Item.ensures.behind, c.in_ok-after-in-Item.ensures.behind.forward)) next.ensures.behind;
    }

pub compact_members-returns-in-End-clause-ok : goal.compact_members-returns-in-End-clause-ok
compact_members-returns-in-End-clause-ok t c =
    let old = c.args.out.now.items in
    let (inside, before, opens, state, put) = c.loop-next.invariant.sofar in
    let all = rw c.in-End.is at state in (
      inside,
      all.members,
      opens,
      all.reads,
      all.fits,
      c.in_ok-write_mark-in-End.ensures.ok
          ∙ grows old c.loop-next.out.items before (125 ∷ []) 123 put
          ∙ ap (λ (l : List ℕ). old ++ 123 ∷ l) (sym all.written_is),
    )

pub compact_members-returns-in_err-value-in-Item-clause-fault : goal.compact_members-returns-in_err-value-in-Item-clause-fault
compact_members-returns-in_err-value-in-Item-clause-fault t c =
    let r = c.from_residual-in_err-value-in-Item in
    let p = err_from_is_err_and r.result r.ensures.1 in
    let (inside, before, opens, state, put) = c.loop-next.invariant.sofar in
    let here = rw c.in-Item.is at state in
    rw (p.1, p.2) (in_member_name c.args.levels c.args.text.now (drop c.args.at c.args.text.now)
    inside before c.in-Item.place opens here c.in_err-value-in-Item.field-0.0
    c.in_err-value-in-Item.ensures.fault)

pub compact_members-returns-in_err-value-in-Item-clause-kept : goal.compact_members-returns-in_err-value-in-Item-clause-kept
compact_members-returns-in_err-value-in-Item-clause-kept t c =
    let r = c.from_residual-in_err-value-in-Item in
    let p = err_from_is_err_and r.result r.ensures.1 in
    let (inside, before, opens, state, put) = c.loop-next.invariant.sofar in
    rw p.1 (extends_further c.args.out.now.items c.loop-next.out.items _ (123 ∷ before, put)
    c.in_err-value-in-Item.ensures.kept)

-- ---- values

pub compact_value-returns-then-levels-eq0-clause-fault : goal.compact_value-returns-then-levels-eq0-clause-fault
compact_value-returns-then-levels-eq0-clause-fault t c =
    let begun : kind_begun (drop c.args.at c.args.text.now) ≡ Some kinds.Array = cc in
    rw c.too_deep.ensures (deep_array c.if-levels-eq0.true begun)

pub compact_value-returns-else-levels-eq0-clause-ok : goal.compact_value-returns-else-levels-eq0-clause-ok
compact_value-returns-else-levels-eq0-clause-ok t c =
    puts_array c.args.text.now (drop c.args.at c.args.text.now) c.args.levels (omega arith)
    c.args.out.now.items c.compact_elements.new.out.items c.compact_elements.result c.compact_elements.ensures.ok

pub compact_value-returns-else-levels-eq0-clause-fault : goal.compact_value-returns-else-levels-eq0-clause-fault
compact_value-returns-else-levels-eq0-clause-fault t c =
    refused_array c.args.text.now (drop c.args.at c.args.text.now) c.args.levels (omega arith)
    c.compact_elements.result c.compact_elements.ensures.fault

pub compact_value-returns-then-levels-eq0-2-clause-fault : goal.compact_value-returns-then-levels-eq0-2-clause-fault
compact_value-returns-then-levels-eq0-2-clause-fault t c =
    let begun : kind_begun (drop c.args.at c.args.text.now) ≡ Some kinds.Object = cc in
    rw c.too_deep-then-levels-eq0-2.ensures (deep_object c.if-levels-eq0-2.true begun)

pub compact_value-returns-else-levels-eq0-2-clause-ok : goal.compact_value-returns-else-levels-eq0-2-clause-ok
compact_value-returns-else-levels-eq0-2-clause-ok t c =
    puts_object c.args.text.now (drop c.args.at c.args.text.now) c.args.levels (omega arith)
    c.args.out.now.items c.compact_members.new.out.items c.compact_members.result c.compact_members.ensures.ok

pub compact_value-returns-else-levels-eq0-2-clause-fault : goal.compact_value-returns-else-levels-eq0-2-clause-fault
compact_value-returns-else-levels-eq0-2-clause-fault t c =
    refused_object c.args.text.now (drop c.args.at c.args.text.now) c.args.levels (omega arith)
    c.compact_members.result c.compact_members.ensures.fault

pub compact_value-returns-in-None-clause-fault : goal.compact_value-returns-in-None-clause-fault
compact_value-returns-in-None-clause-fault t c =
    let none : kind_begun (drop c.args.at c.args.text.now) ≡ None = cc in
    rw c.syntax.ensures (no_value none)

pub compact_value-returns-in-Some-String-clause-ok : goal.compact_value-returns-in-Some-String-clause-ok
compact_value-returns-in-Some-String-clause-ok t c =
    puts_string c.args.text.now (drop c.args.at c.args.text.now) c.args.levels
    c.args.out.now.items c.copy_string.new.out.items c.copy_string.result
    c.copy_string.ensures.ok

pub compact_value-returns-in-Some-String-clause-fault : goal.compact_value-returns-in-Some-String-clause-fault
compact_value-returns-in-Some-String-clause-fault t c =
    let begun : kind_begun (drop c.args.at c.args.text.now) ≡ Some kinds.String = cc in
    refused_string c.args.text.now (drop c.args.at c.args.text.now) c.args.levels begun
    c.copy_string.result c.copy_string.ensures.fault

pub compact_value-returns-in-Some-clause-ok : goal.compact_value-returns-in-Some-clause-ok
compact_value-returns-in-Some-clause-ok t c =
    puts_simple c.args.text.now (drop c.args.at c.args.text.now) c.args.levels
    c.args.out.now.items c.copy_simple.new.out.items c.copy_simple.result
    c.copy_simple.ensures.ok

pub compact_value-returns-in-Some-clause-fault : goal.compact_value-returns-in-Some-clause-fault
compact_value-returns-in-Some-clause-fault t c =
    refused_simple c.args.text.now (drop c.args.at c.args.text.now) c.args.levels
    c.copy_simple.result c.copy_simple.ensures.fault

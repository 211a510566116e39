use Rattle.std.proofs.Common.{◌≡◌, suc, ◌-◌, [], ◌∷◌, append_assoc, drop, arith}
use Rattle.wire_jsonpath.specs.Seen.{tree_step}
use Rattle.wire_jsonpath.proofs.Leading.{a_step, no_level, no_step, told}
use Rattle.wire_jsonpath.proofs.place.path_to.Goals as goal

pub returns-in-None : goal.returns-in-None
returns-in-None c =
    let front = c.front_to-front.result.now in
    let left = c.saturating_sub-left.result in
    let inner = c.loop-inner.inner in
    let more : inner ≡ suc (inner - 1) = omega arith in
    let none = rw c.in-None.is at c.in_ok-find_step.ensures.none in
    told c.args.levels c.args.text.now c.args.at front left c.loop-inner.path
    c.front_to-front.ensures c.saturating_sub-left.ensures
    (c.loop-inner.invariant []
    (no_step (inner - 1) inner left (drop c.loop-inner.place front) more none))

pub loop-inner-preserved : goal.loop-inner-preserved
loop-inner-preserved c =
    let front = c.front_to-front.result.now in
    let left = c.saturating_sub-left.result in
    let inner = c.loop-inner.inner in
    let more : inner ≡ suc (inner - 1) = omega arith in
    let leads = rw c.in-Some.is at c.in_ok-find_step.ensures.found in
    let step = tree_step c.in-Some.found.step in
    λ tail from. rw c.in_ok-push-in-Some.ensures (rw append_assoc
    (c.loop-inner.invariant (step ∷ tail)
    (a_step (inner - 1) inner left (drop c.loop-inner.place front)
    (drop c.in-Some.found.place front) step tail more leads from)))

pub returns : goal.returns
returns c =
    let front = c.front_to-front.result.now in
    let left = c.saturating_sub-left.result in
    let inner = c.loop-inner.inner in
    told c.args.levels c.args.text.now c.args.at front left c.loop-inner.path
    c.front_to-front.ensures c.saturating_sub-left.ensures
    (c.loop-inner.invariant []
    (no_level inner left (drop c.loop-inner.place front) (omega (arith, c.loop-inner-test.false))))

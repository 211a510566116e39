use Rattle.std.proofs.Common.{◌≡◌, ℕ, ◌-◌, List, ◌++◌, length, take, drop, sym, ap, ◌∙◌, append_assoc, take-append-drop}
use Rattle.std.proofs.lemmas.List.{take_rest}
use Rattle.std.proofs.KnownBytes.{Appends-trans}
use Rattle.wire_min.proofs.Failures.{after_write-taken}
use Rattle.wire_min.proofs.run.write_all.Goals as goal

-- the front of the rest moves to what is done
moves_front : (all done rest : List ℕ) (n : ℕ) → all ≡ done ++ rest
    → all ≡ (done ++ take n rest) ++ take (length rest - n) (drop n rest)
moves_front all done rest n e =
    e ∙ ap (λ l. done ++ l) (sym (take-append-drop n rest))
    ∙ sym (append_assoc done (take n rest) (drop n rest))
    ∙ ap (λ l. (done ++ take n rest) ++ l) (sym (take_rest rest n))

pub loop-rest-preserved : goal.loop-rest-preserved
loop-rest-preserved g c =
    let (done, parts, appended) = c.loop-rest.invariant.written in
    let rest = c.loop-rest.rest.now in
    let count = c.in-Ok.count in
    record {
      written = (
        done ++ take count rest,
        moves_front _ done rest count parts,
        Appends-trans _ _ _ _ _ appended c.in-Ok.ensures.bytes,
      );
      failures = c.write.ensures.failures ∙ after_write-taken _ _ _ c.in-Ok.is c.if-count-gt0.true
          ∙ c.loop-rest.invariant.failures;
    }

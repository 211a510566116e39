use Rattle.std.proofs.Common.{◌∙◌}
use Rattle.std.proofs.lemmas.Result.{on_ok_weaker}
use Rattle.wire_fields.specs.Nest.{listed_row, row_pushed}
use Rattle.wire_kinds.specs.Chain.{Chain-Value, chain-one, chain-value}
use Rattle.wire_kinds.specs.declared.chain.Chain.{Chain, out-Chain, fold_out-Chain}
use Rattle.wire_kinds.specs.declared.chain.Chain.TheFolds.{fold-roll-Chain, map-Chain}
use Rattle.wire_kinds.proofs.chain.ChainRecursiveMember.push.Goals as goal

pub returns-in-1-clause-ok : goal.returns-in-1-clause-ok
returns-in-1-clause-ok c =
    λ here many kind. on_ok_weaker c.push_message.result (λ pushed. rw (
      c.in-1.is,
      fold_out-Chain Chain-Value chain-one c.args.self.now,
    ) (fold-roll-Chain Chain-Value chain-one _
    ∙ row_pushed chain-value 1
    (chain-one (map-Chain Chain Chain-Value chain-value (out-Chain c.args.self.now)))
    _ _ c.args.message (listed_row _) pushed)) c.push_message.ensures.ok

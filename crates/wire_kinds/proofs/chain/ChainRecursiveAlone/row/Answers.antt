use Rattle.std.proofs.Common.{◌∙◌, ap, map, sym}
use Rattle.wire_fields.specs.Nest.{listed_row}
use Rattle.wire_kinds.specs.Chain.{Chain-Value, chain-one, chain-value}
use Rattle.wire_kinds.specs.declared.chain.Chain.{fold_out-Chain}
use Rattle.wire_kinds.proofs.chain.ChainRecursiveAlone.row.Goals as goal

pub returns-in-1 : goal.returns-in-1
returns-in-1 c =
    rw (c.in-1.is, fold_out-Chain Chain-Value chain-one c.args.self.now)
    (ap (map chain-value) (c.deref-in-1).ensures.value ∙ sym (listed_row _))

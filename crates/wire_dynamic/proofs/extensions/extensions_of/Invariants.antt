use Rattle.std.proofs.Common.{take}
use Rattle.std.specs.BTreeMap.{get}
use Rattle.wire_dynamic.specs.Extensions.{extends, place_cmp, IsExtension}
use Rattle.wire_dynamic.specs.Table.{IsTableOf}
use Rattle.wire_dynamic.proofs.extensions.extensions_of.Given as goal

abbrev pub invariant-loop-extension : goal.invariant-loop-extension
invariant-loop-extension l = IsTableOf (extends l.fn.places)
    (IsExtension l.fn.declared l.fn.places)
    (take l.extension-index l.fn.declared.extensions.items) (get place_cmp l.extensions)

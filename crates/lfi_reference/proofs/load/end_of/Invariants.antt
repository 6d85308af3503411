use Rattle.std.proofs.Common.{◌≡◌, drop}
use Rattle.lfi_model.specs.Outcomes.{end_of}
use Rattle.lfi_reference.specs.Shares.{items_by}
use Rattle.lfi_reference.proofs.load.end_of.Given as goal

abbrev pub invariant-loop-item : goal.invariant-loop-item
invariant-loop-item l = end_of (items_by l.items) ≡ end_of (items_by (drop l.item-index l.items))

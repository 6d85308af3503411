use Rattle.std.proofs.Common.{◌≡◌, take}
use Rattle.lfi_model.specs.Outcomes.{pages_of}
use Rattle.lfi_reference.specs.Shares.{items_by}
use Rattle.lfi_reference.specs.Pages.{pages_by}
use Rattle.lfi_reference.proofs.words.pages_of.Given as goal

abbrev pub invariant-loop-item : goal.invariant-loop-item
invariant-loop-item l = pages_by l.pages.items ≡ pages_of (items_by (take l.item-index l.items))

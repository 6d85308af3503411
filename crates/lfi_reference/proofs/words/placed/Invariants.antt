use Rattle.std.proofs.Common.{take, None}
use Rattle.lfi_rules.specs.Verdicts.{all_words}
use Rattle.lfi_rules.specs.Faults.{FirstFault}
use Rattle.lfi_reference.specs.Pages.{pages_by}
use Rattle.lfi_reference.proofs.words.placed.Given as goal

abbrev pub invariant-loop-count : goal.invariant-loop-count
invariant-loop-count l = FirstFault l.extent.profile (all_words (pages_by (take l.count l.pages))) l.extent.words None

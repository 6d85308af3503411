use Rattle.std.proofs.Common.{◌≡◌, take}
use Rattle.lfi_rules.specs.Verdicts.{all_words}
use Rattle.lfi_reference.specs.Pages.{pages_by}
use Rattle.lfi_reference.proofs.words.all_words.Given as goal

abbrev pub invariant-loop-page : goal.invariant-loop-page
invariant-loop-page l = l.words.items ≡ all_words (pages_by (take l.page-index l.pages))

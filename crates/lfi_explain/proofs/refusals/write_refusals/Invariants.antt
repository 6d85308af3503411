use Rattle.std.proofs.Common.{◌≡◌, List, length}
use Rattle.std.specs.Prelude.{flat_map}
use Rattle.std.specs.Io.KnownBytes.{Appends, append_known}
use Rattle.lfi_explain.specs.declared.explanation.Explanation.{Explanation}
use Rattle.lfi_explain.specs.Explanations.{AreTold, explanation_line, mended_among}
use Rattle.lfi_explain.proofs.refusals.write_refusals.Given as goal

abbrev pub invariant-loop-place : goal.invariant-loop-place
invariant-loop-place g l =
    (told : List Explanation) × AreTold l.profile (g.L.Words.words l.words) l.slot l.place told × (l.refused ≡ length told) × (l.mended ≡ mended_among told)
    × Appends (g.W.Write.contents l.initial.out) (append_known (g.W.Write.contents l.out) l.kept.items) (flat_map explanation_line told)

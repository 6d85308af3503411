use Rattle.std.proofs.Common.{◌≡◌, ◌++◌, List, length}
use Rattle.std.specs.Prelude.{string_bytes}
use Rattle.a64_word.specs.Words.{words_of}
use Rattle.lfi_model.specs.Texts.{lines_from}
use Rattle.lfi_explain.specs.declared.explanation.Explanation.{Explanation}
use Rattle.lfi_explain.specs.Explanations.{AreTold, mended_among}
use Rattle.lfi_file_commands.specs.Json.{refused_item}
use Rattle.lfi_file_commands.proofs.members.push_each_refused.Given as goal

abbrev pub invariant-loop-place : goal.invariant-loop-place
invariant-loop-place l =
    (told : List Explanation) × AreTold l.profile (words_of l.code) 0 l.place told × (l.refused ≡ length told) × (l.mended ≡ mended_among told)
    × (string_bytes l.text ≡ string_bytes l.initial.text ++ lines_from refused_item 0 told)

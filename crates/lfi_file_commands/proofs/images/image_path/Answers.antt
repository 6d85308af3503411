use Rattle.std.proofs.Common.{◌≡◌, ◌∙◌, ◌++◌, ap, arith, codes}
use Rattle.std.proofs.lemmas.Result.{IfOk-weaker}
use Rattle.std.specs.Fmt.{styled_decimal}
use Rattle.lfi_file_commands.specs.Images.{two_digits}
use Rattle.lfi_file_commands.proofs.Paths.{four_joined, in_two_digits}
use Rattle.lfi_file_commands.proofs.images.image_path.Goals as goal

pub returns : goal.returns
returns c =
    let slot = c.number-slot.result in
    let digits : styled_decimal c.laid_out.result slot ≡ two_digits slot = rw c.laid_out.ensures (in_two_digits slot (omega arith)) in
    IfOk-weaker c.format.result _ _
    (λ path writes. writes ∙ ap (λ d. c.args.folder.now ++ (codes "/module-" ++ (d ++ codes ".img"))) digits ∙ four_joined c.args.folder.now (codes "/module-") (two_digits slot) (codes ".img")
    ∙ ap (λ n. c.args.folder.now ++ codes "/module-" ++ two_digits n ++ codes ".img") (c.number-slot.ensures.value ∙ c.slot.ensures))
    c.format.ensures.ok

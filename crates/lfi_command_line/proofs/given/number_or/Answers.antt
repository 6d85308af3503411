use Rattle.std.proofs.Common.{◌∙◌, sym, subst}
use Rattle.std.specs.Str.Parse.{ParsesUnsigned, ExplainsUnsignedError, HasUnsignedDigitsIfOk}
use Rattle.clap.specs.Words.{found_of, rows_of, first_of}
use Rattle.clap.proofs.WalkLemmas.{one_text-rows}
use Rattle.lfi_command_line.specs.CommandLine.{IsNumberOr}
use Rattle.lfi_command_line.proofs.Asked.{number_read}
use Rattle.lfi_command_line.proofs.given.number_or.Goals as goal

pub returns : goal.returns
returns c = λ least most is.
    let id = c.args.id.now in
    let found = found_of c.args.matches.now in
    let same = one_text-rows found id in
    let number = number_read (λ bs r. ParsesUnsigned 64 10 bs r × ExplainsUnsignedError 10 bs r × HasUnsignedDigitsIfOk bs r) c.args.default least most id (rows_of found) c.get_one.result is
    (λ none. c.get_one.ensures.none (same ∙ none)) (λ t some. c.get_one.ensures.value t (same ∙ some)) (λ u x g. g.0) in
    subst (λ n. IsNumberOr c.args.default least most (first_of id (rows_of found)) n) (sym c.unwrap_or.ensures) number

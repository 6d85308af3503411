use Rattle.std.proofs.Common.{◌∙◌}
use Rattle.std.specs.Str.Parse.{ParsesUnsigned, ExplainsUnsignedError, HasUnsignedDigitsIfOk}
use Rattle.clap.specs.Words.{found_of, rows_of}
use Rattle.clap.proofs.WalkLemmas.{one_text-rows}
use Rattle.lfi_command_line.proofs.Asked.{number_read_if_any}
use Rattle.lfi_command_line.proofs.given.number_if_any.Goals as goal

pub returns : goal.returns
returns c = λ least most is.
    let id = c.args.id.now in
    let found = found_of c.args.matches.now in
    let same = one_text-rows found id in
    number_read_if_any (λ bs r. ParsesUnsigned 64 10 bs r × ExplainsUnsignedError 10 bs r × HasUnsignedDigitsIfOk bs r) least most id (rows_of found) c.get_one.result is
    (λ none. c.get_one.ensures.none (same ∙ none)) (λ t some. c.get_one.ensures.value t (same ∙ some)) (λ u x g. g.0)

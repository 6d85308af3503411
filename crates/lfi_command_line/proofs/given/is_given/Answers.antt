use Rattle.std.proofs.Common.{◌∙◌}
use Rattle.clap.specs.Words.{found_of, one_of, rows_of}
use Rattle.clap.proofs.WalkLemmas.{one_text-rows}
use Rattle.lfi_command_line.proofs.Asked.{flag_read}
use Rattle.lfi_command_line.proofs.given.is_given.Goals as goal

pub returns : goal.returns
returns c =
    let found = found_of c.args.matches.now in
    let same = one_text-rows found c.args.id.now in
    flag_read (one_of c.args.id.now (rows_of found)) c.get_flag.result (λ none. c.get_flag.ensures.none (same ∙ none)) (λ set. c.get_flag.ensures.value (same ∙ set))
    (λ other. c.get_flag.ensures.other (same ∙ other))

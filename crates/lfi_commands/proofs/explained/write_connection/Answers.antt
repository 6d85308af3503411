use Rattle.std.proofs.Common.{rules, map, option_map}
use Rattle.std.proofs.Output.{has_written_append, has_written_of_eq}
use Rattle.lfi_commands.proofs.Explaining.{lines_of}
use Rattle.lfi_commands.proofs.explained.write_connection.Goals as goal

pub returns : goal.returns
returns g c = λ plain ok.
    let told = c.args.connections.now in
    has_written_of_eq _ _ _ _ _ (lines_of told.starts told.strays (map (λ p. p.now) told.paths.now) c.args.number c.args.fault c.start_at-start.result (option_map (λ p. p.now) c.path_at-path.result) c.start_at-start.ensures c.path_at-path.ensures)
    (has_written_append _ _ _ _ _ _ (c.in_ok-write_fault.ensures plain (search rules)) (search rules))

use Rattle.lfi_command_line.proofs.commands.command.Goals as goal

pub returns : goal.returns
returns c =
    let check = c.with_subcommand-check.ensures _ _ c.bare_command.ensures c.check_command.ensures in
    let load = c.with_subcommand-load.ensures _ _ check c.load_command.ensures in
    let serve = c.with_subcommand-serve.ensures _ _ load c.serve_command.ensures in
    let run' = c.with_subcommand-run.ensures _ _ serve c.run_command.ensures in
    let disassemble = c.with_subcommand-disassemble.ensures _ _ run' c.disassemble_command.ensures in
    let pack = c.with_subcommand-pack.ensures _ _ disassemble c.pack_command.ensures in
    let unpack = c.with_subcommand-unpack.ensures _ _ pack c.unpack_command.ensures in
    c.with_subcommand.ensures _ _ unpack c.info_command.ensures

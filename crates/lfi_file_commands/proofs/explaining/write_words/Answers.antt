use Rattle.lfi_check.proofs.Spelled.{few}
use Rattle.lfi_file_commands.proofs.explaining.write_words.Goals as goal

pub write_listing-requires : goal.write_listing-requires
write_listing-requires g c = record { most = few c.args.code.now c.requires.code }

use Rattle.std.proofs.Common.{◌≡◌, IfSome, option_map, refl, subst, take}
use Rattle.std.specs.Prelude.{length, nat_lt, string_bytes}
use Rattle.lfi_file_commands.specs.Info.{IsShortInfo, most_told}
use Rattle.lfi_file_commands.proofs.Infos.{info_read}
use Rattle.lfi_file_commands.proofs.info.info_at.Goals as goal

pub returns-in-Ok-short_info-clause-info : goal.returns-in-Ok-short_info-clause-info
returns-in-Ok-short_info-clause-info g c =
    let left = g.D.Reader.Read.remaining c.in-Ok.reader in
    let read = c.in-Ok-read_all.bytes.items in
    let info = c.in-Ok-short_info.info in
    let all = subst (λ reader. IfSome (option_map (take 269222273) (g.D.Reader.Read.remaining reader)) (λ all. read ≡ all)) c.take.ensures.inner
    (subst (λ most. IfSome (option_map (take most) (g.D.Reader.Read.remaining c.take.result.inner)) (λ all. read ≡ all)) c.take.ensures.limit c.in-Ok-read_all.ensures.all) in
    let told = info_read most_told 269222273 left (g.D.Disk.file_at c.args.disk.now c.args.path.now) read (string_bytes info.text) info.ending refl c.in-Ok.ensures.reader all
    (subst (λ bytes. IsShortInfo (nat_lt most_told (length bytes)) bytes (string_bytes info.text) info.ending) c.deref.ensures.value c.in-Ok-short_info.ensures.info) in
    record { bytes = told.0; same = told.1; info = told.2 }

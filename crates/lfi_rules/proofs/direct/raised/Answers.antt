use Rattle.std.proofs.Common.{◌≡◌, ◌^◌}
use Rattle.lfi_rules.proofs.Offsets.{flipped}
use Rattle.lfi_rules.proofs.direct.raised.Goals as goal

pub returns : goal.returns
returns c =
    let bits = c.args.bits in
    let k = c.requires.power.0 in
    let fits = c.requires.fits in
    let half : c.args.half ≡ 2 ^ k = c.requires.power.1 in
    rw half (flipped k bits (rw half at fits))

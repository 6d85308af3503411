use Rattle.std.proofs.Common.{◌≡◌, ◌-◌, take, drop, sym, subst, arith}
use Rattle.lfi_receive.specs.Inputs.{unread_of}
use Rattle.lfi_receive.proofs.Pulled.{piece_of}
use Rattle.lfi_receive.proofs.input.Input.piece.Goals as goal

pub returns : goal.returns
returns g c =
    let i = c.args.self.now in
    subst (λ l. take c.min.result (take (i.to - i.from) (drop i.from l)) ≡ take 4096 (unread_of i)) (sym c.deref.ensures.value)
    (piece_of i.from i.to c.min.result 4096 i.bytes.items i.within.0 i.within.1 (omega (arith, c.min.ensures)))

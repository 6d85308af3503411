use Rattle.std.proofs.Common.{◌+◌, ◌<◌, ◌∷◌, [], ◌++◌, length, get_or, take, sym, arith, length-take}
use Rattle.std.proofs.lemmas.List.{take_more, take_all}
use Rattle.lfi_check.proofs.Cuts.{takes_none, takes_both, takes_same}
use Rattle.lfi_check.proofs.cut.CutBeginning.with_bytes.Goals as goal

pub loop-byte-init : goal.loop-byte-init
loop-byte-init c = takes_none c.args.self

pub loop-byte-preserved : goal.loop-byte-preserved
loop-byte-preserved c =
    let i = c.loop-byte.byte-index in
    let piece = c.args.piece.now in
    let less : i < length piece = omega arith in
    takes_same c.args.self c.with_byte-cut.result (take i piece ++ get_or piece i 0 ∷ []) (take (i + 1) piece) (sym (take_more piece i 0 less))
    (takes_both c.args.self c.loop-byte.cut c.with_byte-cut.result (take i piece) (get_or piece i 0 ∷ []) c.loop-byte.invariant c.with_byte-cut.ensures)

pub with_byte-cut-requires-clause-room : goal.with_byte-cut-requires-clause-room
with_byte-cut-requires-clause-room c =
    let i = c.loop-byte.byte-index in
    let count = c.loop-byte.invariant.count in
    let words = c.loop-byte.invariant.words in
    let size = length-take i c.args.piece.now in
    let room = c.requires.room in
    let less : i < length c.args.piece.now = omega arith in
    omega (arith, count, words, size, room, less)

pub returns : goal.returns
returns c = takes_same c.args.self c.loop-byte.cut (take c.loop-byte.byte-index c.args.piece.now) c.args.piece.now (take_all c.loop-byte.byte-index c.args.piece.now (omega arith)) c.loop-byte.invariant

use Rattle.std.proofs.Common.{◌≡◌, List, ℕ, ◌++◌}
use Rattle.lfi_check.proofs.Cuts.{in_parts, takes_both, takes_same}
use Rattle.lfi_check.proofs.cut.CutBeginning.with.Goals as goal

pub returns : goal.returns
returns c =
    let piece : List ℕ = c.args.piece.now in
    let head : List ℕ = c.split_at.result.0.now in
    let words : List ℕ = c.split_at-2.result.0.now in
    let tail : List ℕ = c.split_at-2.result.1.now in
    let parts : (head ++ words) ++ tail ≡ piece = in_parts piece head c.split_at.result.1.now words tail _ _ c.split_at.ensures.front c.split_at.ensures.back c.split_at-2.ensures.front c.split_at-2.ensures.back in
    takes_same c.args.self c.with_bytes-2.result ((head ++ words) ++ tail) piece parts
    (takes_both c.args.self c.with_words.result c.with_bytes-2.result (head ++ words) tail (takes_both c.args.self c.with_bytes.result c.with_words.result head words c.with_bytes.ensures c.with_words.ensures) c.with_bytes-2.ensures)

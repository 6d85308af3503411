use Rattle.std.proofs.Common.{◌<◌, length, refl, subst, arith}
use Rattle.std.proofs.lemmas.Option.{slice_get_within, slice_get_read, get_or_from_slice_get}
use Rattle.lfi_sync.proofs.joining.join_all.Goals as goal

pub returns-in-Ok-clause-kept : goal.returns-in-Ok-clause-kept
returns-in-Ok-clause-kept g c = λ k part at.
    let parts = c.in-Ok.parts.items in
    let handles = c.args.handles.items in
    let same = c.in-Ok.ensures.len in
    let here = c.in-Ok.parts.ok.0 in
    let there = c.args.handles.ok.0 in
    let first : k < length parts = slice_get_within parts k part at in
    let within : k < length handles = omega arith in
    let kept = (c.in-Ok.ensures.each k part (omega arith)).1 in
    (kept.handle, slice_get_read handles (length handles) k kept.handle refl within kept.handle_is, subst (λ p. g.P.Promise.kept_by kept.handle.promise p) (get_or_from_slice_get parts k part part at) kept.kept)

use Rattle.std.proofs.Common.{rules, ◌≡◌, ◌++◌, ◌∙◌}
use Rattle.lfi_check.specs.Begun.{Begins}
use Rattle.lfi_verifier.specs.States.{Keeps, status_after}
use Rattle.lfi_verifier.specs.Statuses.{status_number}
use Rattle.lfi_verifier.proofs.Kept.{begun, judged_by, count, stands, so_far, room, no_room}
use Rattle.lfi_verifier.proofs.pieces.lfi_verify_update.Goals as goal

pub returns-then-not-fits-clause-takes : goal.returns-then-not-fits-clause-takes
returns-then-not-fits-clause-takes c = λ p words bytes h fits.
    absurd (c.fits.ensures.unfit (search rules) (room c.args.state.now p words bytes c.args.piece.now c.in-Some.beginning (search rules) h fits))

pub with-next-requires-clause-whole : goal.with-next-requires-clause-whole
with-next-requires-clause-whole c = (c.fits.ensures.fit (search rules)).0

pub returns-clause-takes : goal.returns-clause-takes
returns-clause-takes c = λ p words bytes h fits.
    let b = c.in-Some.beginning in
    let next = c.with-next.result in
    let keeps : Keeps c.args.state.now b = search rules in
    let begins : Begins next (bytes ++ c.args.piece.now) = c.with-next.ensures.begins bytes (begun c.args.state.now p words bytes b keeps h) in
    let same : next.words ≡ words = c.with-next.ensures.words ∙ count c.args.state.now p words bytes b keeps h in
    let goes : next.profile ≡ p = c.with-next.ensures.profile ∙ judged_by c.args.state.now p words bytes b keeps h in
    let told : c.number-2.result ≡ status_number (status_after next.fault) = search rules in
    (stands c.state_of.result p words (bytes ++ c.args.piece.now) next c.state_of.ensures begins goes same h.some, so_far next p words (bytes ++ c.args.piece.now) c.number-2.result begins goes same told)

pub returns-clause-unfit : goal.returns-clause-unfit
returns-clause-unfit c = λ p words bytes h unfit.
    absurd (unfit (no_room c.args.state.now p words bytes c.args.piece.now c.in-Some.beginning (search rules) h (c.fits.ensures.fit (search rules))))

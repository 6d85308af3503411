use Rattle.std.proofs.Common.{◌++◌, sym, subst}
use Rattle.lfi_verifier.specs.CutStates.{KeepsCut, IsCutOf}
use Rattle.lfi_verifier.specs.StreamVerdicts.{state_at}
use Rattle.lfi_verifier.proofs.CutKept.{takes, so_far, whole_pages}
use Rattle.lfi_verifier.proofs.verdicts.take_code.Goals as goal

pub returns-clause-told : goal.returns-clause-told
returns-clause-told c = λ profile words whole came h is fits.
    let k = c.args.«module» in
    let bytes = whole ++ came in
    let used = c.args.used.now in
    let now = c.with-now.result in
    let before : IsCutOf c.in-Some.before profile words bytes = c.in-Some.ensures.found profile words whole came h is in
    let after : IsCutOf now profile words (bytes ++ used) = takes c.in-Some.before now profile words bytes used before c.with-now.ensures in
    let v = c.keep_where_ended.new.verdicts in
    let kept : KeepsCut v.coming now = subst (λ s. KeepsCut s now) (sym c.keep_where_ended.ensures.coming) c.cut_state_of-verdicts.ensures in
    record {
      coming = record { cut = now; keeps = kept; is = after };
      finds = so_far now profile words (bytes ++ used) c.fault.result c.so_far.result after c.fault.ensures c.so_far.ensures;
      pages = λ ended all. whole_pages (state_at v.modules k) c.ended.result now profile words (bytes ++ used) (c.keep_where_ended.ensures.own ended) c.ended.ensures.is after (c.ended.ensures.begins (bytes ++ used) after.begins all);
    }

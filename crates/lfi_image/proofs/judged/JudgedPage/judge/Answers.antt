use Rattle.std.proofs.Common.{◌≡◌, length, sym, ◌∙◌, subst}
use Rattle.lfi_module.specs.Pages.{words_due}
use Rattle.a64_word.specs.Words.{words_of}
use Rattle.lfi_rules.specs.Verdicts.{Judges}
use Rattle.lfi_image.proofs.judged.JudgedPage.judge.Goals as goal

pub invariant_of-result : goal.invariant_of-result
invariant_of-result c =
    let verdict = c.judge-verdict.result in
    let ws = words_of c.args.page.bytes in
    let there : c.args.first ≡ verdict.first = sym c.judge-verdict.ensures.place in
    let sized : Judges c.profile.result ws c.args.first c.args.extent.words verdict = subst (λ n. Judges c.profile.result ws c.args.first n verdict) (c.number.ensures.value ∙ c.words.ensures) c.judge-verdict.ensures in
    let judged : Judges c.args.extent.profile ws c.args.first c.args.extent.words verdict = subst (λ p. Judges p ws c.args.first c.args.extent.words verdict) c.profile.ensures sized in
    record {
      sized = c.requires.sized;
      due = subst (λ first. length ws ≡ words_due c.args.extent.pages c.args.extent.words first) there c.requires.due;
      judged = subst (λ first. Judges c.args.extent.profile ws first c.args.extent.words verdict) there judged;
    }

use Rattle.std.proofs.Common.{rules, ◌<◌, [], ◌∙◌, List, ℕ, Some, None, false, length, ap, sym, subst, arith}
use Rattle.std.specs.Option.{option_map_or}
use Rattle.std.proofs.lemmas.Option.{slice_get_within}
use Rattle.std.proofs.lemmas.Result.{IfOk-from_err}
use Rattle.lfi_receive.specs.Inputs.{left_of}
use Rattle.lfi_receive.specs.declared.receiver.Receiver.{Receiver}
use Rattle.lfi_receive.specs.Receivers.{StandsFor, IsFinished, cause_of, cause_after, claimed_by}
use Rattle.lfi_model.specs.declared.connection.EndCause.TheVariants.{End}
use Rattle.lfi_stage.specs.Reports.{Reports, cause_at, claimed_at}
use Rattle.lfi_stage_model.proofs.Each.{some_at}
use Rattle.lfi_thread_loops.specs.Heard.{IsHeard, HasHeard}
use Rattle.lfi_loader.proofs.Begins.{ready_for}
use Rattle.lfi_loader.proofs.Told.{told_by}
use Rattle.lfi_loader.proofs.load.load_all.Goals as goal

-- what is known of a receiver: what it has heard, of which its reader had this
abbrev Knows : (ℕ → List ℕ) → ℕ → Receiver → List ℕ → Type 0
Knows texts k r told = IsHeard (claimed_by r) (cause_after (cause_of r)) told (texts k) × StandsFor r told × IsFinished r

pub returns-in-Ok : goal.returns-in-Ok
returns-in-Ok g c = λ texts known.
    let back = c.in-Ok.ensures.1 in
    let rs = c.in-Ok.parts.receivers.items in
    let ins = c.args.inputs.items in
    let told = told_by [] rs (Knows texts) (λ k r at.
    let input = some_at ins k (let within = slice_get_within rs k r at in let same = back.counted in omega arith) in
    let had = ap (λ o. option_map_or (left_of g.R.Read.remaining) o None) input.1 ∙ known k input.0 input.1 in
    let h : HasHeard (Some (texts k)) r = subst (λ whole. HasHeard whole r) had (back.heard k r at) in
    (h.heard, (h.hears, h.stands, h.finished))) in
    record {
      heard = told.0;
      causes = cause_at rs;
      claims = claimed_at rs;
      hears = λ k within.
          let r = some_at rs k (subst (λ n. k < n) (sym back.counted) within) in
          subst (λ o. IsHeard (λ m. option_map_or (λ (r : Receiver). claimed_by r m) o false) (option_map_or (λ (r : Receiver). cause_after (cause_of r)) o End) (told.0 k) (texts k)) (sym r.1) (told.1 k r.0 r.1).0;
      reports = subst (λ n. Reports n told.0 (cause_at rs) (claimed_at rs) c.settle.result) back.counted (c.settle.ensures.reports told.0 (λ k r at. (told.1 k r at).1));
      verified = c.settle.ensures.verifiers ∙ back.verifiers_counted ∙ c.in_ok-parts.ensures.verifier_count;
    }

pub returns-in_err-parts : goal.returns-in_err-parts
returns-in_err-parts g c = IfOk-from_err c.from_residual.result _ c.from_residual.ensures.0

pub scoped-back-requires : goal.scoped-back-requires
scoped-back-requires g c = record {
  at = λ a. (
    (
      ready_for c.len.result c.args.verifiers (length c.args.inputs.items) c.in_ok-parts.field-0 c.in_ok-parts.ensures (c.len.ensures ∙ c.args.inputs.ok.0),
      c.new-lifecycle.ensures ∙ sym c.in_ok-parts.ensures.verifier_count,
    ),
    search rules,
  );
}

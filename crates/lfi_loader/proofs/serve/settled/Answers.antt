use Rattle.std.proofs.Common.{◌≡◌, ◌∙◌, ◌<◌, [], ℕ, List, Option, Some, sym, subst}
use Rattle.lfi_receive.specs.declared.receiver.Receiver.{Receiver}
use Rattle.lfi_receive.specs.Receivers.{StandsFor, IsFinished, cause_of, claimed_by}
use Rattle.lfi_sync.specs.Clients.{sent_at}
use Rattle.lfi_sync.specs.Fates.{fate_at}
use Rattle.lfi_stage.specs.Reports.{Reports, cause_at, claimed_at}
use Rattle.lfi_stage_model.proofs.Each.{some_at}
use Rattle.lfi_loader.proofs.Told.{told_by, none_heard, none_sent}
use Rattle.lfi_loader.proofs.serve.settled.Goals as goal

-- what is known of a receiver: what it has heard, which is nothing where nothing was sent
abbrev Knows : (ℕ → Option (List ℕ)) → ℕ → Receiver → List ℕ → Type 0
Knows sent k r told = StandsFor r told × (sent k ≡ Some [] → told ≡ []) × IsFinished r

pub settle-report-requires : goal.settle-report-requires
settle-report-requires g c = record { parts = c.requires.3.parts.all }

pub returns : goal.returns
returns g c = λ count verifiers limit served.
    let back = served.parts in
    let rs = c.args.back.parts.receivers.items in
    let fates = c.args.back.clients.fates in
    let told = told_by [] rs (Knows (λ k. sent_at (fate_at fates k))) (λ k r at.
    let h = back.heard k r at in
    (h.heard, (h.stands, none_heard (claimed_by r) (cause_of r) h.heard (sent_at (fate_at fates k)) h.hears, h.finished))) in
    record {
      is = record {
        texts = told.0;
        causes = cause_at rs;
        claims = claimed_at rs;
        reports = subst (λ n. Reports n told.0 (cause_at rs) (claimed_at rs) c.settle-report.result) back.counted (c.settle-report.ensures.reports told.0 (λ k r at. (told.1 k r at).0));
        verified = c.settle-report.ensures.verifiers ∙ back.verifiers_counted;
      };
      absent = λ k within gone.
          let r = some_at rs k (subst (λ m. k < m) (sym back.counted) within) in
          (told.1 k r.0 r.1).1 (none_sent (fate_at fates k) gone);
      no_other = served.no_other;
      endless = served.endless;
      limited = served.limited;
    }

-- What a report says of streams that readers had.
use Rattle.std.specs.Prelude.{◌≡◌, ◌<◌, ℕ, Bool, List}
use Rattle.lfi_model.specs.declared.connection.EndCause.{EndCause}
use Rattle.lfi_stage.specs.declared.settlement.Report.{Report}
use Rattle.lfi_stage.specs.Reports.{Reports, verifiers_of}
use Rattle.lfi_thread_loops.specs.Heard.{IsHeard}

-- The report is one plain pass over what was heard of these texts, one a connection, judged by `verifiers` verifiers.
pub record IsLoaded (connections verifiers : ℕ) (texts : ℕ → List ℕ) (report : Report) : Type 0 where
  pub heard : ℕ → List ℕ
  pub causes : ℕ → EndCause
  pub claims : ℕ → ℕ → Bool
  pub hears : (c : ℕ) → c < connections → IsHeard (claims c) (causes c) (heard c) (texts c)
  pub reports : Reports connections heard causes claims report
  pub verified : verifiers_of report ≡ verifiers

-- What a report says of connections that came over a socket.
use Rattle.std.specs.Prelude.{◌≡◌, ◌<◌, ◌≤◌, ℕ, Bool, true, false, List, [], Option, None}
use Rattle.std.specs.declared.time.Duration.{Duration}
use Rattle.lfi_model.specs.declared.connection.EndCause.{EndCause}
use Rattle.lfi_stage.specs.declared.settlement.Report.{Report}
use Rattle.lfi_stage.specs.Reports.{Reports, verifiers_of}
use Rattle.lfi_sync.specs.declared.fate.ClientFate.TheVariants.{Heard}
use Rattle.lfi_sync.specs.Fates.{fate_at, is_absent, is_out_of_time}
use Rattle.lfi_loader.specs.declared.serve.Served.{Served}

-- The report is one plain pass over some texts, one a connection, judged by `verifiers` verifiers.
pub record IsServed (connections verifiers : ℕ) (report : Report) : Type 0 where
  pub texts : ℕ → List ℕ
  pub causes : ℕ → EndCause
  pub claims : ℕ → ℕ → Bool
  pub reports : Reports connections texts causes claims report
  pub verified : verifiers_of report ≡ verifiers

-- The same, and of connections whose clients this became of: the text of one that has no client is empty; of none that isn't there anything is told; and where there is no limit of time, it was
-- over for none. This is the limit.
pub record HasServed (connections verifiers : ℕ) (limit : Option Duration) (served : Served) : Type 0 where
  pub is : IsServed connections verifiers served.report
  pub absent : (c : ℕ) → c < connections → is_absent (fate_at served.clients.fates c) ≡ true → is.texts c ≡ []
  pub no_other : (c : ℕ) → connections ≤ c → fate_at served.clients.fates c ≡ Heard
  pub endless : limit ≡ None → (c : ℕ) → is_out_of_time (fate_at served.clients.fates c) ≡ false
  pub limited : served.clients.limit ≡ limit

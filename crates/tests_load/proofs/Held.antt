-- Who has a module, by a report.
use Rattle.std.proofs.Common.{◌≡◌, ◌≢◌, ◌<◌, ℕ, List, [], Bool, true, false, Some, None, get_or, sym, ◌∙◌, subst, arith}
use Rattle.lfi_module.specs.Numbers.{module_count}
use Rattle.lfi_frame.specs.Streams.{Message, Cut}
use Rattle.lfi_model.specs.declared.connection.EndCause.{EndCause}
use Rattle.lfi_receive.specs.Claims.{is_opened}
use Rattle.lfi_stage.specs.declared.settlement.Report.{Report}
use Rattle.lfi_stage.specs.Reports.{Reports, IsClaimer}

nothing_cut : (bytes : List ℕ) → bytes ≡ [] → Cut bytes [] []
nothing_cut bytes is = record { spelled = is; each = λ k d low. absurd (omega (arith, low)); stops = λ e. cc }

module _ (connections : ℕ) (texts : ℕ → List ℕ) (causes : ℕ → EndCause) (claims : ℕ → ℕ → Bool) (report : Report) (is : Reports connections texts causes claims report) where
  -- a connection that sent nothing has none
  pub none_of_nothing : (c m : ℕ) → c < connections → m < module_count → texts c ≡ [] → get_or report.holders m None ≢ Some c
  none_of_nothing c m within in_range empty held =
      let mine = subst (IsClaimer connections (λ d. claims d m)) held (is.holders m in_range) in
      let opened : false ≡ true = is.opens c [] [] within (nothing_cut (texts c) empty) m mine.1 in cc

  -- one that a text opens is some connection's
  pub opened_held : (c m : ℕ) (messages : List Message) (rest : List ℕ) → c < connections → m < module_count → Cut (texts c) messages rest → is_opened messages m ≡ true
      → get_or report.holders m None ≢ None
  opened_held c m messages rest within in_range cut opens none =
      let nobody = subst (IsClaimer connections (λ d. claims d m)) none (is.holders m in_range) in
      let found = is.opened c messages rest within cut m in_range opens in
      let both : true ≡ false = sym found.2 ∙ nobody found.0 found.1 in cc

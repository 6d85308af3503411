-- A line that is carried out is no wrong words.
use Rattle.std.proofs.Common.{◌≡◌, ◌∙◌, ◌⊎◌, ℕ, zero, suc, List, length, nat_lt, cond, Bool, true, false, Option, Some, None, Result, Ok, Err, IfOk, IfErr, OnErr, inl, inr, refl, subst, sym}
use Rattle.lfi_command_line.specs.declared.line.Line.{Line}
use Rattle.lfi_command_line.specs.declared.line.Line.TheVariants.{Check, Load, Serve, Run, Disassemble, Pack, Unpack, Info}
use Rattle.lfi_command_line.specs.declared.options.CheckOptions.{CheckOptions}
use Rattle.lfi_command_line.specs.declared.options.Format.{Format}
use Rattle.lfi_command_line.specs.declared.options.Format.TheVariants.{Text, Json}
use Rattle.lfi_command_line.specs.CommandLine.{AreWrong}
use Rattle.lfi_image_file.specs.declared.fault.ImageFault.{ImageFault}
use Rattle.lfi_image_file.specs.declared.fault.ImageFault.TheVariants as image_fault
use Rattle.lfi_confinement.specs.declared.cause.StopCause.TheVariants as causes
use Rattle.lfi_machine.specs.declared.halt.Halt.{Halt}
use Rattle.lfi_machine.specs.declared.halt.Halt.TheVariants as halts
use Rattle.lfi_run_image.specs.declared.image_run.ImageRun.{ImageRun}
use Rattle.lfi_run_image.specs.declared.image_run.ImageRun.TheVariants as image_run
use Rattle.lfi_stage.specs.declared.settlement.Report.{Report}
use Rattle.lfi_check.specs.declared.verdict.Verdict.{Verdict}
use Rattle.lfi_check.specs.declared.verdict.Verdict.TheVariants.{Lawful, Refused, BadLength}
use Rattle.lfi_file_commands.specs.declared.ending.Ending.{Ending}
use Rattle.lfi_file_commands.specs.declared.ending.Ending.TheVariants.{Well, NotWell, WrongWords, Failed}
use Rattle.lfi_file_commands.specs.Checking.{ending_of, verdict_of}
use Rattle.lfi_file_commands.specs.Explaining.{ChecksAs, ChecksObject, ChecksOne, ChecksPath, paths_of}
use Rattle.lfi_file_commands.specs.Info.{IsInfo, IsShortInfo, TellsNamed, TellsOne, ending_of_fault, fault_of}
use Rattle.lfi_file_commands.specs.Info as infos
use Rattle.lfi_file_commands.specs.Kinds.{file_kind}
use Rattle.lfi_file_commands.specs.Several.{AreDone, DoesEach}
use Rattle.lfi_file_commands.specs.declared.kind.FileKind.{FileKind}
use Rattle.lfi_file_commands.specs.declared.kind.FileKind.TheVariants as kinds
use Rattle.lfi_frame.specs.declared.fault.FrameFault.{FrameFault}
use Rattle.lfi_file_commands.specs.declared.listed.Listed.{Listed}
use Rattle.lfi_file_commands.specs.declared.listed.Listed.TheVariants as listed
use Rattle.lfi_file_commands.specs.Listing.{ending_of_listed}
use Rattle.lfi_file_commands.specs.Unpacking.{HasUnpacked}
use Rattle.lfi_file_commands.specs.Endings.{ending_of_halt, ending_of_run, number_of, EndsUnlessLost}
use Rattle.lfi_commands.specs.Clients.{are_all_in_time, are_all_taken, EndsServing}
use Rattle.lfi_commands.specs.Endings.{EndsLoad}
use Rattle.lfi_commands.specs.Loading.{folder_of, of_files, streams_of, EndsObject, LacksObject, TellsAs}
use Rattle.lfi_commands.specs.Objects.{IsObject, Sources}
use Rattle.lfi_commands.specs.Serving.{of_served}
use Rattle.lfi_file_commands.specs.Images.{folder_or_none}
use Rattle.lfi_command_line.specs.declared.options.ReportOptions.{ReportOptions}
use Rattle.lfi_file_commands.specs.Left.{Left, left, OnlyOutput}
use Rattle.lfi_file_commands.specs.Running.{EndsRun}
use Rattle.lfi_file_commands.specs.Failures.{failure_line, is_of_output, Told, TellsLines}
use Rattle.lfi_file_commands.specs.declared.failure.Failure.{Failure}
use Rattle.lfi_commands.proofs.Failing.{fails_by}
use Rattle.lfi_commands.specs.Runs.{CarriesOut, FailsAs, IsSoundLine, Runs, TellsFailure, TellsFlaw, TellsNoFormat, TellsNoPages}
use Rattle.lfi_file_commands.specs.declared.failure.Failure.TheVariants.{NoMemory}

well_ends : WrongWords ≡ Well → ⊥
well_ends ends = cc

failed_ends : WrongWords ≡ Failed → ⊥
failed_ends ends = cc

not_well_ends : WrongWords ≡ NotWell → ⊥
not_well_ends ends = cc

by_stream : (fault : Option FrameFault) → WrongWords ≡ ending_of_fault fault → ⊥
by_stream None ends = cc
by_stream (Some fault) ends = cc

by_verdict : (verdict : Verdict) → WrongWords ≡ ending_of verdict → ⊥
by_verdict (Lawful words) ends = cc
by_verdict (Refused fault) ends = cc
by_verdict BadLength ends = cc

by_load : (report : Report) (all_taken all_put : Bool) → EndsLoad report all_taken all_put WrongWords → ⊥
by_load report true true ends = ends
by_load report true false ends = cc
by_load report false all_put ends = cc

by_report : (format : Format) (report : Report) (sources : Sources) (asked : ReportOptions) (old new : Left) (ending : Ending) → TellsAs format report sources asked old new ending → ending ≡ WrongWords → ⊥
by_report Text report sources asked old new ending told is = by_load report (are_all_taken sources.clients) told.all (subst (EndsLoad report (are_all_taken sources.clients) told.all) is told.ends)
by_report Json report sources asked old new ending told is = go told.ends
  where
    go : ((object : List ℕ) × IsObject report sources asked.explain (folder_or_none (folder_of asked)) told.puts.fates object × EndsObject report sources told.all object told.images new ending)
        ⊎ LacksObject told.images new ending → ⊥
    go (inl ends) = by_load report (are_all_taken sources.clients) told.all (subst (EndsLoad report (are_all_taken sources.clients) told.all) is ends.2.2)
    go (inr lacks) = failed_ends (sym is ∙ lacks.4)

by_serve : (in_time is_lost : Bool) (loads : Ending) → (loads ≡ WrongWords → ⊥) → EndsServing in_time is_lost loads WrongWords → ⊥
by_serve true is_lost loads not_wrong ends = not_wrong (sym ends)
by_serve false true loads not_wrong ends = failed_ends ends
by_serve false false Well not_wrong ends = not_well_ends ends
by_serve false false NotWell not_wrong ends = not_well_ends ends
by_serve false false WrongWords not_wrong ends = not_wrong refl
by_serve false false Failed not_wrong ends = failed_ends ends

by_halt : (halt : Halt) → WrongWords ≡ ending_of_halt halt → ⊥
by_halt halts.StepsUsed ends = cc
by_halt (halts.Stopped (causes.NoAccess address)) ends = cc
by_halt (halts.Stopped (causes.NoFetch pc)) ends = cc
by_halt (halts.Stopped (causes.Breakpoint pc)) ends = cc
by_halt (halts.Stopped (causes.Ended status)) ends = cc
by_halt (halts.Stopped causes.UnlawfulAnswer) ends = cc
by_halt halts.NoMemory ends = cc

by_fault : (fault : ImageFault) → WrongWords ≡ ending_of_run (image_run.Refused fault) → ⊥
by_fault image_fault.NoMemory ends = cc
by_fault image_fault.Device ends = cc
by_fault fault ends = cc

by_run : (is_lost : Bool) (run : ImageRun) → EndsRun is_lost run WrongWords → ⊥
by_run true run ends = cc
by_run false (image_run.Refused fault) ends = by_fault fault ends
by_run false (image_run.Ended halt steps) ends = by_halt halt ends

-- of two endings that aren't that of wrong words the worse one isn't it either
chosen : (b : Bool) (before here : Ending) → (before ≡ WrongWords → ⊥) → (here ≡ WrongWords → ⊥) → WrongWords ≡ cond b here before → ⊥
chosen true before here not_before not_here ends = not_here (sym ends)
chosen false before here not_before not_here ends = not_before (sym ends)

by_one : (name : List ℕ) (asked : CheckOptions) (path : List ℕ) (bytes : Option (List ℕ)) (old new : Left) (ending : Ending) → ChecksOne name asked path bytes old new ending → ending ≡ WrongWords → ⊥
by_one name asked path bytes old new ending (inl judged) is = by_verdict (verdict_of judged.finding) (sym is ∙ judged.ends)
by_one name asked path bytes old new ending (inr unread) is = failed_ends (sym is ∙ unread.5)

by_done : (One : ℕ → List ℕ → Left → Left → Ending → Type 0) (paths : List (List ℕ)) → ((k : ℕ) (path : List ℕ) (old new : Left) (ending : Ending) → One k path old new ending → ending ≡ WrongWords → ⊥)
    → (count : ℕ) (old new : Left) (ending : Ending) → AreDone One paths count old new ending → ending ≡ WrongWords → ⊥
by_done One paths one zero old new ending done is = well_ends (sym is ∙ done.1)
by_done One paths one (suc k) old new ending done is =
    chosen (nat_lt (number_of done.1) (number_of done.2)) done.1 done.2 (by_done One paths one k old done.0 done.1 done.4)
    (one k done.3 done.0 new done.2 done.6) (sym is ∙ done.7)

unless_lost : (is_lost : Bool) (told : Ending) → EndsUnlessLost is_lost told WrongWords → (told ≡ WrongWords → ⊥) → ⊥
unless_lost true told ends not_told = failed_ends ends
unless_lost false told ends not_told = not_told (sym ends)

by_each : (One : ℕ → List ℕ → Left → Left → Ending → Type 0) (paths : List (List ℕ)) → ((k : ℕ) (path : List ℕ) (old new : Left) (ending : Ending) → One k path old new ending → ending ≡ WrongWords → ⊥)
    → (old new : Left) → DoesEach One paths old new WrongWords → ⊥
by_each One paths one old new (inl all) = unless_lost new.is_lost all.0 all.2 (by_done One paths one (length paths) old new all.0 all.1)
by_each One paths one old new (inr stops) = failed_ends stops.1.6

by_object : (asked : CheckOptions) (file_at : List ℕ → Option (List ℕ)) (before : ℕ) (path : List ℕ) (old new : Left) (ending : Ending) → ChecksObject asked file_at before path old new ending
    → ending ≡ WrongWords → ⊥
by_object asked file_at before path old new ending (inl judged) is = by_verdict (verdict_of judged.finding) (sym is ∙ judged.ends)
by_object asked file_at before path old new ending (inr unread) is = failed_ends (sym is ∙ unread.5)

by_checks : (format : Format) (asked : CheckOptions) (file_at : List ℕ → Option (List ℕ)) (old new : Left) → ChecksAs format asked file_at old new WrongWords → ⊥
by_checks Text asked file_at old new did =
    by_each (ChecksPath asked file_at) (paths_of asked) (λ k path was now ending one is. by_one _ asked path (file_at path) was now ending one is) old new did
by_checks Json asked file_at old new (inl ends) =
    unless_lost new.is_lost ends.1 ends.5
    (by_done (ChecksObject asked file_at) (paths_of asked) (λ k path was now ending one is. by_object asked file_at k path was now ending one is) (length (paths_of asked)) old ends.0 ends.1 ends.2)
by_checks Json asked file_at old new (inr stops) = failed_ends stops.2.6

by_info : (kind : FileKind) (bytes text : List ℕ) (ending : Ending) → IsInfo kind bytes text ending → ending ≡ WrongWords → ⊥
by_info kinds.Elf bytes text ending info is = not_well_ends (sym is ∙ info.1)
by_info kinds.Image bytes text ending (inl image) is = well_ends (sym is ∙ image.4)
by_info kinds.Image bytes text ending (inr refused) is = by_fault refused.0 (sym is ∙ refused.3)
by_info kinds.Stream bytes text ending info is = by_stream (fault_of info.1) (sym is ∙ info.4)
by_info kinds.Plain bytes text ending (inl code) is = well_ends (sym is ∙ code.2)
by_info kinds.Plain bytes text ending (inr other) is = not_well_ends (sym is ∙ other.2)

by_short : (is_long : Bool) (bytes text : List ℕ) (ending : Ending) → IsShortInfo is_long bytes text ending → ending ≡ WrongWords → ⊥
by_short true bytes text ending info is = not_well_ends (sym is ∙ info.1)
by_short false bytes text ending info is = by_info (file_kind bytes) bytes text ending info is

by_told : (name path : List ℕ) (known : Option (List ℕ)) (old new : Left) (ending : Ending) → TellsNamed name path known old new ending → ending ≡ WrongWords → ⊥
by_told name path known old new ending (inl told) is = by_short (nat_lt infos.most_told (length told.info.bytes)) told.info.bytes told.text ending told.info.info is
by_told name path known old new ending (inr unread) is = failed_ends (sym is ∙ unread.5)

by_listing : (found : Listed) (is_lost : Bool) → EndsUnlessLost is_lost (ending_of_listed found) WrongWords → ⊥
by_listing found true ends = failed_ends ends
by_listing (listed.Words kind) false ends = well_ends ends
by_listing (listed.NoCode n) false ends = not_well_ends ends

by_unpack : (bytes : Option (List ℕ)) (old new : Left) → HasUnpacked bytes old new WrongWords → ⊥
by_unpack bytes old new (inl written) = well_ends written.6
by_unpack bytes old new (inr told) = by_run new.is_lost (image_run.Refused told.0) told.5

by_line : (line : Line) (file_at : List ℕ → Option (List ℕ)) (old new : Left) → CarriesOut line file_at old new WrongWords → ⊥
by_line (Check asked) file_at old new carried = by_checks asked.format asked file_at old new carried.did
by_line (Load asked) file_at old new carried = by_report asked.report.format carried.report (of_files (streams_of asked) carried.kinds) asked.report old new WrongWords carried.told refl
by_line (Serve asked) file_at old new carried =
    let told = carried.told in
    by_serve (are_all_in_time carried.found.clients.fates) new.is_lost told.by_load
    (by_report asked.report.format carried.found.report (of_served asked.connections carried.found) asked.report old told.before told.by_load told.reported) told.ends
by_line (Run asked) file_at old new carried = by_run new.is_lost carried.run carried.ends
by_line (Disassemble asked) file_at old new carried = by_listing carried.listed new.is_lost carried.ends
by_line (Pack asked) file_at old new carried = carried.found
by_line (Unpack asked) file_at old new carried = by_unpack (file_at asked.image.now) old new carried
by_line (Info asked) file_at old new carried = by_each (TellsOne asked file_at) (infos.paths_of asked) (λ k path was now ending one is. by_told _ path (file_at path) was now ending one is) old new carried

pub runs_line : (words : List (List ℕ)) (file_at : List ℕ → Option (List ℕ)) (old new : Left) (line : Line) (ending : Ending) → IsSoundLine words line → CarriesOut line file_at old new ending
    → Runs words file_at old new ending
runs_line words file_at old new line Well is carried = inr (line, is, carried)
runs_line words file_at old new line NotWell is carried = (line, is, carried)
runs_line words file_at old new line WrongWords is carried = absurd (by_line line file_at old new carried)
runs_line words file_at old new line Failed is carried = inr (line, is, carried)

-- wrong words, of which is told
module _ (words : List (List ℕ)) (file_at : List ℕ → Option (List ℕ)) (out : Option (List ℕ)) (put : Option (List (List ℕ × List ℕ))) (was : Bool) (errors told : Option (List ℕ)) where
  abbrev AreWrongOf : Bool → Type 0
  AreWrongOf lost =
      let old = left out put was errors in
      let new = left out put lost told in
      AreWrong words ⊎ (TellsNoPages words old new ⊎ (TellsNoFormat words old new ⊎ TellsFlaw words old new))

  pub ends_wrong : (lost : Bool) (ending : Ending) → EndsUnlessLost lost WrongWords ending → AreWrongOf lost → Runs words file_at (left out put was errors) (left out put lost told) ending
  ends_wrong true ending ends wrong = subst (Runs words file_at (left out put was errors) (left out put true told)) (sym ends) (inl (NoMemory, tt, tt, refl, λ other. refl))
  ends_wrong false ending ends wrong = subst (Runs words file_at (left out put was errors) (left out put false told)) (sym ends) (wrong, refl, refl, refl)

pub runs_failed : (words : List (List ℕ)) (file_at : List ℕ → Option (List ℕ)) (old new : Left) (ending : Ending) → ending ≡ Failed → TellsFailure words old new → Runs words file_at old new ending
runs_failed words file_at old new ending is tells = subst (Runs words file_at old new) (sym is) (inl tells)

-- a line that was carried out, or of which a failure is told
pub runs_ended : (words : List (List ℕ)) (file_at : List ℕ → Option (List ℕ)) (line : Line) (came : Result Ending Failure) (old mid new : Left) (ending : Ending) → IsSoundLine words line
    → IfOk came (CarriesOut line file_at old mid) → IfOk came (λ well. (ending ≡ well) × (new ≡ mid)) → IfErr came (FailsAs line)
    → IfErr came (λ failure. is_of_output failure ≡ false → mid.out ≡ old.out) → OnErr came (OnlyOutput old mid)
    → IfErr came (λ failure. (ending ≡ Failed) × TellsLines (failure_line failure) mid new) → Runs words file_at old new ending
runs_ended words file_at line (Ok well) old mid new ending is carried same fails out untold told =
    subst (λ left. Runs words file_at old left ending) (sym same.1) (subst (Runs words file_at old mid) (sym same.0) (runs_line words file_at old mid line well is carried))
runs_ended words file_at line (Err failure) old mid new ending is carried same fails out untold told =
    let tells = told.1 in
    runs_failed words file_at old new ending told.0
    (failure, fails_by words line failure is fails, subst (λ e. Told new.is_lost e new.errors (failure_line failure)) untold.1.0 tells.0, tells.2 ∙ untold.0, λ other. tells.1 ∙ out other)

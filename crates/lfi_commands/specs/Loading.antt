-- What `lfiload load` finds, writes, puts and tells. Source: this project's profile, docs/COMMANDS.md.
use Rattle.std.specs.Prelude.{◌≡◌, ◌⊎◌, ℕ, Bool, true, false, List, [], ◌++◌, Option, Some, length, map, option_map, slice_get}
use Rattle.std.specs.Io.KnownBytes.{Appends}
use Rattle.lfi_model.specs.Texts.{summary_text}
use Rattle.lfi_stage.specs.declared.settlement.Report.{Report}
use Rattle.lfi_loader.specs.Loaded.{IsLoaded}
use Rattle.lfi_stage.specs.Summaries.{summary_of}
use Rattle.lfi_file_commands.specs.declared.ending.Ending.{Ending}
use Rattle.lfi_file_commands.specs.declared.ending.Ending.TheVariants.{Failed}
use Rattle.lfi_file_commands.specs.declared.failure.Failure.{Failure}
use Rattle.std.specs.declared.io.ErrorKind.{ErrorKind}
use Rattle.lfi_commands.specs.Clients.{are_all_taken, read_lines}
use Rattle.lfi_commands.specs.Endings.{EndsLoad}
use Rattle.lfi_commands.specs.Explained.{TellsExplained}
use Rattle.lfi_commands.specs.Objects.{Sources, IsObject}
use Rattle.lfi_file_commands.specs.Failures.{failure_line, is_of_output, FailsOn, Told}
use Rattle.lfi_command_line.specs.declared.options.Format.{Format}
use Rattle.lfi_command_line.specs.declared.options.Format.TheVariants.{Text, Json}
use Rattle.lfi_command_line.specs.declared.options.LoadOptions.{LoadOptions}
use Rattle.lfi_command_line.specs.declared.options.ReportOptions.{ReportOptions}
use Rattle.lfi_file_commands.specs.Images.{asked_images, folder_or_none, WritesImages}
use Rattle.lfi_file_commands.specs.Left.{Left}

-- these are the bytes of the streams, all of which are known
abbrev pub AreKnown : List (Option (List ℕ)) → (ℕ → List ℕ) → Type 0
AreKnown streams bytes = (c : ℕ) (stream : Option (List ℕ)) → slice_get streams c ≡ Some stream → stream ≡ Some (bytes c)

-- the folder for images, by the bytes of its path, where one is named
abbrev pub folder_of : ReportOptions → Option (List ℕ)
folder_of asked = option_map (λ path. path.now) asked.out

-- What was done with the report on a load in lines of text: it was written, then what is told of its refused modules and of its connections, where that is asked for; its images were put into the
-- folder, where one is named; and it was told of reads that failed. By all that it ends.
pub record TellsReport (report : Report) (sources : Sources) (asked : ReportOptions) (old new : Left) (ending : Ending) : Type 0 where
  pub explained : List ℕ
  pub explains : TellsExplained asked.explain report sources.paths explained
  pub written : Appends old.out new.out (summary_text (summary_of report) ++ explained)
  -- whether all images were put, and what was left then
  pub all : Bool
  pub images : Left
  pub puts : WritesImages (folder_or_none (folder_of asked)) (asked_images (folder_of asked) report.modules) old images all
  pub put : new.put ≡ images.put
  pub told : Told new.is_lost images.errors new.errors (read_lines report.faults sources.kinds)
  pub lost : images.is_lost ≡ true → new.is_lost ≡ true
  pub ends : EndsLoad report (are_all_taken sources.clients) all ending

-- the object was written, and it was told of reads that failed; by all that it ends
abbrev pub EndsObject : Report → Sources → (all : Bool) → (object : List ℕ) → (images new : Left) → Ending → Type 0
EndsObject report sources all object images new ending =
    Appends images.out new.out object × Told new.is_lost images.errors new.errors (read_lines report.faults sources.kinds) × EndsLoad report (are_all_taken sources.clients) all ending

-- the object could not be written, or there was no memory for it; that was told, unless it is lost, and the run has failed
abbrev pub LacksObject : (images new : Left) → Ending → Type 0
LacksObject images new ending =
    (failure : Failure) × FailsOn [] failure × (is_of_output failure ≡ false → new.out ≡ images.out) × Told new.is_lost images.errors new.errors (failure_line failure) × (ending ≡ Failed)

-- What was done with the report as one object: the images were put into the folder, where one is named; then the object was written.
pub record TellsObject (report : Report) (sources : Sources) (asked : ReportOptions) (old new : Left) (ending : Ending) : Type 0 where
  -- whether all images were put, and what was left then
  pub all : Bool
  pub images : Left
  pub puts : WritesImages (folder_or_none (folder_of asked)) (asked_images (folder_of asked) report.modules) old images all
  pub before : images.out ≡ old.out
  pub put : new.put ≡ images.put
  pub lost : images.is_lost ≡ true → new.is_lost ≡ true
  pub ends : ((object : List ℕ) × IsObject report sources asked.explain (folder_or_none (folder_of asked)) puts.fates object × EndsObject report sources all object images new ending) ⊎ LacksObject images new ending

-- in lines of text, or as one object
abbrev pub TellsAs : Format → Report → Sources → ReportOptions → (old new : Left) → Ending → Type 0
TellsAs Text = TellsReport
TellsAs Json = TellsObject

-- the paths of the streams, by their bytes
abbrev pub streams_of : LoadOptions → List (List ℕ)
streams_of asked = map (λ path. path.now) asked.streams.items

-- what is known of the connections of streams at these paths, with the kinds of the errors of reads, as far as they were told
abbrev pub of_files : (paths : List (List ℕ)) → (kinds : List (Option ErrorKind)) → Sources
of_files paths kinds = record { count = length paths; paths = paths; clients = []; kinds = kinds }

-- What `lfiload load` did, as it was asked for: it found one report on the streams, as far as their bytes are known, and told it.
pub record HasLoaded (asked : LoadOptions) (file_at : List ℕ → Option (List ℕ)) (old new : Left) (ending : Ending) : Type 0 where
  pub report : Report
  pub loaded : (bytes : ℕ → List ℕ) → AreKnown (map file_at (streams_of asked)) bytes → IsLoaded (length asked.streams.items) asked.verifiers bytes report
  -- the kinds of the errors of reads, as far as they were told
  pub kinds : List (Option ErrorKind)
  pub told : TellsAs asked.report.format report (of_files (streams_of asked) kinds) asked.report old new ending

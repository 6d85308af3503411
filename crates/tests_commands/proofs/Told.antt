-- What the commands tell and put, by their endings.
use Rattle.std.proofs.Common.{◌≡◌, ◌∙◌, ◌⊎◌, inl, inr, Bool, true, false, ℕ, List, [], ◌∷◌, ◌++◌, map, codes, Option, Some, None, refl, sym, ap, subst, true≢false}
use Rattle.std.specs.List.{cons_option}
use Rattle.std.specs.Io.KnownBytes.{Appends}
use Rattle.lfi_module.specs.declared.profile.Profile.{Profile}
use Rattle.a64_word.specs.Words.{words_of}
use Rattle.lfi_check.specs.declared.verdict.Verdict.TheVariants as verdicts
use Rattle.lfi_check.specs.Checking.{Checks, IsCode, verdict_text}
use Rattle.lfi_explain.specs.declared.listing.Marks.{Marks}
use Rattle.lfi_explain.specs.Listings.{WritesListing}
use Rattle.lfi_image.specs.Image.{Image}
use Rattle.std.specs.declared.io.ErrorKind.{ErrorKind}
use Rattle.lfi_model.specs.Texts.{lines_from}
use Rattle.lfi_command_line.specs.declared.options.CheckOptions.{CheckOptions}
use Rattle.lfi_command_line.specs.declared.options.Explain.{Explain}
use Rattle.lfi_command_line.specs.declared.options.Explain.TheVariants.{Nothing, First, All}
use Rattle.lfi_command_line.specs.declared.options.ReportOptions.{ReportOptions}
use Rattle.lfi_stage.specs.declared.settlement.Report.{Report}
use Rattle.lfi_file_commands.specs.declared.ending.Ending.TheVariants.{Well, Failed}
use Rattle.lfi_file_commands.specs.declared.finding.Finding.{Finding}
use Rattle.lfi_file_commands.specs.declared.finding.Finding.TheVariants as findings
use Rattle.lfi_file_commands.specs.declared.failure.Failure.{Failure}
use Rattle.lfi_file_commands.specs.declared.listed.Listed.{Listed}
use Rattle.lfi_file_commands.specs.declared.listed.Listed.TheVariants as listed
use Rattle.lfi_file_commands.specs.Checking.{IsFound, TellsOf, ending_of, other_of, verdict_of}
use Rattle.lfi_file_commands.specs.Endings.{EndsUnlessLost}
use Rattle.lfi_file_commands.specs.Explaining.{WritesFinding, IsObjectOf}
use Rattle.lfi_file_commands.specs.Json.{file_object, image_item, IsFindingText}
use Rattle.lfi_file_commands.specs.Failures.{failure_lines, Told}
use Rattle.lfi_file_commands.specs.Images.{Fate, Puts, WritesImages, asked_images, folder_or_none, failures_in, file_written, files_written, image_file, is_none_of}
use Rattle.lfi_file_commands.specs.Left.{Left}
use Rattle.lfi_file_commands.specs.Listing.{WritesWords, ending_of_listed}
use Rattle.lfi_file_commands.proofs.Fates.{told_trans}
use Rattle.lfi_file_commands.proofs.Joined.{joined}
use Rattle.lfi_commands.specs.Clients.{are_all_taken, read_lines}
use Rattle.lfi_commands.specs.Endings.{EndsLoad}
use Rattle.lfi_commands.specs.Loading.{EndsObject, LacksObject, TellsObject, TellsReport, folder_of}
use Rattle.lfi_commands.specs.Objects.{IsObject, Sources, TellModules, connection_items, images_member}

abbrev Files : Type 0
Files = List (List ℕ × List ℕ)

-- ---- judging and listing

written_lawful : (profile : Profile) (explain : Explain) (bytes : Option (List ℕ)) (words : ℕ) (old new : Option (List ℕ)) → WritesFinding [] profile explain bytes (findings.Lawful words) old new
    → Appends old new (verdict_text (verdicts.Lawful words) ++ codes "\n")
written_lawful profile Nothing bytes words old new written = written
written_lawful profile First bytes words old new written = written
written_lawful profile All bytes words old new written = written

pub lawful_told : (profile : Profile) (explain : Explain) (path bytes : List ℕ) (old new : Left) (finding : Finding) → IsFound profile bytes finding
    → WritesFinding [] profile explain (Some bytes) finding old.out new.out → TellsOf path (other_of finding) old.is_lost new.is_lost old.errors new.errors → new.put ≡ old.put
    → Well ≡ ending_of (verdict_of finding)
    → (words : ℕ) × Checks profile bytes (verdicts.Lawful words) × Appends old.out new.out (verdict_text (verdicts.Lawful words) ++ codes "\n") × (new.errors ≡ old.errors) × (new.put ≡ old.put)
lawful_told profile explain path bytes old new (findings.Lawful words) found written told put ends =
    (words, found, written_lawful profile explain (Some bytes) words old.out new.out written, told.0, put)
lawful_told profile explain path bytes old new (findings.Refused fault) found written told put ends = absurd cc
lawful_told profile explain path bytes old new (findings.NoCode n) found written told put ends = absurd cc

pub lawful_object : (asked : CheckOptions) (before : ℕ) (path bytes : List ℕ) (old new : Left) (finding : Finding) (object : List ℕ) → IsObjectOf asked before path (Some bytes) finding object
    → Appends old.out new.out object → TellsOf path (other_of finding) old.is_lost new.is_lost old.errors new.errors → new.put ≡ old.put → Well ≡ ending_of (verdict_of finding)
    → (words : ℕ) × (told : List ℕ) × Checks asked.profile bytes (verdicts.Lawful words) × IsFindingText asked.profile asked.explain (Some bytes) (findings.Lawful words) told
    × Appends old.out new.out (file_object before path asked.profile told) × (new.errors ≡ old.errors) × (new.put ≡ old.put)
lawful_object asked before path bytes old new (findings.Lawful words) object is written told put ends =
    (words, is.told, is.found, is.tells, subst (λ text. Appends old.out new.out text) is.same written, told.0, put)
lawful_object asked before path bytes old new (findings.Refused fault) object is written told put ends = absurd cc
lawful_object asked before path bytes old new (findings.NoCode n) object is written told put ends = absurd cc

pub listed_well : (marks : Marks) (profile : Profile) (bytes : List ℕ) (lost : Bool) (found : Listed) (old new : Option (List ℕ)) → EndsUnlessLost lost (ending_of_listed found) Well
    → WritesWords marks profile (Some bytes) found old new → (code : List ℕ) × (bytes ≡ code) × IsCode code × WritesListing marks profile (words_of code) 0 old new
listed_well marks profile bytes true found old new ends written = absurd cc
listed_well marks profile bytes false (listed.Words kind) old new ends written = (written.0, written.1, written.2, written.4)
listed_well marks profile bytes false (listed.NoCode n) old new ends written = absurd cc

pub told_now : (lost : Bool) (old new : Option (List ℕ)) (lines : List ℕ) → lost ≡ false → Told lost old new lines → Appends old new lines
told_now lost old new lines kept told = subst (λ b. Told b old new lines) kept told

-- ---- images

one_written : (folder : List ℕ) (image : Image) (failure : Option Failure) (later : List Failure) (files rest : Files) → true ≡ is_none_of (cons_option failure later)
    → (true ≡ is_none_of later → files ≡ rest) → file_written folder image failure ++ files ≡ image_file folder image ∷ rest
one_written folder image None later files rest none same = ap (λ l. image_file folder image ∷ l) (same none)
one_written folder image (Some failure) later files rest none same = absurd (true≢false none)

-- where no failure came, the files of all images were written
all_written : (folder : List ℕ) (fates : List Fate) → true ≡ is_none_of (failures_in fates) → files_written folder fates ≡ map (image_file folder) (map (λ fate. fate.image) fates)
all_written folder [] none = refl
all_written folder (fate ∷ fates) none =
    one_written folder fate.image fate.failure (failures_in fates) (files_written folder fates) (map (image_file folder) (map (λ fate. fate.image) fates)) none (all_written folder fates)

puts_known : (old new : Option Files) (files there : Files) → Puts old new files → old ≡ Some there → new ≡ Some (there ++ files)
puts_known None new files there puts at = absurd cc
puts_known (Some x) None files there puts at = absurd puts
puts_known (Some x) (Some y) files there puts at = let same : x ≡ there = cc in ap Some (puts ∙ ap (λ l. l ++ files) same)

pub images_put : (folder : List ℕ) (images : List Image) (old new : Left) (there : Files) (all : Bool) → WritesImages folder images old new all → all ≡ true → old.put ≡ Some there
    → new.put ≡ Some (there ++ map (image_file folder) images)
images_put folder images old new there all is well at =
    puts_known old.put new.put (files_written folder is.fates) there is.puts at
    ∙ ap (λ l. Some (there ++ l)) (all_written folder is.fates (sym well ∙ is.all_put) ∙ ap (map (image_file folder)) is.each)

-- ---- loads

pub all_put : (report : Report) (taken all : Bool) → EndsLoad report taken all Well → all ≡ true
all_put report true true ends = refl
all_put report true false ends = absurd cc
all_put report false all ends = absurd cc

no_lines : (failures : List Failure) → true ≡ is_none_of failures → failure_lines failures ≡ []
no_lines [] none = refl
no_lines (failure ∷ failures) none = absurd (true≢false none)

-- where all images were put, it was told of reads alone
reads_alone : (report : Report) (kinds : List (Option ErrorKind)) (folder : List ℕ) (images : List Image) (old mid new : Left) (all : Bool) → WritesImages folder images old mid all → all ≡ true
    → (mid.is_lost ≡ true → new.is_lost ≡ true) → Told new.is_lost mid.errors new.errors (read_lines report.faults kinds) → new.is_lost ≡ false
    → Appends old.errors new.errors (read_lines report.faults kinds)
reads_alone report kinds folder images old mid new all puts well grows told kept =
    let none = no_lines (failures_in puts.fates) (sym well ∙ puts.all_put) in
    let lines = read_lines report.faults kinds in
    told_now new.is_lost old.errors new.errors lines kept
    (subst (λ l. Told new.is_lost old.errors new.errors (l ++ lines)) none
    (told_trans mid.is_lost new.is_lost old.errors mid.errors new.errors (failure_lines (failures_in puts.fates)) lines grows puts.told told))

pub reads_told : (report : Report) (sources : Sources) (asked : ReportOptions) (old new : Left) → TellsReport report sources asked old new Well → new.is_lost ≡ false
    → Appends old.errors new.errors (read_lines report.faults sources.kinds)
reads_told report sources asked old new is kept =
    reads_alone report sources.kinds (folder_or_none (folder_of asked)) (asked_images (folder_of asked) report.modules) old is.images new is.all is.puts
    (all_put report (are_all_taken sources.clients) is.all is.ends) is.lost is.told kept

pub object_told : (report : Report) (sources : Sources) (asked : ReportOptions) (old new : Left) (there : Files) → TellsObject report sources asked old new Well → old.put ≡ Some there
    → (modules rest : List ℕ) × TellModules asked.explain report.holders 0 report.modules modules × Appends old.out new.out (codes "{\"modules\":[" ++ modules ++ rest)
    × (new.put ≡ Some (there ++ map (image_file (folder_or_none (folder_of asked))) (asked_images (folder_of asked) report.modules)))
    × (new.is_lost ≡ false → Appends old.errors new.errors (read_lines report.faults sources.kinds))
object_told report sources asked old new there is at = by is.ends
  where
    folder : List ℕ
    folder = folder_or_none (folder_of asked)

    images : List Image
    images = asked_images (folder_of asked) report.modules

    by : ((object : List ℕ) × IsObject report sources asked.explain folder is.puts.fates object × EndsObject report sources is.all object is.images new Well) ⊎ LacksObject is.images new Well
        → (modules rest : List ℕ) × TellModules asked.explain report.holders 0 report.modules modules × Appends old.out new.out (codes "{\"modules\":[" ++ modules ++ rest)
        × (new.put ≡ Some (there ++ map (image_file folder) images)) × (new.is_lost ≡ false → Appends old.errors new.errors (read_lines report.faults sources.kinds))
    by (inl found) =
        let tells = found.1 in
        let well = all_put report (are_all_taken sources.clients) is.all found.2.2 in
        let front = codes "{\"modules\":[" ++ tells.modules in
        let middle = codes "],\"connections\":[" in
        let items = connection_items report sources in
        let end = images_member report.strays (lines_from (image_item folder) 0 is.puts.fates) in (
          tells.modules,
          middle ++ items ++ end,
          tells.tells,
          subst (λ text. Appends old.out new.out text) (tells.same ∙ sym (joined front (middle ++ items) end ∙ ap (λ l. l ++ end) (joined front middle items))) (subst (λ out. Appends out new.out found.0) is.before found.2.0),
          is.put ∙ images_put folder images old is.images there is.all is.puts well at,
          reads_alone report sources.kinds folder images old is.images new is.all is.puts well is.lost found.2.1,
        )
    by (inr lacks) = let ends : Well ≡ Failed = lacks.4 in absurd cc

pub not_lost : (before after : Bool) → (before ≡ true → after ≡ true) → after ≡ false → before ≡ false
not_lost false after grows kept = refl
not_lost true after grows kept = absurd (true≢false (sym (grows refl) ∙ kept))

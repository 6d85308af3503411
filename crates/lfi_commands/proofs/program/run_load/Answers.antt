use Rattle.std.proofs.Common.{◌≡◌, ◌≤◌, ◌∙◌, [], Bor, List, ℕ, false, true, ap, length, map, refl, subst, sym}
use Rattle.std.proofs.lemmas.List.{length-map}
use Rattle.std.proofs.lemmas.Result.{IfErr-weaker, IfOk-weaker}
use Rattle.lfi_loader.specs.Loaded.{IsLoaded}
use Rattle.lfi_file_commands.proofs.Failing.{is_no_other}
use Rattle.lfi_file_commands.specs.Failures.{failure_of_load, is_of_output, FailsLoading, IsOfReadingOne}
use Rattle.lfi_file_commands.specs.Opening.{AreInputsOf}
use Rattle.lfi_sync.specs.Clients.{read_by}
use Rattle.lfi_commands.proofs.Failing.{fails_on_load, fails_on_reading, is_of_load, refused}
use Rattle.lfi_commands.proofs.Inputs.{files_known, known_left, map_twice}
use Rattle.lfi_commands.specs.Loading.{of_files, streams_of, HasLoaded, TellsAs}
use Rattle.lfi_commands.specs.Objects.{Sources}
use Rattle.lfi_commands.proofs.program.run_load.Goals as goal

pub load_all-requires-clause-verifiers : goal.load_all-requires-clause-verifiers
load_all-requires-clause-verifiers g c κs within = c.requires.verifiers

pub load_all-requires-clause-connections : goal.load_all-requires-clause-connections
load_all-requires-clause-connections g c κs within =
    let paths = c.as_slice-paths.result.now in
    let count = c.in-Ok.ensures.inputs.all ∙ length-map paths (λ path. g.D.Disk.file_at c.args.disk.now path.now) ∙ ap (λ (ps : List (Bor (List ℕ))). length ps) c.as_slice-paths.ensures.value in
    subst (λ n. (1 ≤ n) × (n ≤ 8)) (sym count) c.requires.connections

pub end_load-requires : goal.end_load-requires
end_load-requires g c =
    subst (λ (ps : List (Bor (List ℕ))). length ps ≤ 8) (sym c.as_slice-paths.ensures.value) c.requires.connections.1

pub returns-in-Err : goal.returns-in-Err
returns-in-Err g c =
    let failure = subst (λ (ps : List (Bor (List ℕ))). IsOfReadingOne (map (λ p. p.now) ps) c.in-Err.failure) c.as_slice-paths.ensures.value c.in-Err.ensures.failure in
    record {
      found = tt;
      failure = fails_on_reading (streams_of c.args.asked.now) c.in-Err.failure failure;
      output = λ other. refl;
      untold = (refl, (refl, refl));
    }

pub returns : goal.returns
returns g c =
    let streams = streams_of c.args.asked.now in
    let error = c.in-Err-load_all.error in
    record {
      found = tt;
      failure = subst (FailsLoading streams) (sym c.from.ensures) (fails_on_load streams (failure_of_load error) (refused error));
      output = λ other. refl;
      untold = (refl, (refl, refl));
    }

pub returns-in-Ok-load_all : goal.returns-in-Ok-load_all
returns-in-Ok-load_all g c =
    let asked = c.args.asked.now in
    let at = g.D.Disk.file_at c.args.disk.now in
    let inputs = c.in-Ok.inputs.items in
    let report = c.in-Ok-load_all.report in
    let did = c.end_load in
    let result = did.result in
    let old = c.args.outputs.now in
    let new = did.new.outputs in
    let kinds = c.kinds.result in
    let given = map (λ (p : Bor (List ℕ)). p.now) c.as_slice-paths.result.now in
    let named = ap (λ (ps : List (Bor (List ℕ))). map (λ p. p.now) ps) c.as_slice-paths.ensures.value in
    let sources : Sources = record { count = length c.as_slice-paths.result.now; paths = given; clients = []; kinds = kinds } in
    let files = subst (λ (ps : List (Bor (List ℕ))). AreInputsOf (read_by g.D.Reader.Read.remaining) (map (λ p. at p.now) ps) inputs) c.as_slice-paths.ensures.value c.in-Ok.ensures.inputs in
    let are = subst (λ known. AreInputsOf (read_by g.D.Reader.Read.remaining) known inputs) (sym (map_twice at (λ (p : Bor (List ℕ)). p.now) asked.streams.items)) files in
    let count = files.all ∙ length-map asked.streams.items (λ p. at p.now) in
    record {
      found = IfOk-weaker result (TellsAs asked.report.format report sources asked.report old new) (HasLoaded asked at old new) (λ ending told. record {
        report = report;
        loaded = λ bytes known. subst (λ n. IsLoaded n asked.verifiers bytes report) count (c.in-Ok-load_all.ensures bytes (known_left _ inputs bytes are known));
        kinds = kinds;
        told = subst (λ (sources : Sources). TellsAs asked.report.format report sources asked.report old new ending) (files_known c.as_slice-paths.result.now (length c.as_slice-paths.result.now) kinds refl ∙ ap (λ (ps : List (List ℕ)). of_files ps kinds) named) told;
      }) did.ensures.told;
      failure = IfErr-weaker result (λ failure. is_of_output failure ≡ true) (FailsLoading (streams_of asked)) (λ failure is. fails_on_load (streams_of asked) failure (is_of_load failure is)) did.ensures.failure;
      output = IfErr-weaker result (λ failure. is_of_output failure ≡ true) (λ failure. is_of_output failure ≡ false → new.out ≡ old.out) (λ failure is other. is_no_other failure is other) did.ensures.failure;
      untold = did.ensures.untold;
    }

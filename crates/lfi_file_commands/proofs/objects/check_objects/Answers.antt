use Rattle.std.proofs.Common.{rules, ◌≡◌, ◌∙◌, ℕ, Bor, List, Some, ap, length, refl, slice_get, subst}
use Rattle.std.specs.Prelude.{option_map}
use Rattle.std.proofs.lemmas.Option.{slice_get-map}
use Rattle.lfi_file_commands.specs.Explaining.{ChecksObject, paths_of}
use Rattle.lfi_file_commands.specs.Several.{AreDone}
use Rattle.lfi_file_commands.proofs.Checks.{done_more}
use Rattle.lfi_file_commands.proofs.objects.check_objects.Goals as goal

pub loop-number-init : goal.loop-number-init
loop-number-init g c = (refl, refl)

pub loop-number-preserved : goal.loop-number-preserved
loop-number-preserved g c =
    let k : ℕ = c.loop-number.number in
    let asked = c.args.asked.now in
    let path = c.path_at.result.now in
    let at = g.D.Disk.file_at c.args.disk.now in
    let files = c.as_slice-paths.ensures.value in
    let found = subst (λ (ps : List (Bor (List ℕ))). slice_get ps k ≡ Some c.path_at.result) files c.path_at.ensures in
    done_more (ChecksObject asked at) (paths_of asked) k c.args.outputs.now c.loop-number.outputs c.check_object.new.outputs c.loop-number.worst c.in-Ok.here path c.worse-worst.result c.loop-number.invariant
    (slice_get-map (λ (p : Bor (List ℕ)). p.now) asked.files.items k ∙ ap (option_map (λ p. p.now)) found) c.in-Ok.ensures.found c.worse-worst.ensures

pub returns-clause-all : goal.returns-clause-all
returns-clause-all g c =
    let asked = c.args.asked.now in
    let same : c.loop-number.number ≡ length c.as_slice-paths.result.now = search rules in
    let all = same ∙ ap (λ (ps : List (Bor (List ℕ))). length ps) c.as_slice-paths.ensures.value in
    subst (λ n. AreDone (ChecksObject asked (g.D.Disk.file_at c.args.disk.now)) (paths_of asked) n c.args.outputs.now c.loop-number.outputs c.loop-number.worst) all c.loop-number.invariant

pub returns-in-Err-clause-part : goal.returns-in-Err-clause-part
returns-in-Err-clause-part g c = (c.loop-number.number, c.loop-number.outputs, c.loop-number.worst, c.loop-number.invariant, c.in-Err.ensures.untold)

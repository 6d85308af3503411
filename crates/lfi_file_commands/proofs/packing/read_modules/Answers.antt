use Rattle.std.proofs.Common.{rules, ◌≡◌, ◌∙◌, ◌++◌, ◌∷◌, [], ℕ, Bor, List, Option, ap, map, subst, sym, take}
use Rattle.std.specs.Prelude.{option_map}
use Rattle.std.proofs.lemmas.List.{map-append}
use Rattle.std.proofs.lemmas.Option.{slice_get-map}
use Rattle.lfi_file_commands.specs.Packing.{AreModulesOf}
use Rattle.lfi_file_commands.proofs.Inputs.{map_all, map_more}
use Rattle.lfi_file_commands.proofs.Streams.{modules_more}
use Rattle.lfi_file_commands.proofs.packing.read_modules.Goals as goal

pub returns-in-Err-clause-stop : goal.returns-in-Err-clause-stop
returns-in-Err-clause-stop g c =
    let k : ℕ = c.loop-number.number in
    let paths = c.args.paths.now in
    (k, c.path_at.result.now, slice_get-map (λ (p : Bor (List ℕ)). p.now) paths k ∙ ap (option_map (λ p. p.now)) c.path_at.ensures, c.in-Err.ensures.stop)

pub returns-then-is_err-clause-stop : goal.returns-then-is_err-clause-stop
returns-then-is_err-clause-stop g c =
    let k : ℕ = c.loop-number.number in
    let paths = c.args.paths.now in
    (k, c.path_at.result.now, slice_get-map (λ (p : Bor (List ℕ)). p.now) paths k ∙ ap (option_map (λ p. p.now)) c.path_at.ensures, tt)

pub loop-number-preserved : goal.loop-number-preserved
loop-number-preserved g c =
    let k = c.loop-number.number in
    let paths = c.args.paths.now in
    let path = c.path_at.result in
    let at : Bor (List ℕ) → Option (List ℕ) = λ p. g.D.Disk.file_at c.args.disk.now p.now in
    let files = c.loop-number.files.items in
    let pushed : c.push.new.self.items ≡ files ++ c.in-Ok.file ∷ [] = search rules in
    let items = ap (map (λ file. file.items)) pushed ∙ map-append (λ file. file.items) files (c.in-Ok.file ∷ []) in
    subst (λ texts. AreModulesOf c.args.entry texts (map (λ file. file.items) c.push.new.self.items)) (sym (map_more at paths k path c.path_at.ensures))
    (subst (λ codes. AreModulesOf c.args.entry (map at (take k paths) ++ at path ∷ []) codes) (sym items)
    (modules_more c.args.entry (map at (take k paths)) (map (λ file. file.items) files) (at path) c.in-Ok.file.items c.loop-number.invariant
    c.in-Ok.ensures.code.0 c.in-Ok.ensures.code.1 c.in-Ok.ensures.entry))

pub returns-clause-modules : goal.returns-clause-modules
returns-clause-modules g c =
    subst (λ texts. AreModulesOf c.args.entry texts (map (λ file. file.items) c.loop-number.files.items))
    (map_all (λ p. g.D.Disk.file_at c.args.disk.now p.now) c.args.paths.now c.loop-number.number (search rules)) c.loop-number.invariant

use Rattle.std.proofs.Common.{◌≡◌, ◌∙◌, ℕ, Bor, List, [], Some, ap, ap₂, get_or, map, subst, sym, take}
use Rattle.std.specs.Prelude.{option_map, slice_get}
use Rattle.std.proofs.lemmas.Option.{get_or_from_slice_get, slice_get-map, slice_get_within}
use Rattle.lfi_model.proofs.Lines.{lines_more}
use Rattle.lfi_file_commands.specs.Errors.{is_lost_of, writer_of}
use Rattle.lfi_file_commands.specs.Failures.{Told}
use Rattle.lfi_file_commands.specs.Kinds.{file_kind, kind_note, kind_notes}
use Rattle.lfi_file_commands.proofs.Fates.{told_trans}
use Rattle.lfi_file_commands.proofs.packing.tell_kinds.Goals as goal

pub loop-number-preserved : goal.loop-number-preserved
loop-number-preserved g c =
    let k : ℕ = c.loop-number.number in
    let paths : List (List ℕ) = map (λ (p : Bor (List ℕ)). p.now) c.args.paths.now in
    let files : List (List ℕ) = map (λ file. file.items) c.args.files.now in
    let path : List ℕ = c.path_at-path.result.now in
    let code : List ℕ = c.code_at.result.now in
    let mid = c.loop-number.errors in
    let new = c.write_text.new.self in
    let at : slice_get paths k ≡ Some path = slice_get-map (λ (p : Bor (List ℕ)). p.now) c.args.paths.now k ∙ ap (option_map (λ p. p.now)) c.path_at-path.ensures in
    let same : kind_note (get_or paths k []) (file_kind (get_or files k [])) ≡ kind_note path c.of-kind.result =
    ap₂ kind_note (get_or_from_slice_get paths k path [] at) (ap file_kind (get_or_from_slice_get files k code [] c.code_at.ensures) ∙ sym c.of-kind.ensures) in
    subst (λ text. Told (is_lost_of new) (g.E.Write.contents (writer_of c.args.errors.now)) (g.E.Write.contents (writer_of new)) text)
    (lines_more (λ n file. kind_note (get_or paths n []) (file_kind file)) files k [] (slice_get_within files k code c.code_at.ensures))
    (told_trans (is_lost_of mid) (is_lost_of new) (g.E.Write.contents (writer_of c.args.errors.now)) (g.E.Write.contents (writer_of mid)) (g.E.Write.contents (writer_of new))
    (kind_notes paths (take k files)) (kind_note (get_or paths k []) (file_kind (get_or files k []))) c.write_text.ensures.lost c.loop-number.invariant
    (subst (λ text. Told (is_lost_of new) (g.E.Write.contents (writer_of mid)) (g.E.Write.contents (writer_of new)) text) (sym same) c.write_text.ensures.told))

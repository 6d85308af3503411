use Rattle.std.proofs.Common.{Bor, List, ℕ, map, refl, subst, sym}
use Rattle.lfi_file_commands.specs.Packing.{AreModules, AreModulesOf, HasPacked, WritesStream}
use Rattle.lfi_file_commands.specs.Errors.{is_lost_of, writer_of}
use Rattle.lfi_file_commands.specs.Failures.{Told}
use Rattle.lfi_file_commands.specs.Kinds.{kind_notes}
use Rattle.lfi_file_commands.specs.Left.{left}
use Rattle.lfi_file_commands.proofs.RunEndings.{packs_all}
use Rattle.lfi_file_commands.proofs.Streams.{map_twice}
use Rattle.lfi_file_commands.proofs.running.run_pack.Goals as goal

pub write_stream-requires-clause-modules : goal.write_stream-requires-clause-modules
write_stream-requires-clause-modules g c =
    subst (λ files. AreModules c.args.asked.now.entry (map (λ file. file.items) files)) (sym c.deref.ensures.value) c.in-Ok.ensures.modules.modules

pub returns-in-Ok-write_stream-clause-found : goal.returns-in-Ok-write_stream-clause-found
returns-in-Ok-write_stream-clause-found g c =
    let inside = c.outputs.inside in
    let asked = c.args.asked.now in
    let files : List (List ℕ) = map (λ file. file.items) c.in-Ok.files.items in
    let at = g.D.Disk.file_at c.args.disk.now in
    let put = g.P.ImageStore.put_files inside.images in
    let lost = is_lost_of c.tell_kinds.new.errors in
    let errors = g.E.Write.contents (writer_of inside.errors) in
    let told = g.E.Write.contents (writer_of c.tell_kinds.new.errors) in
    let out = g.O.Write.contents inside.out in
    let written = g.O.Write.contents c.write_stream.new.writer in
    let old = left out put (is_lost_of inside.errors) errors in
    let new = left written put lost told in
    let modules = subst (λ (ps : List (Bor (List ℕ))). AreModulesOf asked.entry (map (λ p. at p.now) ps) files) c.as_slice.ensures.value c.in-Ok.ensures.modules in
    subst (λ before. HasPacked asked at before new c.unless_lost.result) c.outputs.view_is
    (record {
      found = packs_all asked at old new c.unless_lost.result (
        files,
        subst (λ known. AreModulesOf asked.entry known files) (sym (map_twice at (λ (p : Bor (List ℕ)). p.now) asked.codes.items)) modules,
        subst (λ items. WritesStream asked (map (λ file. file.items) items) out written) c.deref.ensures.value c.in-Ok-write_stream.ensures,
        subst (λ (ps : List (Bor (List ℕ))). Told lost errors told (kind_notes (map (λ p. p.now) ps) files)) c.as_slice-in-Ok-write_stream.ensures.value
            (subst (λ items. Told lost errors told (kind_notes (map (λ (p : Bor (List ℕ)). p.now) c.as_slice-in-Ok-write_stream.result.now) (map (λ file. file.items) items))) c.deref-in-Ok-write_stream.ensures.value c.tell_kinds.ensures.told),
      ) c.unless_lost.ensures;
      put = refl;
    })

use Rattle.std.proofs.Common.{◌≡◌, ◌∙◌, ap, subst, sym, refl, ℕ, List, [], ◌∷◌, Some, map}
use Rattle.std.specs.Io.KnownBytes.{Appends}
use Rattle.std.proofs.lemmas.List.{append-nil}
use Rattle.lfi_file_commands.specs.Kinds.{file_kind, kind_note, kind_notes}
use Rattle.lfi_file_commands.specs.Packing.{AreModulesOf, WritesStream, codes_of}
use Rattle.tests_commands.proofs.Told.{told_now}
use Rattle.tests_commands.proofs.laws.one_file_is_packed.Goals as goal

-- the one file's code is the one module's
only : (entry : ℕ) (code : List ℕ) (files : List (List ℕ)) → AreModulesOf entry (Some code ∷ []) files → files ≡ code ∷ []
only entry code [] m = absurd (cc m.all)
only entry code (x ∷ []) m = ap (λ (c : List ℕ). c ∷ []) (sym (m.each 0 x (Some code) refl refl))
only entry code (x ∷ (y ∷ more)) m = absurd (cc m.all)

pub returns : goal.returns
returns a asked path code file_at old new one at is =
    let packs = is.found.0 in
    let modules = subst (λ known. AreModulesOf asked.entry known packs.0) (ap (λ paths. map file_at paths) one ∙ ap (λ known. known ∷ []) at) packs.1 in
    let files = only asked.entry code packs.0 modules in
    let told = told_now new.is_lost old.errors new.errors (kind_notes (codes_of asked) packs.0) is.found.1 packs.3 in (
      subst (λ fs. WritesStream asked fs old.out new.out) files packs.2,
      subst (Appends old.errors new.errors) (append-nil (kind_note path (file_kind code)))
          (subst (λ ps. Appends old.errors new.errors (kind_notes ps (code ∷ []))) one (subst (λ fs. Appends old.errors new.errors (kind_notes (codes_of asked) fs)) files told)),
    )

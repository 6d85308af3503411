-- What is told of a file as an object, carried to what is left of the file.
use Rattle.std.proofs.Common.{◌≡◌, ◌++◌, ℕ, List, [], Option, Some, refl, subst, sym}
use Rattle.std.proofs.lemmas.List.{append-nil}
use Rattle.lfi_module.specs.declared.profile.Profile.{Profile}
use Rattle.lfi_rules.specs.declared.fault.Fault.{Fault}
use Rattle.lfi_command_line.specs.declared.options.CheckOptions.{CheckOptions}
use Rattle.lfi_command_line.specs.declared.options.Explain.{Explain}
use Rattle.lfi_command_line.specs.declared.options.Explain.TheVariants.{Nothing}
use Rattle.lfi_file_commands.specs.declared.finding.Finding.{Finding}
use Rattle.lfi_file_commands.specs.declared.finding.Finding.TheVariants as findings
use Rattle.lfi_file_commands.specs.Checking.{IsFound}
use Rattle.lfi_file_commands.specs.Explaining.{IsObjectOf}
use Rattle.lfi_file_commands.specs.Json.{IsFindingText, RefusedMembers, file_object}
use Rattle.lfi_file_commands.specs.inner.Whole.{IsFoundOf, IsReadTo}
use Rattle.lfi_file_commands.proofs.Explained.{Knows, carried, found_read, known_as}

-- beside a word and its rule nothing is told where nothing is asked for
pub nothing_more : (profile : Profile) (how : Explain) (code : List ℕ) (fault : Fault) (text : List ℕ) → how ≡ Nothing → (more : List ℕ) × RefusedMembers profile how code fault more × (text ≡ text ++ more)
nothing_more profile how code fault text is = ([], subst (λ how. RefusedMembers profile how code fault []) (sym is) refl, sym (append-nil text))

text_known : (profile : Profile) (how : Explain) (more known : Option (List ℕ)) (finding : Finding) (told : List ℕ) → Knows more known → IsFindingText profile how more finding told
    → IsFindingText profile how known finding told
text_known profile how more known (findings.Lawful n) told same is = is
text_known profile how more known (findings.Refused fault) told same is = (is.0, carried (λ all. all ≡ is.0) more known same is.1, is.2, is.3)
text_known profile how more known (findings.NoCode n) told same is = is

text_read : (profile : Profile) (how : Explain) (left : Option (List ℕ)) (bytes : List ℕ) (finding : Finding) (told : List ℕ) → IsReadTo left bytes → IsFoundOf profile bytes finding
    → IsFindingText profile how (Some bytes) finding told → IsFindingText profile how left finding told
text_read profile how left bytes (findings.Lawful n) told to found is = is
text_read profile how left bytes (findings.Refused fault) told to found is = (is.0, carried (λ all. all ≡ is.0) (Some bytes) left (known_as left bytes (to.code found.0)) is.1, is.2, is.3)
text_read profile how left bytes (findings.NoCode n) told to found is = is

-- what is told of the bytes that were read is told of the file
pub object_read : (asked : CheckOptions) (before : ℕ) (path : List ℕ) (left known : Option (List ℕ)) (bytes : List ℕ) (finding : Finding) (object : List ℕ) → Knows left known → IsReadTo left bytes
    → IsFoundOf asked.profile bytes finding → (told : List ℕ) × IsFindingText asked.profile asked.explain (Some bytes) finding told × (object ≡ file_object before path asked.profile told)
    → IsObjectOf asked before path known finding object
object_read asked before path left known bytes finding object knows to found tells = record {
  found = carried (λ all. IsFound asked.profile all finding) left known knows (found_read asked.profile left bytes finding to found);
  told = tells.0;
  tells = text_known asked.profile asked.explain left known finding tells.0 knows (text_read asked.profile asked.explain left bytes finding tells.0 to found tells.1);
  same = tells.2;
}

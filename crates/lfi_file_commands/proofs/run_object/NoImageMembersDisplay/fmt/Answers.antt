use Rattle.std.proofs.Common.{◌≡◌, ◌∙◌, ℕ, List, ◌++◌, ap, refl, subst}
use Rattle.std.specs.Prelude.{codes, decimal}
use Rattle.std.specs.Fmt.{HasWritten, digits}
use Rattle.lfi_rules.specs.declared.fault.Fault.{Fault}
use Rattle.lfi_image_file.specs.Faults.{number_of, fault_text}
use Rattle.lfi_image_file.specs.declared.fault.ImageFault.{ImageFault}
use Rattle.lfi_image_file.specs.declared.fault.ImageFault.TheVariants as faults
use Rattle.lfi_file_commands.specs.Json.{no_image_members}
use Rattle.lfi_file_commands.proofs.run_object.NoImageMembersDisplay.fmt.Goals as goal

other_text : (fault : ImageFault) → ((code : Fault) → fault ≡ faults.Unlawful code → ⊥)
    → codes "\"fault\":" ++ (decimal (number_of fault) ++ (codes ",\"reason\":\"" ++ (fault_text fault ++ codes "\""))) ≡ no_image_members fault
unfolding digits
other_text faults.Magic other = refl
other_text faults.Profile other = refl
other_text faults.Counts other = refl
other_text faults.Base other = refl
other_text faults.Truncated other = refl
other_text faults.More other = refl
other_text (faults.Unlawful code) other = absurd (other code refl)
other_text faults.NoMemory other = refl
other_text faults.Device other = refl

pub returns-in_default-clause-writes : goal.returns-in_default-clause-writes
returns-in_default-clause-writes g c = λ plain ok.
    subst (λ (text : List ℕ). HasWritten {W = g.row.W.Denot} g.W.Write.write_str_gives c.args.f.now text c.write-in_default.new.self)
    (ap (λ n. codes "\"fault\":" ++ (decimal n ++ (codes ",\"reason\":\"" ++ (fault_text c.args.self.now.0 ++ codes "\"")))) c.number.ensures ∙ other_text c.args.self.now.0 c.in_default.not-Unlawful)
    (c.write-in_default.ensures.writes plain ok)

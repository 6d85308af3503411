use Rattle.std.proofs.Common.{◌≡◌, ◌∙◌, ℕ, List, ◌++◌, ap, append_assoc, codes, refl}
use Rattle.std.proofs.Output.{has_written_of_eq}
use Rattle.lfi_file_commands.specs.Causes.{cause_text}
use Rattle.lfi_file_commands.specs.declared.device_cause.DeviceCause.{DeviceCause}
use Rattle.lfi_file_commands.specs.declared.device_cause.DeviceCause.TheVariants as causes
use Rattle.lfi_commands.specs.Objects.{cause_member}
use Rattle.lfi_commands.proofs.members.CauseMemberDisplay.fmt.Goals as goal

told : (key : List ℕ) (cause : DeviceCause) → (cause ≡ causes.Other → ⊥) → codes ",\"" ++ key ++ codes "\":\"" ++ cause_text cause ++ codes "\"" ≡ cause_member key cause
told key causes.NotFound other = refl
told key causes.PermissionDenied other = refl
told key causes.IsADirectory other = refl
told key causes.NotADirectory other = refl
told key causes.TooManyLinks other = refl
told key causes.NameTooLong other = refl
told key causes.ReadOnly other = refl
told key causes.StorageFull other = refl
told key causes.QuotaExceeded other = refl
told key causes.FileTooLarge other = refl
told key causes.BrokenPipe other = refl
told key causes.ConnectionReset other = refl
told key causes.AddressInUse other = refl
told key causes.EndedEarly other = refl
told key causes.InvalidData other = refl
told key causes.Other other = absurd (other refl)

joined : (a b c d e : List ℕ) → a ++ (b ++ (c ++ (d ++ e))) ≡ a ++ b ++ c ++ d ++ e
joined a b c d e = simp append_assoc

pub returns-in_default-clause-writes : goal.returns-in_default-clause-writes
returns-in_default-clause-writes g c = λ plain ok.
    let key = c.args.self.now.key.now in
    let cause = c.args.self.now.cause in
    has_written_of_eq _ _ _ _ _
    (ap (λ text. codes ",\"" ++ (key ++ (codes "\":\"" ++ (text ++ codes "\"")))) c.text.ensures ∙ joined (codes ",\"") key (codes "\":\"") (cause_text cause) (codes "\"") ∙ told key cause c.in_default.not-Other)
    (c.write.ensures.writes plain ok)

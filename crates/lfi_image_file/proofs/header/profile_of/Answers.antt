use Rattle.std.proofs.Common.{◌≡◌, ℕ, true, false, Option, Some, None, sym, subst}
use Rattle.std.specs.Prelude.{IfSome, MatchOption, ◌==◌}
use Rattle.std.proofs.lemmas.Bool.{ne_eqb}
use Rattle.std.proofs.lemmas.Option.{none-some}
use Rattle.lfi_module.specs.declared.profile.Profile.{Profile}
use Rattle.lfi_module.specs.declared.profile.Profile.TheVariants.{One, Two}
use Rattle.lfi_module.specs.Profiles.{profile_number}
use Rattle.lfi_image_file.specs.Reading.{is_profile}
use Rattle.lfi_image_file.proofs.Headers.{or_false, profile_fits}
use Rattle.lfi_image_file.proofs.header.profile_of.Goals as goal

by_profile : (number : ℕ) (o : Option Profile) → IfSome o (λ profile. profile_number profile ≡ number) → ((profile : Profile) → profile_number profile ≡ number → o ≡ Some profile)
    → MatchOption o (is_profile number ≡ false) (λ profile. (is_profile number ≡ true) × (profile_number profile ≡ number))
by_profile number None some only =
    or_false (number == 1) (number == 2) (ne_eqb number 1 (λ e. none-some One (only One (sym e)))) (ne_eqb number 2 (λ e. none-some Two (only Two (sym e))))
by_profile number (Some profile) some only = (subst (λ n. is_profile n ≡ true) some (profile_fits profile), some)

pub returns : goal.returns
returns c = by_profile c.args.number c.new.result c.new.ensures.some c.new.ensures.only

-- A profile by its number, and the pages of a module of it.
use Rattle.std.proofs.Common.{◌≡◌, ℕ, ◌==◌, Option, Some, None, refl, sym, ◌∙◌, ap, inl, inr}
use Rattle.std.specs.Prelude.{IfSome}
use Rattle.std.proofs.lemmas.Bool.Decides.{eqb_tells}
use Rattle.lfi_module.specs.declared.profile.Profile.{Profile}
use Rattle.lfi_module.specs.declared.profile.Profile.TheVariants.{One, Two}
use Rattle.lfi_module.specs.Profiles.{profile_number}
use Rattle.lfi_module.specs.Pages.{HasPages}
use Rattle.lfi_stream.specs.Numbers.{profile_at, pages_at}
use Rattle.lfi_connection.proofs.Growth.{by_false}

-- its number tells it
pub at_number : (profile : Profile) → profile_at (profile_number profile) ≡ Some profile
at_number One = refl
at_number Two = refl

-- The profile whose number this is, where there is one, is the one that the number tells.
pub profile_is : (answer : Option Profile) (n : ℕ) → IfSome answer (λ profile. profile_number profile ≡ n) → ((profile : Profile) → profile_number profile ≡ n → answer ≡ Some profile) → answer ≡ profile_at n
profile_is (Some profile) n is only = sym (at_number profile) ∙ ap profile_at is
profile_is None n is only = elim (eqb_tells n 1) [
  | inl one ↦ absurd (let e = only One (sym one.1) in cc)
  | inr no_one ↦ elim (eqb_tells n 2) [
    | inl two ↦ absurd (let e = only Two (sym two.1) in cc)
    | inr no_two ↦ sym (by_false (n == 1) _ _ no_one.0 ∙ by_false (n == 2) _ _ no_two.0)
  ]
]

-- the words of a page of a module of this profile tell it
pub at_words : (profile : Profile) (pages : ℕ) → HasPages profile pages → pages_at profile pages ≡ Some pages
at_words profile pages (inl small) = ap (pages_at profile) small ∙ ap Some (sym small)
at_words Two pages (inr large) = ap (pages_at Two) large.1 ∙ ap Some (sym large.1)
at_words One pages (inr large) = absurd (let e = large.0 in cc)

-- Extents are told apart by their numbers.
use Rattle.std.proofs.Common.{◌≡◌, refl, ap, true, false, ◌⊎◌, inl, inr, arith}
use Rattle.std.specs.Prelude.{Bool, ◌==◌, ◌&&◌}
use Rattle.std.proofs.lemmas.Bool.{and_parts, eq-eqb, eqb-true}
use Rattle.lfi_module.specs.declared.profile.Profile.{Profile}
use Rattle.lfi_module.specs.declared.profile.Profile.TheVariants.{One, Two}
use Rattle.lfi_module.specs.Profiles.{profile_number}
use Rattle.lfi_module.specs.Extents.{ExtentView}
use Rattle.lfi_sequence.specs.Sequenced.{is_same}

-- a profile is known by its number
pub number_tells : (a b : Profile) → profile_number a ≡ profile_number b → a ≡ b
number_tells One One e = refl
number_tells One Two e = absurd (omega arith)
number_tells Two One e = absurd (omega arith)
number_tells Two Two e = refl

pub same_is : (a b : ExtentView) → is_same a b ≡ true → a ≡ b
same_is a b e =
    let all = and_parts ((a.words == b.words) && (a.entry == b.entry) && (profile_number a.profile == profile_number b.profile)) (a.pages == b.pages) e in
    let outer = and_parts ((a.words == b.words) && (a.entry == b.entry)) (profile_number a.profile == profile_number b.profile) all.0 in
    let inner = and_parts (a.words == b.words) (a.entry == b.entry) outer.0 in
    let words = eqb-true a.words b.words inner.0 in
    let entry = eqb-true a.entry b.entry inner.1 in
    let profile = number_tells a.profile b.profile (eqb-true (profile_number a.profile) (profile_number b.profile) outer.1) in
    let pages = eqb-true a.pages b.pages all.1 in
    λ i. record { words = words i; entry = entry i; profile = profile i; pages = pages i }

pub is_same_as : (a b : ExtentView) → a ≡ b → is_same a b ≡ true
is_same_as a b e =
    let words = eq-eqb a.words b.words (ap (λ x. x.words) e) in
    let entry = eq-eqb a.entry b.entry (ap (λ x. x.entry) e) in
    let profile = eq-eqb (profile_number a.profile) (profile_number b.profile) (ap (λ x. profile_number x.profile) e) in
    let pages = eq-eqb a.pages b.pages (ap (λ x. x.pages) e) in
    λ i. ((words i && entry i) && profile i) && pages i

pub same_or : (a b : ExtentView) → (a ≡ b) ⊎ (a ≡ b → ⊥)
same_or a b = by (is_same a b) refl
  where
    by : (t : Bool) → is_same a b ≡ t → (a ≡ b) ⊎ (a ≡ b → ⊥)
    by true e = inl (same_is a b e)
    by false e = inr (λ same. let yes : is_same a b ≡ true = is_same_as a b same in cc)

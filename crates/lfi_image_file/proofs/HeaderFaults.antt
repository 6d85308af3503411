-- The first fault of a header, by its tests.
use Rattle.std.proofs.Common.{◌≡◌, ◌≢◌, ℕ, ◌<◌, ◌≤◌, ◌⊎◌, inl, inr, Bool, true, false, if◌then◌else◌, List, Option, Some, None, refl, sym, ◌∙◌, ap, arith}
use Rattle.std.specs.Prelude.{nat_le, nat_lt, ◌==◌, ◌||◌, not}
use Rattle.std.proofs.lemmas.Bool.{or_from, or_right, eq-eqb, ne_eqb, lt-ltb, le-ltb, le-leb, lt-leb}
use Rattle.byteorder.specs.Endian.{little_number}
use Rattle.lfi_module.specs.Numbers.{most_words}
use Rattle.lfi_module.specs.declared.profile.Profile.{Profile}
use Rattle.lfi_module.specs.declared.profile.Profile.TheVariants.{One, Two}
use Rattle.lfi_module.specs.Profiles.{profile_number}
use Rattle.lfi_image_file.specs.declared.fault.ImageFault.{ImageFault}
use Rattle.lfi_image_file.specs.declared.fault.ImageFault.TheVariants.{Magic, Profile as OtherProfile, Counts, Base}
use Rattle.lfi_image_file.specs.Files.{magic}
use Rattle.lfi_image_file.specs.Reading.{count_in, entry_in, profile_in, is_profile, named_profile, base_in, is_base, header_fault}

-- the fault by the tests: of the magic, the profile, the counts, which are tested for a fault, and the base
abbrev by_tests : Bool → Bool → Bool → Bool → Option ImageFault
by_tests x y z w = if not x then Some Magic else if not y then Some OtherProfile else if z then Some Counts else if not w then Some Base else None

-- whether the counts have a fault
abbrev wrong_counts : (count entry : ℕ) → Bool
wrong_counts count entry = (count == 0 || nat_lt most_words count) || nat_le count entry

pub other_magic : (h : List ℕ) → little_number 4 h ≢ little_number 4 magic → header_fault h ≡ Some Magic
unfolding header_fault
other_magic h other = λ i. by_tests (ne_eqb (little_number 4 h) (little_number 4 magic) other i) (is_profile (profile_in h)) (wrong_counts (count_in h) (entry_in h)) (is_base (base_in h))

pub other_profile : (h : List ℕ) → little_number 4 h ≡ little_number 4 magic → is_profile (profile_in h) ≡ false → header_fault h ≡ Some OtherProfile
unfolding header_fault
other_profile h is_magic other = λ i. by_tests (eq-eqb (little_number 4 h) (little_number 4 magic) is_magic i) (other i) (wrong_counts (count_in h) (entry_in h)) (is_base (base_in h))

wrong : (h : List ℕ) → little_number 4 h ≡ little_number 4 magic → is_profile (profile_in h) ≡ true → wrong_counts (count_in h) (entry_in h) ≡ true → header_fault h ≡ Some Counts
unfolding header_fault
wrong h is_magic named counts = λ i. by_tests (eq-eqb (little_number 4 h) (little_number 4 magic) is_magic i) (named i) (counts i) (is_base (base_in h))

pub wrong_count : (h : List ℕ) → little_number 4 h ≡ little_number 4 magic → is_profile (profile_in h) ≡ true → (count_in h ≡ 0) ⊎ (most_words < count_in h) → header_fault h ≡ Some Counts
wrong_count h is_magic named (inl none) = wrong h is_magic named (λ i. (eq-eqb (count_in h) 0 none i || nat_lt most_words (count_in h)) || nat_le (count_in h) (entry_in h))
wrong_count h is_magic named (inr many) =
    let test : (count_in h == 0 || nat_lt most_words (count_in h)) ≡ true = or_right (count_in h == 0) (nat_lt most_words (count_in h)) (lt-ltb most_words (count_in h) many) in
    wrong h is_magic named (λ i. test i || nat_le (count_in h) (entry_in h))

pub wrong_entry : (h : List ℕ) → little_number 4 h ≡ little_number 4 magic → is_profile (profile_in h) ≡ true → count_in h ≤ entry_in h → header_fault h ≡ Some Counts
wrong_entry h is_magic named past = wrong h is_magic named (or_right (count_in h == 0 || nat_lt most_words (count_in h)) (nat_le (count_in h) (entry_in h)) (le-leb (count_in h) (entry_in h) past))

right_counts : (count entry : ℕ) → count ≤ most_words → entry < count → wrong_counts count entry ≡ false
right_counts count entry most inside =
    or_from (count == 0 || nat_lt most_words count) (nat_le count entry) (or_from (count == 0) (nat_lt most_words count) (ne_eqb count 0 (λ e. omega (arith, e, inside))) (le-ltb most_words count most)) (lt-leb count entry inside)

pub other_base : (h : List ℕ) → little_number 4 h ≡ little_number 4 magic → is_profile (profile_in h) ≡ true → count_in h ≤ most_words → entry_in h < count_in h
    → is_base (base_in h) ≡ false → header_fault h ≡ Some Base
unfolding header_fault
other_base h is_magic named most inside other =
    let counts = right_counts (count_in h) (entry_in h) most inside in
    λ i. by_tests (eq-eqb (little_number 4 h) (little_number 4 magic) is_magic i) (named i) (counts i) (other i)

-- a header without a fault
pub none_wrong : (h : List ℕ) → little_number 4 h ≡ little_number 4 magic → is_profile (profile_in h) ≡ true → count_in h ≤ most_words → entry_in h < count_in h
    → is_base (base_in h) ≡ true → header_fault h ≡ None
unfolding header_fault
none_wrong h is_magic named most inside base =
    let counts = right_counts (count_in h) (entry_in h) most inside in
    λ i. by_tests (eq-eqb (little_number 4 h) (little_number 4 magic) is_magic i) (named i) (counts i) (base i)

pub profile_named : (profile : Profile) → (if profile_number profile == 2 then Two else One) ≡ profile
profile_named One = refl
profile_named Two = refl

-- the profile that a header names
pub names_profile : (h : List ℕ) (profile : Profile) → profile_in h ≡ profile_number profile → profile ≡ named_profile h
names_profile h profile same = sym (profile_named profile) ∙ sym (ap (λ n. if n == 2 then Two else One) same)

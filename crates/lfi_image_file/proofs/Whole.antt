-- The file of a lawful image has no fault.
use Rattle.std.proofs.Common.{◌≡◌, ℕ, suc, ◌*◌, ◌/◌, ◌<◌, ◌≤◌, true, if◌then◌else◌, List, [], ◌∷◌, ◌++◌, length, take, drop, get_or, Option, Some, None, refl, sym, ◌∙◌, ap, subst, arith, inl, inr, ◌⊎◌}
use Rattle.std.specs.Prelude.{nat_lt, ◌==◌}
use Rattle.std.proofs.lemmas.Bool.{and_from, eq-eqb, lt-ltb, le-leb}
use Rattle.std.proofs.lemmas.Nat.{from_le_bytes-to_le_bytes_4}
use Rattle.byteorder.specs.Endian.{little_bytes}
use Rattle.byteorder.specs.Numbers.{little_number-reads_back}
use Rattle.a64_word.specs.Words.{words_of}
use Rattle.lfi_image_file.proofs.Headers.{profile_fits}
use Rattle.lfi_image_file.proofs.HeaderFaults.{none_wrong, profile_named}
use Rattle.lfi_image_file.proofs.Small.{AreWords, lawful_small}
use Rattle.lfi_rules.specs.Faults.{FirstFault}
use Rattle.lfi_image_file.specs.declared.fault.ImageFault.{ImageFault}
use Rattle.lfi_image_file.specs.declared.fault.ImageFault.TheVariants.{Magic, Profile as OtherProfile, Counts, Base, Truncated, More, Unlawful, NoMemory, Device}
use Rattle.lfi_module.specs.declared.profile.Profile.{Profile}
use Rattle.lfi_module.specs.declared.profile.Profile.TheVariants.{One, Two}
use Rattle.lfi_module.specs.Profiles.{profile_number}
use Rattle.lfi_module.specs.Numbers.{base_of}
use Rattle.lfi_image.specs.Image.{Image, IsImage}
use Rattle.lfi_image_file.specs.Files.{header_of, code_of, file_of}
use Rattle.lfi_image_file.specs.Reading.{count_in, entry_in, profile_in, is_profile, named_profile, base_in, is_base, slot_at, header_fault, whole_pages, IsCodeFault, IsFault, device, short, of_header, of_code}

code_length : (words : List ℕ) → length (code_of words) ≡ 4 * length words
code_length [] = refl
code_length (w ∷ words) = omega (arith, code_length words)

pub words_back : (words : List ℕ) → AreWords words → words_of (code_of words) ≡ words
words_back [] small = refl
words_back (w ∷ words) small =
    (λ i. from_le_bytes-to_le_bytes_4 w (small 0) i ∷ words_back words (λ j. small (suc j)) i)

-- One list begins with as many items in one way.
pub same_front : (xs ys vs ws : List ℕ) → length xs ≡ length ys → xs ++ vs ≡ ys ++ ws → (xs ≡ ys) × (vs ≡ ws)
same_front [] [] vs ws long e = (refl, e)
same_front [] (y ∷ ys) vs ws long e = absurd (omega (arith, long))
same_front (x ∷ xs) [] vs ws long e = absurd (omega (arith, long))
same_front (x ∷ xs) (y ∷ ys) vs ws long e =
    let rest = same_front xs ys vs ws (omega (arith, long)) (ap (drop 1) e) in
    ((λ i. get_or (e i) 0 0 ∷ rest.0 i), rest.1)

base_fits : (slot : ℕ) → slot < 16 → is_base (base_of slot) ≡ true
base_fits slot small =
    let at : slot_at (base_of slot) ≡ slot = omega arith in
    and_from (nat_lt (slot_at (base_of slot)) 16) (base_of slot == base_of (slot_at (base_of slot))) (lt-ltb (slot_at (base_of slot)) 16 (omega (arith, at, small)))
    (eq-eqb (base_of slot) (base_of (slot_at (base_of slot))) (ap base_of (sym at)))

few_profiles : (profile : Profile) → profile_number profile ≤ 2
few_profiles One = omega arith
few_profiles Two = omega arith

pub header_good : (count entry : ℕ) (profile : Profile) (slot : ℕ) → 1 ≤ count → count ≤ 4194304 → entry < count → slot < 16
    → (header_fault (header_of count entry profile slot) ≡ None) × (count_in (header_of count entry profile slot) ≡ count) × (named_profile (header_of count entry profile slot) ≡ profile)
header_good count entry profile slot some most inside small =
    let h : List ℕ = header_of count entry profile slot in
    let c : count_in h ≡ count = little_number-reads_back 4 count (little_bytes 4 entry ++ little_bytes 4 (profile_number profile) ++ little_bytes 8 (base_of slot)) (omega (arith, most)) in
    let e : entry_in h ≡ entry = little_number-reads_back 4 entry (little_bytes 4 (profile_number profile) ++ little_bytes 8 (base_of slot)) (omega (arith, most, inside)) in
    let at_most : profile_number profile ≤ 2 = few_profiles profile in
    let named : profile_in h ≡ profile_number profile = little_number-reads_back 4 (profile_number profile) (little_bytes 8 (base_of slot)) (omega (arith, at_most)) in
    let b : base_in h ≡ base_of slot = little_number-reads_back 8 (base_of slot) [] (omega (arith, small)) in
    (none_wrong h refl (ap is_profile named ∙ profile_fits profile) (omega (arith, c, most)) (omega (arith, c, e, inside)) (ap is_base b ∙ base_fits slot small), c, ap (λ number. if number == 2 then Two else One) named ∙ profile_named profile)

-- The code of lawful words has no fault.
code_good : (p : Profile) (words : List ℕ) (fault : ImageFault) → AreWords words → FirstFault p words (length words) None → IsCodeFault p (length words) (code_of words) fault → (fault ≡ NoMemory) ⊎ (fault ≡ Device)
code_good p words NoMemory small none told = inl refl
code_good p words Device small none told = inr refl
code_good p words Magic small none told = absurd told
code_good p words OtherProfile small none told = absurd told
code_good p words Counts small none told = absurd told
code_good p words Base small none told = absurd told
code_good p words Truncated small none told = absurd (omega (arith, told.1, code_length words))
code_good p words More small none told = absurd (omega (arith, told.1, code_length words))
code_good p words (Unlawful fault) small none told =
    let long : length (code_of words) ≡ 4 * length words = code_length words in
    let whole : whole_pages (length words) (code_of words) ≡ code_of words =
    ap (λ b. if b then take (4 * length words) (code_of words) else take (4096 * (length (code_of words) / 4096)) (code_of words)) (le-leb (4 * length words) (length (code_of words)) (omega (arith, long)))
    ∙ ap (λ n. take n (code_of words)) (sym long) ∙ take_all (code_of words) in
    let first : FirstFault p words (length words) (Some fault) = subst (λ l. FirstFault p l (length words) (Some fault)) (ap words_of whole ∙ words_back words small) told in
    absurd (none fault.word fault.rule first.breaks)
  where
    take_all : (xs : List ℕ) → take (length xs) xs ≡ xs
    take_all [] = refl
    take_all (x ∷ xs) = ap (λ l. x ∷ l) (take_all xs)

pub file_good : (image : Image) (fault : ImageFault) → IsImage image → IsFault (file_of image) fault → (fault ≡ NoMemory) ⊎ (fault ≡ Device)
file_good image fault is (device e) = inr e
file_good image fault is (short e less) = absurd (omega (arith, less))
file_good image fault is (of_header header rest text long told) =
    let good = header_good (length image.words) image.entry image.profile image.slot is.lawful.some is.lawful.most is.entry is.slot in
    let same = same_front (header_of (length image.words) image.entry image.profile image.slot) header (code_of image.words) rest (sym long) text in
    absurd (none_some fault (sym good.0 ∙ ap header_fault same.0 ∙ told))
  where
    none_some : (fault : ImageFault) → None ≡ Some fault → ⊥
    none_some fault e = subst (λ (o : Option ImageFault). is_none o) e tt
      where
        is_none : Option ImageFault → Type 0
        is_none None = Unit {0}
        is_none (Some f) = ⊥
file_good image fault is (of_code header code text long none told) =
    let good = header_good (length image.words) image.entry image.profile image.slot is.lawful.some is.lawful.most is.entry is.slot in
    let same = same_front (header_of (length image.words) image.entry image.profile image.slot) header (code_of image.words) code (sym long) text in
    let count : count_in header ≡ length image.words = ap count_in (sym same.0) ∙ good.1 in
    let profile : named_profile header ≡ image.profile = ap named_profile (sym same.0) ∙ good.2 in
    code_good image.profile image.words fault (lawful_small image.profile image.words (length image.words) is.lawful.faultless) is.lawful.faultless
    (subst (λ p. IsCodeFault p (length image.words) (code_of image.words) fault) profile
    (subst (λ n. IsCodeFault (named_profile header) n (code_of image.words) fault) count (subst (λ l. IsCodeFault (named_profile header) (count_in header) l fault) (sym same.1) told)))

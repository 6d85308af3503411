-- A file is that of one image.
use Rattle.std.proofs.Common.{◌≡◌, ℕ, List, [], ◌++◌, length, refl, sym, ◌∙◌, ap, arith}
use Rattle.byteorder.specs.Endian.{little_bytes}
use Rattle.byteorder.specs.Numbers.{little_number-reads_back}
use Rattle.a64_word.specs.Words.{words_of}
use Rattle.lfi_module.specs.Profiles.{profile_number}
use Rattle.lfi_module.specs.Numbers.{base_of}
use Rattle.lfi_image.specs.Image.{Image, IsImage}
use Rattle.lfi_image_file.specs.Files.{header_of, code_of, file_of}
use Rattle.lfi_image_file.specs.Reading.{entry_in, named_profile, base_in, slot_at}
use Rattle.lfi_image_file.proofs.Small.{lawful_small}
use Rattle.lfi_image_file.proofs.Whole.{words_back, same_front, header_good}

abbrev header : Image → List ℕ
header image = header_of (length image.words) image.entry image.profile image.slot

entry_back : (image : Image) → IsImage image → entry_in (header image) ≡ image.entry
entry_back image is =
    let most = is.lawful.most in
    let inside = is.entry in
    little_number-reads_back 4 image.entry (little_bytes 4 (profile_number image.profile) ++ little_bytes 8 (base_of image.slot)) (omega (arith, most, inside))

slot_back : (image : Image) → IsImage image → slot_at (base_in (header image)) ≡ image.slot
slot_back image is =
    let small = is.slot in
    let base : base_in (header image) ≡ base_of image.slot = little_number-reads_back 8 (base_of image.slot) [] (omega (arith, small)) in
    let at : slot_at (base_of image.slot) ≡ image.slot = omega arith in
    ap slot_at base ∙ at

profile_back : (image : Image) → IsImage image → named_profile (header image) ≡ image.profile
profile_back image is = (header_good (length image.words) image.entry image.profile image.slot is.lawful.some is.lawful.most is.entry is.slot).2

code_back : (image : Image) → IsImage image → words_of (code_of image.words) ≡ image.words
code_back image is = words_back image.words (lawful_small image.profile image.words (length image.words) is.lawful.faultless)

pub one_file : (a b : Image) → IsImage a → IsImage b → file_of a ≡ file_of b → a ≡ b
one_file a b ia ib e =
    let same = same_front (header a) (header b) (code_of a.words) (code_of b.words) refl e in
    let profile : a.profile ≡ b.profile = sym (profile_back a ia) ∙ ap named_profile same.0 ∙ profile_back b ib in
    let entry : a.entry ≡ b.entry = sym (entry_back a ia) ∙ ap entry_in same.0 ∙ entry_back b ib in
    let slot : a.slot ≡ b.slot = sym (slot_back a ia) ∙ ap (λ h. slot_at (base_in h)) same.0 ∙ slot_back b ib in
    let words : a.words ≡ b.words = sym (code_back a ia) ∙ ap words_of same.1 ∙ code_back b ib in
    λ i. record { profile = profile i; entry = entry i; slot = slot i; words = words i }

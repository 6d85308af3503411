use Rattle.std.proofs.Common.{◌≡◌, ◌≤◌, ◌<◌, ◌⊎◌, inl, inr, refl, true, ap, sym, subst, ◌∙◌, arith}
use Rattle.std.proofs.lemmas.List.{take_rest}
use Rattle.byteorder.specs.Endian.{little_number}
use Rattle.lfi_module.specs.Extents.{ExtentView}
use Rattle.lfi_module.specs.Numbers.{most_words}
use Rattle.lfi_module.specs.Profiles.{profile_number}
use Rattle.lfi_image_file.specs.Files.{magic, header_of}
use Rattle.lfi_image_file.specs.Reading.{count_in, entry_in, profile_in, base_in, is_base, is_profile, slot_at}
use Rattle.lfi_image_file.proofs.Headers.{header_back}
use Rattle.lfi_image_file.proofs.HeaderFaults.{other_magic, other_profile, wrong_count, wrong_entry, other_base, none_wrong, names_profile}
use Rattle.lfi_image_file.proofs.header.ImageHeader.decode.Goals as goal

pub returns-then-read_u32-clause-fault : goal.returns-then-read_u32-clause-fault
returns-then-read_u32-clause-fault c = other_magic c.args.bytes.now (λ e. c.if-read_u32.true (c.read_u32.ensures ∙ e ∙ sym c.read_u32-2.ensures))

pub returns-in_default-clause-fault : goal.returns-in_default-clause-fault
returns-in_default-clause-fault c =
    let bytes = c.args.bytes.now in
    let first : little_number 4 bytes ≡ little_number 4 magic = sym c.read_u32.ensures ∙ c.if-read_u32.false ∙ c.read_u32-2.ensures in
    let read : c.read_u32-3.result ≡ profile_in bytes = c.read_u32-3.ensures ∙ ap (little_number 4) (take_rest bytes 12) in
    other_profile bytes first (sym (ap is_profile read) ∙ c.in_default.ensures)

pub returns-in_default-new-clause-fault : goal.returns-in_default-new-clause-fault
returns-in_default-new-clause-fault c =
    let bytes = c.args.bytes.now in
    let first : little_number 4 bytes ≡ little_number 4 magic = sym c.read_u32.ensures ∙ c.if-read_u32.false ∙ c.read_u32-2.ensures in
    let read : c.read_u32-3.result ≡ profile_in bytes = c.read_u32-3.ensures ∙ ap (little_number 4) (take_rest bytes 12) in
    let count : c.read_u32-4.result ≡ count_in bytes = c.read_u32-4.ensures ∙ ap (little_number 4) (take_rest bytes 4) in
    wrong_count bytes first (sym (ap is_profile read) ∙ c.in-Some.ensures.0) (subst (λ n. (n ≡ 0) ⊎ (most_words < n)) count c.in_default-new.ensures.none)

pub returns-in_default-new-2-clause-fault : goal.returns-in_default-new-2-clause-fault
returns-in_default-new-2-clause-fault c =
    let bytes = c.args.bytes.now in
    let first : little_number 4 bytes ≡ little_number 4 magic = sym c.read_u32.ensures ∙ c.if-read_u32.false ∙ c.read_u32-2.ensures in
    let read : c.read_u32-3.result ≡ profile_in bytes = c.read_u32-3.ensures ∙ ap (little_number 4) (take_rest bytes 12) in
    let count : c.in-Some-new.words ≡ count_in bytes = c.in-Some-new.ensures.some ∙ c.read_u32-4.ensures ∙ ap (little_number 4) (take_rest bytes 4) in
    let entry : c.read_u32-entry.result ≡ entry_in bytes = c.read_u32-entry.ensures ∙ ap (little_number 4) (take_rest bytes 8) in
    let past : c.in-Some-new.words ≤ c.read_u32-entry.result = elim c.in_default-new-2.ensures.none [ inl past ↦ past | inr other ↦ absurd (other (inl refl)) ] in
    wrong_entry bytes first (sym (ap is_profile read) ∙ c.in-Some.ensures.0) (subst (λ n. n ≤ entry_in bytes) count (subst (λ n. c.in-Some-new.words ≤ n) entry past))

pub returns-in-None-clause-fault : goal.returns-in-None-clause-fault
returns-in-None-clause-fault c =
    let bytes = c.args.bytes.now in
    let extent = c.in-Some-new-2.extent in
    let is = c.in-Some-new-2.ensures.some in
    let first : little_number 4 bytes ≡ little_number 4 magic = sym c.read_u32.ensures ∙ c.if-read_u32.false ∙ c.read_u32-2.ensures in
    let read : c.read_u32-3.result ≡ profile_in bytes = c.read_u32-3.ensures ∙ ap (little_number 4) (take_rest bytes 12) in
    let count : extent.words ≡ count_in bytes = ap (λ (e : ExtentView). e.words) is ∙ c.in-Some-new.ensures.some ∙ c.read_u32-4.ensures ∙ ap (little_number 4) (take_rest bytes 4) in
    let entry : extent.entry ≡ entry_in bytes = ap (λ (e : ExtentView). e.entry) is ∙ c.read_u32-entry.ensures ∙ ap (little_number 4) (take_rest bytes 8) in
    let base : c.read_u64.result ≡ base_in bytes = c.read_u64.ensures ∙ ap (little_number 8) (take_rest bytes 16) in
    let most : extent.words ≤ most_words = omega arith in
    let inside : extent.entry < extent.words = omega arith in
    other_base bytes first (sym (ap is_profile read) ∙ c.in-Some.ensures.0) (subst (λ n. n ≤ most_words) count most)
    (subst (λ n. entry_in bytes < n) count (subst (λ n. n < extent.words) entry inside)) (sym (ap is_base base) ∙ c.in-None.ensures)

pub returns-in-Some-slot_of-clause-fault : goal.returns-in-Some-slot_of-clause-fault
returns-in-Some-slot_of-clause-fault c =
    let bytes = c.args.bytes.now in
    let extent = c.in-Some-new-2.extent in
    let is = c.in-Some-new-2.ensures.some in
    let first : little_number 4 bytes ≡ little_number 4 magic = sym c.read_u32.ensures ∙ c.if-read_u32.false ∙ c.read_u32-2.ensures in
    let read : c.read_u32-3.result ≡ profile_in bytes = c.read_u32-3.ensures ∙ ap (little_number 4) (take_rest bytes 12) in
    let count : extent.words ≡ count_in bytes = ap (λ (e : ExtentView). e.words) is ∙ c.in-Some-new.ensures.some ∙ c.read_u32-4.ensures ∙ ap (little_number 4) (take_rest bytes 4) in
    let entry : extent.entry ≡ entry_in bytes = ap (λ (e : ExtentView). e.entry) is ∙ c.read_u32-entry.ensures ∙ ap (little_number 4) (take_rest bytes 8) in
    let base : c.read_u64.result ≡ base_in bytes = c.read_u64.ensures ∙ ap (little_number 8) (take_rest bytes 16) in
    let most : extent.words ≤ most_words = omega arith in
    let inside : extent.entry < extent.words = omega arith in
    none_wrong bytes first (sym (ap is_profile read) ∙ c.in-Some.ensures.0) (subst (λ n. n ≤ most_words) count most)
    (subst (λ n. entry_in bytes < n) count (subst (λ n. n < extent.words) entry inside)) (sym (ap is_base base) ∙ c.in-Some-slot_of.ensures.0)

pub returns-in-Some-slot_of-clause-count : goal.returns-in-Some-slot_of-clause-count
returns-in-Some-slot_of-clause-count c = ap (λ (e : ExtentView). e.words) c.in-Some-new-2.ensures.some ∙ c.in-Some-new.ensures.some ∙ c.read_u32-4.ensures ∙ ap (little_number 4) (take_rest c.args.bytes.now 4)

pub returns-in-Some-slot_of-clause-profile : goal.returns-in-Some-slot_of-clause-profile
returns-in-Some-slot_of-clause-profile c =
    let bytes = c.args.bytes.now in
    let read : c.read_u32-3.result ≡ profile_in bytes = c.read_u32-3.ensures ∙ ap (little_number 4) (take_rest bytes 12) in
    ap (λ (e : ExtentView). e.profile) c.in-Some-new-2.ensures.some ∙ names_profile bytes c.in-Some.profile (sym read ∙ sym c.in-Some.ensures.1)

pub returns-in-Some-slot_of-clause-pages : goal.returns-in-Some-slot_of-clause-pages
returns-in-Some-slot_of-clause-pages c = ap (λ (e : ExtentView). e.pages) c.in-Some-new-2.ensures.some

pub returns-in-Some-slot_of-clause-bytes : goal.returns-in-Some-slot_of-clause-bytes
returns-in-Some-slot_of-clause-bytes c =
    let bytes = c.args.bytes.now in
    let is = c.in-Some-new-2.ensures.some in
    let first : little_number 4 bytes ≡ little_number 4 magic = sym c.read_u32.ensures ∙ c.if-read_u32.false ∙ c.read_u32-2.ensures in
    let read : c.read_u32-3.result ≡ profile_in bytes = c.read_u32-3.ensures ∙ ap (little_number 4) (take_rest bytes 12) in
    let third : profile_in bytes ≡ profile_number c.in-Some.profile = sym read ∙ sym c.in-Some.ensures.1 in
    let goes : c.in-Some-new-2.extent.profile ≡ c.in-Some.profile = ap (λ (e : ExtentView). e.profile) is in
    let count : c.in-Some-new-2.extent.words ≡ count_in bytes = ap (λ (e : ExtentView). e.words) is ∙ c.in-Some-new.ensures.some ∙ c.read_u32-4.ensures ∙ ap (little_number 4) (take_rest bytes 4) in
    let entry : c.in-Some-new-2.extent.entry ≡ entry_in bytes = ap (λ (e : ExtentView). e.entry) is ∙ c.read_u32-entry.ensures ∙ ap (little_number 4) (take_rest bytes 8) in
    let base : c.read_u64.result ≡ base_in bytes = c.read_u64.ensures ∙ ap (little_number 8) (take_rest bytes 16) in
    let test : is_base (base_in bytes) ≡ true = subst (λ b. is_base b ≡ true) base c.in-Some-slot_of.ensures.0 in
    let at : c.in-Some-slot_of.slot ≡ slot_at (base_in bytes) = c.in-Some-slot_of.ensures.1 ∙ ap slot_at base in
    header_back bytes c.in-Some.profile c.in-Some-slot_of.slot c.requires (λ i. (c.type_inv.bytes i).fits) first third test at
    ∙ (λ i. header_of (sym count i) (sym entry i) (sym goes i) c.in-Some-slot_of.slot)

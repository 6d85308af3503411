-- The bytes of a header from what they say.
use Rattle.std.proofs.Common.{◌≡◌, ℕ, zero, suc, ◌+◌, ◌<◌, ◌≤◌, Bool, true, false, List, [], ◌∷◌, ◌++◌, length, drop, get_or, refl, sym, ◌∙◌, ap, subst, arith}
use Rattle.std.proofs.lemmas.Bool.{and_parts, eqb-true}
use Rattle.std.proofs.lemmas.List.{get_or-drop, length-drop, drop-drop}
use Rattle.std.proofs.lemmas.Nat.{le_bytes_4, le_bytes_8}
use Rattle.std.specs.Int.{w32, w64, to_le_bytes, from_le_bytes}
use Rattle.std.specs.Prelude.{nat_lt, ◌==◌, ◌||◌}
use Rattle.byteorder.specs.Endian.{little_bytes, little_number}
use Rattle.lfi_module.specs.declared.profile.Profile.{Profile}
use Rattle.lfi_module.specs.declared.profile.Profile.TheVariants.{One, Two}
use Rattle.lfi_module.specs.Profiles.{profile_number}
use Rattle.lfi_module.specs.Numbers.{base_of}
use Rattle.lfi_image_file.specs.Files.{magic, header_of}
use Rattle.lfi_image_file.specs.Reading.{count_in, entry_in, profile_in, is_profile, base_in, slot_at, is_base}
use Rattle.lfi_image_file.proofs.Pieces.{IsBytes}

bytes_after : (n : ℕ) (xs : List ℕ) → IsBytes xs → IsBytes (drop n xs)
bytes_after n xs small i = subst (λ x. x < 256) (sym (get_or-drop n xs i 0)) (small (n + i))

-- four bytes, and those that follow
cut_4 : (xs : List ℕ) → 4 ≤ length xs → IsBytes xs → xs ≡ little_bytes 4 (little_number 4 xs) ++ drop 4 xs
cut_4 (a ∷ b ∷ c ∷ d ∷ rest) long small =
    let word : to_le_bytes w32 (little_number 4 (a ∷ b ∷ c ∷ d ∷ rest)) ≡ a ∷ b ∷ c ∷ d ∷ [] =
    le_bytes_4 (a ∷ b ∷ c ∷ d ∷ []) (little_number 4 (a ∷ b ∷ c ∷ d ∷ rest)) refl (first a b c d (small 0) (small 1) (small 2) (small 3)) (omega arith) in
    ap (λ l. l ++ rest) (sym word)
  where
    first : (a b c d : ℕ) → a < 256 → b < 256 → c < 256 → d < 256 → (i : ℕ) → get_or (a ∷ b ∷ c ∷ d ∷ []) i 0 < 256
    first a b c d la lb lc ld zero = la
    first a b c d la lb lc ld (suc zero) = lb
    first a b c d la lb lc ld (suc (suc zero)) = lc
    first a b c d la lb lc ld (suc (suc (suc zero))) = ld
    first a b c d la lb lc ld (suc (suc (suc (suc i)))) = omega arith
cut_4 (a ∷ b ∷ c ∷ []) long small = absurd (omega (arith, long))
cut_4 (a ∷ b ∷ []) long small = absurd (omega (arith, long))
cut_4 (a ∷ []) long small = absurd (omega (arith, long))
cut_4 [] long small = absurd (omega (arith, long))

-- eight bytes, and nothing else
cut_8 : (xs : List ℕ) → length xs ≡ 8 → IsBytes xs → xs ≡ little_bytes 8 (little_number 8 xs)
cut_8 xs long small = sym (le_bytes_8 xs (little_number 8 xs) long small (let e : little_number 8 xs ≡ from_le_bytes w64 xs = omega arith in e))

-- what is left from a place on, with its first four bytes apart
part : (bytes : List ℕ) (at : ℕ) → length bytes ≡ 24 → at + 4 ≤ 24 → IsBytes bytes → drop at bytes ≡ little_bytes 4 (little_number 4 (drop at bytes)) ++ drop (at + 4) bytes
part bytes at long within small =
    cut_4 (drop at bytes) (omega (arith, length-drop at bytes, long, within)) (bytes_after at bytes small)
    ∙ ap (λ l. little_bytes 4 (little_number 4 (drop at bytes)) ++ l) (drop-drop 4 at bytes)

base_is : (base slot : ℕ) → is_base base ≡ true → slot ≡ slot_at base → base ≡ base_of slot
base_is base slot test at = eqb-true base (base_of (slot_at base)) (and_parts (nat_lt (slot_at base) 16) (base == base_of (slot_at base)) test).1 ∙ ap base_of (sym at)

pub header_back : (bytes : List ℕ) (profile : Profile) (slot : ℕ) → length bytes ≡ 24 → IsBytes bytes → little_number 4 bytes ≡ little_number 4 magic → profile_in bytes ≡ profile_number profile
    → is_base (base_in bytes) ≡ true → slot ≡ slot_at (base_in bytes) → bytes ≡ header_of (count_in bytes) (entry_in bytes) profile slot
header_back bytes profile slot long small is_magic is_profile is_base_in at =
    let first : bytes ≡ little_bytes 4 (little_number 4 bytes) ++ drop 4 bytes = cut_4 bytes (omega (arith, long)) small in
    let count : drop 4 bytes ≡ little_bytes 4 (count_in bytes) ++ drop 8 bytes = part bytes 4 long (omega arith) small in
    let entry : drop 8 bytes ≡ little_bytes 4 (entry_in bytes) ++ drop 12 bytes = part bytes 8 long (omega arith) small in
    let third : drop 12 bytes ≡ little_bytes 4 (profile_in bytes) ++ drop 16 bytes = part bytes 12 long (omega arith) small in
    let base : drop 16 bytes ≡ little_bytes 8 (base_in bytes) = cut_8 (drop 16 bytes) (omega (arith, length-drop 16 bytes, long)) (bytes_after 16 bytes small) in
    let all : bytes ≡ little_bytes 4 (little_number 4 bytes) ++ (little_bytes 4 (count_in bytes) ++ (little_bytes 4 (entry_in bytes) ++ (little_bytes 4 (profile_in bytes) ++ little_bytes 8 (base_in bytes)))) =
    first ∙ ap (λ l. little_bytes 4 (little_number 4 bytes) ++ l)
    (count ∙ ap (λ l. little_bytes 4 (count_in bytes) ++ l)
    (entry ∙ ap (λ l. little_bytes 4 (entry_in bytes) ++ l)
    (third ∙ ap (λ l. little_bytes 4 (profile_in bytes) ++ l) base))) in
    let is_base_of : base_in bytes ≡ base_of slot = base_is (base_in bytes) slot is_base_in at in
    all ∙ (λ i. little_bytes 4 (is_magic i) ++ (little_bytes 4 (count_in bytes) ++ (little_bytes 4 (entry_in bytes) ++ (little_bytes 4 (is_profile i) ++ little_bytes 8 (is_base_of i)))))

pub or_false : (b c : Bool) → b ≡ false → c ≡ false → (b || c) ≡ false
or_false false c p q = q
or_false true c p q = p

-- a profile's number is one
pub profile_fits : (profile : Profile) → is_profile (profile_number profile) ≡ true
profile_fits One = refl
profile_fits Two = refl

-- The classes of loads and stores of one register.
use Rattle.std.proofs.Common.{◌≡◌, ◌≢◌, ℕ, ◌+◌, ◌*◌, ◌/◌, ◌%◌, ◌^◌, ◌<◌, ◌≤◌, eqb, [], Bool, true, false, refl, subst, arith, inl, inr}
use Rattle.std.specs.Prelude.{nat_lt, ◌&&◌}
use Rattle.std.proofs.lemmas.Bool.{and_parts, eqb-true, or_cases, not-true, and_left, and_right, or_right, le-ltb, lt-ltb, ltb-true, ltb-false}
use Rattle.std.proofs.lemmas.Nat.{mod_below}
use Rattle.a64_word.specs.Operands.{size_code, transfer_code, index_mode_code}
use Rattle.a64_word.specs.Encoding.{Spells, IsAccess}
use Rattle.a64_word.specs.inner.Bits.{bits_at}
use Rattle.a64_word.specs.declared.instruction.Instruction.TheVariants as instructions
use Rattle.a64_word.specs.declared.load_store.UnsignedOffset.{UnsignedOffset}
use Rattle.a64_word.specs.declared.load_store.SignedOffset.{SignedOffset}
use Rattle.a64_word.specs.declared.load_store.RegisterOffset.{RegisterOffset}
use Rattle.a64_word.specs.declared.operands.Width.TheVariants as widths
use Rattle.a64_word.specs.declared.operands.Size.{Size}
use Rattle.a64_word.specs.declared.operands.Size.TheVariants as sizes
use Rattle.a64_word.specs.declared.operands.Transfer.{Transfer}
use Rattle.a64_word.specs.declared.operands.Transfer.TheVariants as transfers
use Rattle.a64_word.specs.declared.operands.IndexMode.{IndexMode}
use Rattle.a64_word.specs.declared.operands.IndexMode.TheVariants as modes
use Rattle.a64_word.specs.declared.operands.IndexExtend.TheVariants as indexes
use Rattle.a64_word.proofs.FieldLaws.{IsWordOf-from_reads}
use Rattle.a64_effects.specs.Uses.{general, or_sp}
use Rattle.a64_effects.specs.Effects.{is_store, data_width, changes_base, form_of_mode, address_of, writes_of}
use Rattle.lfi_classes.specs.Parts.{IsIn}
use Rattle.lfi_classes.specs.Sets as sets
use Rattle.lfi_classes.specs.Classes.{load_entry, load_link_past_table, load_link, load_link_unscaled, pop_link, load_link_at_index, load, load_unscaled, store_unscaled, pop, push, load_at_index, store_at_index, load_link_ordered, load_ordered, store_ordered}
use Rattle.a64_word.specs.declared.load_store.Ordered.{Ordered}
use Rattle.lfi_module.specs.declared.profile.Profile.TheVariants.{Two}
use Rattle.a64_word.specs.Profiles.{SpellsIn}
use Rattle.a64_word.specs.Operands.{bit}
use Rattle.lfi_rules.specs.inner.Quiet.{IsToldWord}
use Rattle.lfi_rules.specs.declared.needs.Need.TheVariants.{Nothing, Call, Guard}
use Rattle.lfi_rules.specs.Needs.{is_load_64}
use Rattle.lfi_rules.specs.Rules.{is_confined}
use Rattle.lfi_rules.specs.inner.Quiet.{IsUnreserved, IsQuietWord}
use Rattle.lfi_rules.specs.inner.Passing.{signed_of}
use Rattle.lfi_rules.proofs.Fields.{top_is, middle_is, low_is, top_is_not, top_bits, below_bits, joined, low_unreserved, low_base}
use Rattle.lfi_rules.proofs.Operands.{size_of, size_is, transfer_of, transfer_is, two_bits, access, no_store, signed_9}
use Rattle.lfi_rules.proofs.Avoiding.{sparing, avoids_none, avoids_stack, avoids_link, avoids_more, not_used, spares_none, spares_one, quiet_avoiding, quiet_sparing, link_kept, stack_kept, opens_none, opens_guard, opens_call}

-- ---- what a word transfers
pub no_load_64 : (s : Size) → is_load_64 s transfers.Store ≡ false
no_load_64 sizes.Byte = refl
no_load_64 sizes.Half = refl
no_load_64 sizes.Word = refl
no_load_64 sizes.Double = refl

-- an access that loads, by its size and opc
record Loads (w : ℕ) : Type 0 where
  legal : IsAccess (size_of (bits_at w 30 2)) (transfer_of (bits_at w 22 2))
  loads : is_store (transfer_of (bits_at w 22 2)) ≡ false

loads_at : (w : ℕ) → sets.is_load_access (w / 2 ^ 21) ≡ true → Loads w
loads_at w h =
    let tests = and_parts _ _ h in
    let legal : sets.is_access (bits_at w 30 2) (bits_at w 22 2) ≡ true =
    subst (λ x. sets.is_access x (bits_at w 22 2) ≡ true) (top_bits w 9 2) (subst (λ x. sets.is_access (bits_at (w / 2 ^ 21) 9 2) x ≡ true) (top_bits w 1 2) tests.1) in
    record { legal = access _ _ (two_bits w 30) (two_bits w 22) legal; loads = no_store _ (top_is_not w 1 2 0 tests.0) }

-- ---- at an unsigned offset
abbrev unsigned_at : Size → Transfer → (rn rt w : ℕ) → UnsignedOffset
unsigned_at size transfer rn rt w = record { size = size; transfer = transfer; imm12 = bits_at w 10 12; rn = rn; rt = rt }

unsigned_spells : (w rn rt : ℕ) (size : Size) (transfer : Transfer) → w < 2 ^ 32 → sets.is_unsigned (w / 2 ^ 21) ≡ true → bits_at w 30 2 ≡ size_code size → bits_at w 22 2 ≡ transfer_code transfer
    → IsAccess size transfer → bits_at w 5 5 ≡ rn → bits_at w 0 5 ≡ rt → Spells (instructions.UnsignedOffset (unsigned_at size transfer rn rt w)) w
unsigned_spells w rn rt size transfer below h sized transfers legal from to =
    record { legal = legal; word_of = IsWordOf-from_reads _ w below (sized, (top_is w 3 6 57 h, (transfers, (refl, (from, (to, tt)))))) }

pub load_is_quiet : (w k n : ℕ) → w < 2 ^ 32 → IsIn load w → IsQuietWord w k n Nothing
load_is_quiet w k n below h =
    let tests = and_parts _ _ h.top in
    let a = loads_at w tests.1 in
    let low = and_parts _ _ h.low in
    let free : IsUnreserved (bits_at w 0 5) = low_unreserved w low.0 in
    let i = instructions.UnsignedOffset (unsigned_at (size_of (bits_at w 30 2)) (transfer_of (bits_at w 22 2)) (bits_at w 5 5) (bits_at w 0 5) w) in
    quiet_sparing w k n i refl (unsigned_spells w _ _ _ _ below tests.0 (size_is w 30) (transfer_is w 22) a.legal refl refl)
    (general (bits_at w 0 5) (data_width (size_of (bits_at w 30 2)) (transfer_of (bits_at w 22 2))) []) (rw a.loads refl) (spares_one _ _ free)
    (low_base w low.1) refl refl (opens_none i (and_left _ _ (and_left _ _ (and_right _ _ free.link))) (and_right _ _ free.link) refl)

pub unsigned_store_quiet : (w k n : ℕ) → w < 2 ^ 32 → (sets.is_unsigned (w / 2 ^ 21) && sets.is_store_access (w / 2 ^ 21)) ≡ true → sets.has_base (w % 2 ^ 10) ≡ true → IsQuietWord w k n Nothing
unsigned_store_quiet w k n below h base =
    let tests = and_parts _ _ h in
    let no_load = no_load_64 (size_of (bits_at w 30 2)) in
    let i = instructions.UnsignedOffset (unsigned_at (size_of (bits_at w 30 2)) transfers.Store (bits_at w 5 5) (bits_at w 0 5) w) in
    quiet_sparing w k n i refl (unsigned_spells w _ _ _ _ below tests.0 (size_is w 30) (top_is w 1 2 0 tests.1) tt refl refl)
    _ refl spares_none (low_base w base) refl refl (opens_none i (and_left _ _ (and_left _ _ (and_left _ _ no_load))) (and_left _ _ no_load) refl)

-- a load of 64 bits into x30
link_spells : (w rn : ℕ) → w < 2 ^ 32 → (sets.is_unsigned (w / 2 ^ 21) && sets.is_double_load (w / 2 ^ 21)) ≡ true → sets.is_link (w % 2 ^ 10) ≡ true → bits_at w 5 5 ≡ rn
    → Spells (instructions.UnsignedOffset (unsigned_at sizes.Double transfers.Load rn 30 w)) w
link_spells w rn below h to from =
    let tests = and_parts _ _ h in
    let double = and_parts _ _ tests.1 in
    unsigned_spells w rn 30 sizes.Double transfers.Load below tests.0 (top_is w 9 2 3 double.0) (top_is w 1 2 1 double.1) tt from (low_is w 5 5 0 30 to)

imm12_is : (w : ℕ) → bits_at w 10 12 ≡ bits_at w 21 1 * 2 ^ 11 + bits_at w 10 11
imm12_is w = joined w 10 1 11

pub load_entry_opens : (w k n : ℕ) → w < 2 ^ 32 → IsIn load_entry w → IsQuietWord w k n Call
load_entry_opens w k n below h =
    let tests = and_parts _ _ h.top in
    let low = and_parts _ _ h.low in
    let zero_bit : bits_at w 21 1 ≡ 0 = top_is w 0 1 0 tests.1 in
    let small : bits_at w 10 11 < 512 = ltb-true _ _ h.middle in
    let whole = imm12_is w in
    let within : nat_lt (bits_at w 10 12) 512 ≡ true = lt-ltb _ _ (omega arith) in
    let i = instructions.UnsignedOffset (unsigned_at sizes.Double transfers.Load 21 30 w) in
    record {
      instruction = i;
      of_one = refl;
      spells = link_spells w 21 below tests.0 low.0 (low_is w 0 5 5 21 low.1);
      quiet = quiet_avoiding i k n Call (avoids_link _ avoids_none) (or_right _ _ refl) (stack_kept i k n refl) refl refl refl (opens_call i within);
    }

pub load_link_past_table_opens : (w k n : ℕ) → w < 2 ^ 32 → IsIn load_link_past_table w → IsQuietWord w k n Guard
load_link_past_table_opens w k n below h =
    let low = and_parts _ _ h.low in
    let large : 512 ≤ bits_at w 10 11 = ltb-false _ _ (not-true _ h.middle) in
    let whole = imm12_is w in
    let past : nat_lt (bits_at w 10 12) 512 ≡ false = le-ltb _ _ (omega arith) in
    let i = instructions.UnsignedOffset (unsigned_at sizes.Double transfers.Load 21 30 w) in
    record {
      instruction = i;
      of_one = refl;
      spells = link_spells w 21 below h.top low.0 (low_is w 0 5 5 21 low.1);
      quiet = quiet_avoiding i k n Guard (avoids_link _ avoids_none) (or_right _ _ refl) (stack_kept i k n refl) refl refl refl (opens_guard i past refl);
    }

pub load_link_opens : (w k n : ℕ) → w < 2 ^ 32 → IsIn load_link w → IsQuietWord w k n Guard
load_link_opens w k n below h =
    let low = and_parts _ _ h.low in
    let loaded = and_parts _ _ low.0 in
    let other : eqb (bits_at w 5 5) 21 ≡ false = subst (λ r. eqb r 21 ≡ false) (below_bits w 0 5 5) (not-true _ low.1) in
    let i = instructions.UnsignedOffset (unsigned_at sizes.Double transfers.Load (bits_at w 5 5) 30 w) in
    record {
      instruction = i;
      of_one = refl;
      spells = link_spells w _ below h.top loaded.0 refl;
      quiet = quiet_avoiding i k n Guard (avoids_link _ avoids_none) (or_right _ _ refl) (stack_kept i k n refl) (low_base w loaded.1) refl refl
          (opens_guard i (and_left _ _ other) refl);
    }

-- ---- at a signed offset
abbrev signed_at : Size → Transfer → IndexMode → (rn rt w : ℕ) → SignedOffset
signed_at size transfer mode rn rt w = record { size = size; transfer = transfer; mode = mode; imm9 = signed_of (2 ^ 8) (bits_at w 12 9); rn = rn; rt = rt }

signed_spells : (w rn rt : ℕ) (size : Size) (transfer : Transfer) (mode : IndexMode) → w < 2 ^ 32 → sets.is_signed (w / 2 ^ 21) ≡ true → bits_at w 30 2 ≡ size_code size
    → bits_at w 22 2 ≡ transfer_code transfer → IsAccess size transfer → bits_at w 10 2 ≡ index_mode_code mode → (mode ≢ modes.Unscaled → rn ≡ rt → rn ≡ 31)
    → bits_at w 5 5 ≡ rn → bits_at w 0 5 ≡ rt → Spells (instructions.SignedOffset (signed_at size transfer mode rn rt w)) w
signed_spells w rn rt size transfer mode below h sized transfers legal moded change from to =
    let tests = and_parts _ _ h in
    let s = signed_9 (bits_at w 12 9) (mod_below (w / 2 ^ 12) (2 ^ 9) (omega arith)) in
    record { legal = (legal, s.0, change); word_of = IsWordOf-from_reads _ w below (sized, (top_is w 3 6 56 tests.0, (transfers, (top_is w 0 1 0 tests.1, (s.1, (moded, (from, (to, tt)))))))) }

pub load_unscaled_is_quiet : (w k n : ℕ) → w < 2 ^ 32 → IsIn load_unscaled w → IsQuietWord w k n Nothing
load_unscaled_is_quiet w k n below h =
    let tests = and_parts _ _ h.top in
    let a = loads_at w tests.1 in
    let low = and_parts _ _ h.low in
    let free : IsUnreserved (bits_at w 0 5) = low_unreserved w low.0 in
    let i = instructions.SignedOffset (signed_at (size_of (bits_at w 30 2)) (transfer_of (bits_at w 22 2)) modes.Unscaled (bits_at w 5 5) (bits_at w 0 5) w) in
    quiet_sparing w k n i refl (signed_spells w _ _ _ _ modes.Unscaled below tests.0 (size_is w 30) (transfer_is w 22) a.legal (middle_is w 9 2 0 0 h.middle) (λ other. absurd (other refl)) refl refl)
    (general (bits_at w 0 5) (data_width (size_of (bits_at w 30 2)) (transfer_of (bits_at w 22 2))) []) (rw a.loads refl) (spares_one _ _ free)
    (low_base w low.1) refl refl (opens_none i refl (and_right _ _ free.link) refl)

pub store_unscaled_is_quiet : (w k n : ℕ) → w < 2 ^ 32 → IsIn store_unscaled w → IsQuietWord w k n Nothing
store_unscaled_is_quiet w k n below h =
    let tests = and_parts _ _ h.top in
    let no_load = no_load_64 (size_of (bits_at w 30 2)) in
    let i = instructions.SignedOffset (signed_at (size_of (bits_at w 30 2)) transfers.Store modes.Unscaled (bits_at w 5 5) (bits_at w 0 5) w) in
    quiet_sparing w k n i refl (signed_spells w _ _ _ _ modes.Unscaled below tests.0 (size_is w 30) (top_is w 1 2 0 tests.1) tt (middle_is w 9 2 0 0 h.middle) (λ other. absurd (other refl)) refl refl)
    _ refl spares_none (low_base w h.low) refl refl (opens_none i refl (and_left _ _ no_load) refl)

pub load_link_unscaled_opens : (w k n : ℕ) → w < 2 ^ 32 → IsIn load_link_unscaled w → IsQuietWord w k n Guard
load_link_unscaled_opens w k n below h =
    let tests = and_parts _ _ h.top in
    let double = and_parts _ _ tests.1 in
    let low = and_parts _ _ h.low in
    let i = instructions.SignedOffset (signed_at sizes.Double transfers.Load modes.Unscaled (bits_at w 5 5) 30 w) in
    record {
      instruction = i;
      of_one = refl;
      spells = signed_spells w _ 30 sizes.Double transfers.Load modes.Unscaled below tests.0 (top_is w 9 2 3 double.0) (top_is w 1 2 1 double.1) tt (middle_is w 9 2 0 0 h.middle)
          (λ other. absurd (other refl)) refl (low_is w 5 5 0 30 low.0);
      quiet = quiet_avoiding i k n Guard (avoids_link _ avoids_none) (or_right _ _ refl) (stack_kept i k n refl) (low_base w low.1) refl refl (opens_guard i refl refl);
    }

-- at sp, which is changed before or after the access
record Changes (mode : IndexMode) (w : ℕ) : Type 0 where
  code : bits_at w 10 2 ≡ index_mode_code mode
  changes : changes_base (form_of_mode mode) ≡ true
  confined : is_confined (address_of (instructions.SignedOffset (signed_at sizes.Double transfers.Load mode 31 0 w))) ≡ true

post_index : (w : ℕ) → bits_at w 10 2 ≡ 1 → Changes modes.PostIndex w
post_index w e = record { code = e; changes = refl; confined = refl }

pre_index : (w : ℕ) → bits_at w 10 2 ≡ 3 → Changes modes.PreIndex w
pre_index w e = record { code = e; changes = refl; confined = refl }

by_mode : (w : ℕ) (P : Type 0) → sets.is_changing (w / 2 ^ 10 % 2 ^ 11) ≡ true → ((mode : IndexMode) → Changes mode w → P) → P
by_mode w P h go = elim (or_cases _ _ h) [
  | inl one ↦ go modes.PostIndex (post_index w (middle_is w 9 2 0 1 one))
  | inr three ↦ go modes.PreIndex (pre_index w (middle_is w 9 2 0 3 three))
]

pub pop_is_quiet : (w k n : ℕ) → w < 2 ^ 32 → IsIn pop w → IsQuietWord w k n Nothing
pop_is_quiet w k n below h = by_mode w (IsQuietWord w k n Nothing) h.middle (λ mode c.
    let tests = and_parts _ _ h.top in
    let a = loads_at w tests.1 in
    let low = and_parts _ _ h.low in
    let free : IsUnreserved (bits_at w 0 5) = low_unreserved w low.0 in
    let i = instructions.SignedOffset (signed_at (size_of (bits_at w 30 2)) (transfer_of (bits_at w 22 2)) mode 31 (bits_at w 0 5) w) in
    let uses = general (bits_at w 0 5) (data_width (size_of (bits_at w 30 2)) (transfer_of (bits_at w 22 2))) (or_sp 31 widths.X []) in
    let written : writes_of i ≡ uses = rw (a.loads, c.changes) refl in
    record {
      instruction = i;
      of_one = refl;
      spells = signed_spells w 31 _ _ _ mode below tests.0 (size_is w 30) (transfer_is w 22) a.legal c.code (λ _ same. refl) (low_is w 0 5 5 31 low.1) refl;
      quiet = quiet_avoiding i k n Nothing (rw written (avoids_more _ _ _ free avoids_stack))
          (link_kept i k n (rw written (not_used _ 30 _ (or_sp 31 widths.X []) free.link))) (or_right _ _ c.changes) c.confined refl refl
          (opens_none i refl (and_right _ _ free.link) refl);
    })

pub push_is_quiet : (w k n : ℕ) → w < 2 ^ 32 → IsIn push w → IsQuietWord w k n Nothing
push_is_quiet w k n below h = by_mode w (IsQuietWord w k n Nothing) h.middle (λ mode c.
    let tests = and_parts _ _ h.top in
    let no_load = no_load_64 (size_of (bits_at w 30 2)) in
    let i = instructions.SignedOffset (signed_at (size_of (bits_at w 30 2)) transfers.Store mode 31 (bits_at w 0 5) w) in
    let written : writes_of i ≡ or_sp 31 widths.X [] = rw c.changes refl in
    record {
      instruction = i;
      of_one = refl;
      spells = signed_spells w 31 _ _ _ mode below tests.0 (size_is w 30) (top_is w 1 2 0 tests.1) tt c.code (λ _ same. refl) (low_is w 0 5 5 31 h.low) refl;
      quiet = quiet_avoiding i k n Nothing (rw written avoids_stack) (link_kept i k n (rw written refl)) (or_right _ _ c.changes) c.confined refl refl
          (opens_none i refl (and_left _ _ no_load) refl);
    })

pub pop_link_opens : (w k n : ℕ) → w < 2 ^ 32 → IsIn pop_link w → IsQuietWord w k n Guard
pop_link_opens w k n below h = by_mode w (IsQuietWord w k n Guard) h.middle (λ mode c.
    let tests = and_parts _ _ h.top in
    let double = and_parts _ _ tests.1 in
    let low = and_parts _ _ h.low in
    let i = instructions.SignedOffset (signed_at sizes.Double transfers.Load mode 31 30 w) in
    let written : writes_of i ≡ general 30 widths.X (or_sp 31 widths.X []) = rw c.changes refl in
    record {
      instruction = i;
      of_one = refl;
      spells = signed_spells w 31 30 sizes.Double transfers.Load mode below tests.0 (top_is w 9 2 3 double.0) (top_is w 1 2 1 double.1) tt c.code (λ _ same. refl)
          (low_is w 0 5 5 31 low.1) (low_is w 5 5 0 30 low.0);
      quiet = quiet_avoiding i k n Guard (rw written (avoids_link _ avoids_stack)) (or_right _ _ refl) (or_right _ _ c.changes) c.confined refl refl (opens_guard i refl refl);
    })

-- ---- at an index from x21
abbrev index_at : Size → Transfer → (rt w : ℕ) → RegisterOffset
index_at size transfer rt w = record { size = size; transfer = transfer; rm = bits_at w 16 5; extend = indexes.Uxtw; scaled = false; rn = 21; rt = rt }

index_spells : (w rt : ℕ) (size : Size) (transfer : Transfer) → w < 2 ^ 32 → sets.is_indexed (w / 2 ^ 21) ≡ true → sets.is_extended_index (w / 2 ^ 10 % 2 ^ 11) ≡ true
    → bits_at w 30 2 ≡ size_code size → bits_at w 22 2 ≡ transfer_code transfer → IsAccess size transfer → bits_at w 5 5 ≡ 21 → bits_at w 0 5 ≡ rt
    → Spells (instructions.RegisterOffset (index_at size transfer rt w)) w
index_spells w rt size transfer below h middle sized transfers legal from to =
    let tests = and_parts _ _ h in
    let six : bits_at w 10 6 ≡ 18 = middle_is w 5 6 0 18 middle in
    let split : bits_at w 10 6 ≡ bits_at w 13 3 * 2 ^ 3 + bits_at w 10 3 = joined w 10 3 3 in
    let rest : bits_at w 10 3 ≡ bits_at w 12 1 * 2 ^ 2 + bits_at w 10 2 = joined w 10 1 2 in
    let small : bits_at w 10 3 < 2 ^ 3 = mod_below (w / 2 ^ 10) (2 ^ 3) (omega arith) in
    let last : bits_at w 10 2 < 4 = two_bits w 10 in
    let extend : bits_at w 13 3 ≡ 2 = omega arith in
    let scaled : bits_at w 12 1 ≡ 0 = omega arith in
    let fixed : bits_at w 10 2 ≡ 2 = omega arith in
    record { legal = legal; word_of = IsWordOf-from_reads _ w below (sized, (top_is w 3 6 56 tests.0, (transfers, (top_is w 0 1 1 tests.1, (refl, (extend, (scaled, (fixed, (from, (to, tt)))))))))) }

pub load_at_index_is_quiet : (w k n : ℕ) → w < 2 ^ 32 → IsIn load_at_index w → IsQuietWord w k n Nothing
load_at_index_is_quiet w k n below h =
    let tests = and_parts _ _ h.top in
    let a = loads_at w tests.1 in
    let low = and_parts _ _ h.low in
    let free : IsUnreserved (bits_at w 0 5) = low_unreserved w low.0 in
    let i = instructions.RegisterOffset (index_at (size_of (bits_at w 30 2)) (transfer_of (bits_at w 22 2)) (bits_at w 0 5) w) in
    quiet_sparing w k n i refl (index_spells w _ _ _ below tests.0 h.middle (size_is w 30) (transfer_is w 22) a.legal (low_is w 0 5 5 21 low.1) refl)
    (general (bits_at w 0 5) (data_width (size_of (bits_at w 30 2)) (transfer_of (bits_at w 22 2))) []) (rw a.loads refl) (spares_one _ _ free)
    refl refl refl (opens_none i refl (and_right _ _ free.link) refl)

pub store_at_index_is_quiet : (w k n : ℕ) → w < 2 ^ 32 → IsIn store_at_index w → IsQuietWord w k n Nothing
store_at_index_is_quiet w k n below h =
    let tests = and_parts _ _ h.top in
    let no_load = no_load_64 (size_of (bits_at w 30 2)) in
    let i = instructions.RegisterOffset (index_at (size_of (bits_at w 30 2)) transfers.Store (bits_at w 0 5) w) in
    quiet_sparing w k n i refl (index_spells w _ _ _ below tests.0 h.middle (size_is w 30) (top_is w 1 2 0 tests.1) tt (low_is w 0 5 5 21 h.low) refl)
    _ refl spares_none refl refl refl (opens_none i refl (and_left _ _ no_load) refl)

pub load_link_at_index_opens : (w k n : ℕ) → w < 2 ^ 32 → IsIn load_link_at_index w → IsQuietWord w k n Guard
load_link_at_index_opens w k n below h =
    let tests = and_parts _ _ h.top in
    let double = and_parts _ _ tests.1 in
    let low = and_parts _ _ h.low in
    let i = instructions.RegisterOffset (index_at sizes.Double transfers.Load 30 w) in
    record {
      instruction = i;
      of_one = refl;
      spells = index_spells w 30 sizes.Double transfers.Load below tests.0 h.middle (top_is w 9 2 3 double.0) (top_is w 1 2 1 double.1) tt (low_is w 0 5 5 21 low.1) (low_is w 5 5 0 30 low.0);
      quiet = quiet_avoiding i k n Guard (avoids_link _ avoids_none) (or_right _ _ refl) (stack_kept i k n refl) refl refl refl (opens_guard i refl refl);
    }

-- ---- ordered loads and stores, which the second profile alone has
abbrev ordered_at : Size → Bool → (rn rt : ℕ) → Ordered
ordered_at size load rn rt = record { size = size; load = load; rn = rn; rt = rt }

ordered_spells : (w rn rt : ℕ) (size : Size) (load : Bool) → w < 2 ^ 32 → sets.is_ordered (w / 2 ^ 21) ≡ true → sets.is_acquire (w / 2 ^ 10 % 2 ^ 11) ≡ true → bits_at w 30 2 ≡ size_code size
    → bits_at w 22 1 ≡ bit load → bits_at w 5 5 ≡ rn → bits_at w 0 5 ≡ rt → SpellsIn Two (instructions.Ordered (ordered_at size load rn rt)) w
ordered_spells w rn rt size load below h m sized loads from to =
    let tests = and_parts _ _ h in
    let zero_bit : bits_at w 21 1 ≡ 0 = top_is w 0 1 0 tests.1 in
    let ones : bits_at w 10 11 ≡ 2047 = eqb-true _ _ m in
    let whole = imm12_is w in
    let middle : bits_at w 10 12 ≡ 2047 = omega arith in
    record {
      spells = record { legal = tt; word_of = IsWordOf-from_reads _ w below (sized, (top_is w 2 7 17 tests.0, (loads, (middle, (from, (to, tt)))))) };
      of_profile = refl;
    }

pub load_ordered_is_told : (w k n : ℕ) → w < 2 ^ 32 → IsIn load_ordered w → IsToldWord Two w k n Nothing
load_ordered_is_told w k n below h =
    let tests = and_parts _ _ h.top in
    let low = and_parts _ _ h.low in
    let free : IsUnreserved (bits_at w 0 5) = low_unreserved w low.0 in
    let i = instructions.Ordered (ordered_at (size_of (bits_at w 30 2)) true (bits_at w 5 5) (bits_at w 0 5)) in
    record {
      instruction = i;
      spells = ordered_spells w _ _ _ true below tests.0 h.middle (size_is w 30) (top_is w 1 1 1 tests.1) refl refl;
      quiet = sparing k n i (general (bits_at w 0 5) (data_width (size_of (bits_at w 30 2)) transfers.Load) []) refl (spares_one _ _ free)
          (low_base w low.1) refl refl (opens_none i refl (and_right _ _ free.link) refl);
    }

pub store_ordered_is_told : (w k n : ℕ) → w < 2 ^ 32 → IsIn store_ordered w → IsToldWord Two w k n Nothing
store_ordered_is_told w k n below h =
    let tests = and_parts _ _ h.top in
    let no_load = no_load_64 (size_of (bits_at w 30 2)) in
    let i = instructions.Ordered (ordered_at (size_of (bits_at w 30 2)) false (bits_at w 5 5) (bits_at w 0 5)) in
    record {
      instruction = i;
      spells = ordered_spells w _ _ _ false below tests.0 h.middle (size_is w 30) (top_is w 1 1 0 tests.1) refl refl;
      quiet = sparing k n i [] refl spares_none (low_base w h.low) refl refl (opens_none i refl (and_left _ _ no_load) refl);
    }

pub load_link_ordered_opens : (w k n : ℕ) → w < 2 ^ 32 → IsIn load_link_ordered w → IsToldWord Two w k n Guard
load_link_ordered_opens w k n below h =
    let tests = and_parts _ _ h.top in
    let loads = and_parts _ _ tests.0 in
    let low = and_parts _ _ h.low in
    let i = instructions.Ordered (ordered_at sizes.Double true (bits_at w 5 5) 30) in
    record {
      instruction = i;
      spells = ordered_spells w _ 30 sizes.Double true below loads.0 h.middle (top_is w 9 2 3 tests.1) (top_is w 1 1 1 loads.1) refl (low_is w 5 5 0 30 low.0);
      quiet = quiet_avoiding i k n Guard (avoids_link _ avoids_none) (or_right _ _ refl) (stack_kept i k n refl) (low_base w low.1) refl refl (opens_guard i refl refl);
    }

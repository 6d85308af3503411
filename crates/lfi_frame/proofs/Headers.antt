-- Twelve bytes and the header that they spell.
use Rattle.std.proofs.Common.{zero, suc, ◌≢◌, ◌≡◌, ℕ, ◌+◌, ◌*◌, ◌<◌, ◌≤◌, ◌^◌, List, [], ◌∷◌, ◌++◌, length, drop, get_or, inl, inr, refl, sym, ◌∙◌, ap, arith, lit<, ◌⊎◌}
use Rattle.std.specs.Prelude.{Option, Some, None, Bool, true, false, not, ◌||◌, ◌&&◌, ◌==◌, ◌%◌, nat_lt, nat_le, if◌then◌else◌, slice_index}
use Rattle.std.proofs.lemmas.Nat.{le_bytes_2, le_bytes_4}
use Rattle.std.proofs.lemmas.List.{get_or-drop}
use Rattle.std.proofs.lemmas.Bool.{ltb-false, ltb-true, eq-eqb, eqb-true, leb-false, leb-true}
use Rattle.std.proofs.lemmas.Bool.Decides.{eqb_tells}
use Rattle.byteorder.specs.Endian.{little_bytes, little_number}
use Rattle.byteorder.specs.Numbers.{little_number-reads_back, little_from-lt}
use Rattle.lfi_frame.specs.declared.header.Header.{Header}
use Rattle.lfi_frame.specs.declared.fault.FrameFault.{FrameFault}
use Rattle.lfi_frame.specs.declared.fault.FrameFault.TheVariants.{Kind, SecondByte, Module, PageLength, CloseNumbers}
use Rattle.lfi_module.specs.Numbers.{module_count}
use Rattle.lfi_frame.specs.Streams.{AreBytes, header_at, header_bytes, header_fault, is_page_length, is_page, is_second, size_by}

-- the header that a header's bytes spell
pub header_back : (h : Header) (xs : List ℕ) → h.«module» < 2 ^ 16 → h.a < 2 ^ 32 → h.b < 2 ^ 32 → header_at (header_bytes h ++ xs) ≡ h
header_back h xs m_fits a_fits b_fits =
    let m : little_number 2 (little_bytes 2 h.«module» ++ (little_bytes 4 h.a ++ (little_bytes 4 h.b ++ xs))) ≡ h.«module» = little_number-reads_back 2 h.«module» (little_bytes 4 h.a ++ (little_bytes 4 h.b ++ xs)) m_fits in
    let a : little_number 4 (little_bytes 4 h.a ++ (little_bytes 4 h.b ++ xs)) ≡ h.a = little_number-reads_back 4 h.a (little_bytes 4 h.b ++ xs) a_fits in
    let b : little_number 4 (little_bytes 4 h.b ++ xs) ≡ h.b = little_number-reads_back 4 h.b xs b_fits in
    λ i. record { kind = h.kind; second = h.second; «module» = m i; a = a i; b = b i }

two_bytes : (x y : ℕ) (rest : List ℕ) → x < 256 → y < 256 → little_bytes 2 (little_number 2 (x ∷ y ∷ rest)) ≡ x ∷ y ∷ []
two_bytes x y rest p q = le_bytes_2 (x ∷ y ∷ []) _ refl below (omega arith)
  where
    below : (i : ℕ) → get_or (x ∷ y ∷ []) i 0 < 256
    below zero = p
    below (suc zero) = q
    below (suc (suc i)) = lit< tt

four_bytes : (x y z w : ℕ) (rest : List ℕ) → x < 256 → y < 256 → z < 256 → w < 256 → little_bytes 4 (little_number 4 (x ∷ y ∷ z ∷ w ∷ rest)) ≡ x ∷ y ∷ z ∷ w ∷ []
four_bytes x y z w rest p q r s = le_bytes_4 (x ∷ y ∷ z ∷ w ∷ []) _ refl below (omega arith)
  where
    below : (i : ℕ) → get_or (x ∷ y ∷ z ∷ w ∷ []) i 0 < 256
    below zero = p
    below (suc zero) = q
    below (suc (suc zero)) = r
    below (suc (suc (suc zero))) = s
    below (suc (suc (suc (suc i)))) = lit< tt

-- the bytes of the header that the first twelve bytes spell
pub header_spells : (bs : List ℕ) → 12 ≤ length bs → AreBytes bs → header_bytes (header_at bs) ++ drop 12 bs ≡ bs
header_spells [] long small = absurd (omega arith)
header_spells (a ∷ []) long small = absurd (omega arith)
header_spells (a ∷ b ∷ []) long small = absurd (omega arith)
header_spells (a ∷ b ∷ c ∷ []) long small = absurd (omega arith)
header_spells (a ∷ b ∷ c ∷ d ∷ []) long small = absurd (omega arith)
header_spells (a ∷ b ∷ c ∷ d ∷ e ∷ []) long small = absurd (omega arith)
header_spells (a ∷ b ∷ c ∷ d ∷ e ∷ f ∷ []) long small = absurd (omega arith)
header_spells (a ∷ b ∷ c ∷ d ∷ e ∷ f ∷ g ∷ []) long small = absurd (omega arith)
header_spells (a ∷ b ∷ c ∷ d ∷ e ∷ f ∷ g ∷ h ∷ []) long small = absurd (omega arith)
header_spells (a ∷ b ∷ c ∷ d ∷ e ∷ f ∷ g ∷ h ∷ i ∷ []) long small = absurd (omega arith)
header_spells (a ∷ b ∷ c ∷ d ∷ e ∷ f ∷ g ∷ h ∷ i ∷ j ∷ []) long small = absurd (omega arith)
header_spells (a ∷ b ∷ c ∷ d ∷ e ∷ f ∷ g ∷ h ∷ i ∷ j ∷ k ∷ []) long small = absurd (omega arith)
header_spells (a ∷ b ∷ c ∷ d ∷ e ∷ f ∷ g ∷ h ∷ i ∷ j ∷ k ∷ l ∷ rest) long small =
    ap (λ x. a ∷ b ∷ (x ++ (little_bytes 4 (little_number 4 (e ∷ f ∷ g ∷ h ∷ i ∷ j ∷ k ∷ l ∷ rest)) ++ little_bytes 4 (little_number 4 (i ∷ j ∷ k ∷ l ∷ rest)))) ++ rest) (two_bytes c d (e ∷ f ∷ g ∷ h ∷ i ∷ j ∷ k ∷ l ∷ rest) (small 2) (small 3))
    ∙ ap (λ x. a ∷ b ∷ c ∷ d ∷ (x ++ little_bytes 4 (little_number 4 (i ∷ j ∷ k ∷ l ∷ rest))) ++ rest) (four_bytes e f g h (i ∷ j ∷ k ∷ l ∷ rest) (small 4) (small 5) (small 6) (small 7))
    ∙ ap (λ x. a ∷ b ∷ c ∷ d ∷ e ∷ f ∷ g ∷ h ∷ x ++ rest) (four_bytes i j k l rest (small 8) (small 9) (small 10) (small 11))

-- a test that was passed over
passed : (b : Bool) (fault : FrameFault) (rest : Option FrameFault) → (if b then Some fault else rest) ≡ None → (b ≡ false) × (rest ≡ None)
passed true fault rest e = absurd (cc)
passed false fault rest e = (refl, e)

neither : (b c : Bool) → (b || c) ≡ false → (b ≡ false) × (c ≡ false)
neither false false e = (refl, refl)
neither true c e = absurd (cc)
neither false true e = absurd (cc)

not_false : (b : Bool) → not b ≡ false → b ≡ true
not_false true e = refl
not_false false e = absurd (cc)

both : (b c : Bool) → (b && c) ≡ true → (b ≡ true) × (c ≡ true)
both true true e = (refl, refl)
both true false e = absurd (cc)
both false c e = absurd (cc)

second_false : (b c : Bool) → (b && c) ≡ false → b ≡ true → c ≡ false
second_false true c e t = e
second_false false c e t = absurd (cc)

-- the kinds of a page
abbrev pub IsPaging : (kind : ℕ) → Type 0
IsPaging kind = (kind ≡ 2) ⊎ (kind ≡ 5)

-- what a header without a fault says
pub record IsSound (h : Header) : Type 0 where
  pub kind : IsPaging h.kind ⊎ ((h.kind ≡ 1) ⊎ ((h.kind ≡ 3) ⊎ (h.kind ≡ 4)))
  pub second : (h.second ≡ 0) ⊎ ((h.kind ≡ 4) × (h.second ≡ 2))
  pub m_below : h.«module» < module_count
  pub zeros : h.kind ≡ 3 → (h.a ≡ 0) × (h.b ≡ 0)
  pub some : IsPaging h.kind → 0 < h.b
  pub few : IsPaging h.kind → h.b ≤ 4 * size_by h.kind
  pub whole : IsPaging h.kind → h.b % 4 ≡ 0

above_zero : (n : ℕ) → (n == 0) ≡ false → 0 < n
above_zero zero e = absurd (cc)
above_zero (suc n) e = omega arith

pub paging : (k : ℕ) → IsPaging k → is_page k ≡ true
paging k (inl two) = ap is_page two
paging k (inr five) = ap is_page five

kind_among : (k : ℕ) → (k == 0 || nat_lt 5 k) ≡ false → IsPaging k ⊎ ((k ≡ 1) ⊎ ((k ≡ 3) ⊎ (k ≡ 4)))
kind_among k e =
    let two = neither (k == 0) (nat_lt 5 k) e in
    let most : k ≤ 5 = ltb-false 5 k two.1 in
    let least : 0 < k = above_zero k two.0 in
    elim (eqb_tells k 2) [
      | inl a ↦ inl (inl a.1)
      | inr a ↦ elim (eqb_tells k 1) [
        | inl b ↦ inr (inl b.1)
        | inr b ↦ elim (eqb_tells k 3) [
          | inl c ↦ inr (inr (inl c.1))
          | inr c ↦ elim (eqb_tells k 4) [
            | inl d ↦ inr (inr (inr d.1))
            | inr d ↦ let no_two : k ≢ 2 = a.1 in let no_one : k ≢ 1 = b.1 in let no_three : k ≢ 3 = c.1 in let no_four : k ≢ 4 = d.1 in inl (inr (omega arith))
          ]
        ]
      ]
    ]

second_among : (kind second : ℕ) → is_second kind second ≡ true → (second ≡ 0) ⊎ ((kind ≡ 4) × (second ≡ 2))
second_among kind second e = elim (eqb_tells second 0) [
  | inl a ↦ inl a.1
  | inr a ↦ (let z = both (kind == 4) (second == 2) (sym (ap (λ b. b || kind == 4 && second == 2) a.0) ∙ e) in inr (eqb-true kind 4 z.0, eqb-true second 2 z.1))
]

pub sound : (h : Header) → header_fault h ≡ None → IsSound h
sound h none =
    let one = passed (h.kind == 0 || nat_lt 5 h.kind) Kind _ none in
    let two = passed (not (is_second h.kind h.second)) SecondByte _ one.1 in
    let three = passed (nat_le module_count h.«module») Module _ two.1 in
    let four = passed (is_page h.kind && not (is_page_length (size_by h.kind) h.b)) PageLength _ three.1 in
    let five = passed (h.kind == 3 && not (h.a == 0 && h.b == 0)) CloseNumbers _ four.1 in
    let most = 4 * size_by h.kind in
    let length_is = is_page_length (size_by h.kind) h.b in
    let in_range = λ (k : IsPaging h.kind).
    both (nat_lt 0 h.b && nat_le h.b most) (h.b % 4 == 0) (not_false length_is (second_false (is_page h.kind) (not length_is) four.0 (paging h.kind k))) in
    record {
      kind = kind_among h.kind one.0;
      second = second_among h.kind h.second (not_false (is_second h.kind h.second) two.0);
      m_below = leb-false module_count h.«module» three.0;
      zeros = λ k.
          let z = both (h.a == 0) (h.b == 0) (not_false (h.a == 0 && h.b == 0) (second_false (h.kind == 3) (not (h.a == 0 && h.b == 0)) five.0 (eq-eqb h.kind 3 k))) in
          (eqb-true h.a 0 z.0, eqb-true h.b 0 z.1);
      some = λ k. let z = in_range k in ltb-true 0 h.b (both (nat_lt 0 h.b) (nat_le h.b most) z.0).0;
      few = λ k. let z = in_range k in leb-true h.b most (both (nat_lt 0 h.b) (nat_le h.b most) z.0).1;
      whole = λ k. let z = in_range k in eqb-true (h.b % 4) 0 z.1;
    }

-- the numbers of a header of bytes fit
pub header_fits : (bs : List ℕ) → AreBytes bs → ((header_at bs).a < 2 ^ 32) × ((header_at bs).b < 2 ^ 32)
header_fits bs small = (little_from-lt 0 4 (drop 4 bs) (dropped 4), little_from-lt 0 4 (drop 8 bs) (dropped 8))
  where
    dropped : (k i : ℕ) → slice_index (drop k bs) i < 256
    dropped k i = rw (get_or-drop k bs i 0) (small (k + i))

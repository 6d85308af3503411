-- Where the bytes of a page that is kept lie.
use Rattle.std.proofs.Common.{◌≡◌, ℕ, zero, suc, ◌+◌, ◌-◌, ◌*◌, ◌/◌, ◌%◌, ◌<◌, ◌≤◌, false, eqb, cond, List, [], ◌∷◌, length, get_or, refl, sym, ap, ap₂, ◌∙◌, inl, inr, arith, ne_eqb}
use Rattle.std.proofs.lemmas.Bool.{cases_eq, eq-eqb, eqb-true, eqb-false, cond_both, cond-true, cond-false}
use Rattle.a64_word.specs.Bytes.{number_at, low_bytes, written}
use Rattle.sparse_memory.proofs.Numbers.{same_numbers}
use Rattle.sparse_memory.specs.Kept.{Kept, byte_at, frame_place, IsKept, IsWellKept, WritesNumber}

-- a byte near another one of a page that is kept
pub byte_near : (kept : Kept) (frame offset at room k : ℕ) → frame ≡ get_or kept.table (offset / 65536) 0 → 0 < frame → offset % 65536 + room ≤ 65536 → at ≡ (frame - 1) * 65536 + offset % 65536 → k < room
    → get_or kept.frames (at + k) 0 ≡ byte_at kept (offset + k)
byte_near kept frame offset at room k is some fits place near =
    let page : (offset + k) / 65536 ≡ offset / 65536 = omega arith in
    let within : (offset + k) % 65536 ≡ offset % 65536 + k = omega arith in
    let kept_here : eqb (get_or kept.table (offset / 65536) 0) 0 ≡ false = ne_eqb (get_or kept.table (offset / 65536) 0) 0 (omega (arith, is, some)) in
    let e : at + k ≡ (get_or kept.table (offset / 65536) 0 - 1) * 65536 + (offset % 65536 + k) = ap (λ p. p + k) (place ∙ ap (λ f. (f - 1) * 65536 + offset % 65536) is) ∙ omega arith in
    rw (page, within, kept_here) (ap (λ p. get_or kept.frames p 0) e)

-- the number that bytes of one page spell
pub number_near : (kept : Kept) (bytes : List ℕ) (frame offset at room : ℕ) → bytes ≡ kept.frames → frame ≡ get_or kept.table (offset / 65536) 0 → 0 < frame → offset % 65536 + room ≤ 65536
    → at ≡ (frame - 1) * 65536 + offset % 65536 → number_at (λ k. get_or bytes k 0) room at ≡ number_at (byte_at kept) room offset
number_near kept bytes frame offset at room same is some fits place =
    same_numbers (λ k. get_or bytes k 0) (byte_at kept) room at offset
    (λ k h. ap (λ b. get_or b (at + k) 0) same ∙ byte_near kept frame offset at room k is some fits place h)

-- Among pages that are kept, a place has one offset.
same_place : (kept : Kept) (start j o : ℕ) → IsWellKept kept → IsKept kept start → IsKept kept o → start % 65536 + j < 65536
    → eqb (frame_place kept o) (frame_place kept start + j) ≡ eqb o (start + j)
same_place kept start j o well here there within = elim (cases_eq o (start + j)) [
  | inl e ↦ (
      let page : (start + j) / 65536 ≡ start / 65536 = omega arith in
      let rest : (start + j) % 65536 ≡ start % 65536 + j = omega arith in
      let place : frame_place kept (start + j) ≡ frame_place kept start + j = rw (page, rest) (omega arith) in
      rw e (eq-eqb (frame_place kept (start + j)) (frame_place kept start + j) place ∙ sym (eq-eqb (start + j) (start + j) refl)))
  | inr ne ↦ (
      let other : frame_place kept o ≡ frame_place kept start + j → ⊥ = λ same.
      let frame : get_or kept.table (start / 65536) 0 ≡ get_or kept.table (o / 65536) 0 = omega (arith, same, here, there, within) in
      let rest : o % 65536 ≡ start % 65536 + j = omega (arith, same, here, there, within) in
      let page : start / 65536 ≡ o / 65536 = well.apart (start / 65536) (o / 65536) here frame in
      ne (omega (arith, page, rest)) in
      ne_eqb (frame_place kept o) (frame_place kept start + j) other ∙ sym (ne_eqb o (start + j) ne))
]

-- What is written among the frames is written at the offsets of their page.
placed : (kept : Kept) (f g : ℕ → ℕ) (start j : ℕ) (bytes : List ℕ) (o : ℕ) → IsWellKept kept → IsKept kept start → IsKept kept o → start % 65536 + j + length bytes ≤ 65536
    → f (frame_place kept o) ≡ g o → written f (frame_place kept start + j) bytes (frame_place kept o) ≡ written g (start + j) bytes o
placed kept f g start j [] o well here there within same = same
placed kept f g start j (b ∷ bs) o well here there within same =
    let turn : frame_place kept start + j + 1 ≡ frame_place kept start + (j + 1) = omega arith in
    let turn' : start + (j + 1) ≡ start + j + 1 = omega arith in
    let f' : ℕ → ℕ = λ q. cond (eqb q (frame_place kept start + j)) b (f q) in
    let g' : ℕ → ℕ = λ q. cond (eqb q (start + j)) b (g q) in
    let next : f' (frame_place kept o) ≡ g' o = ap₂ (λ t v. cond t b v) (same_place kept start j o well here there (omega arith)) same in
    ap (λ a. written f' a bs (frame_place kept o)) turn ∙ placed kept f' g' start (j + 1) bs o well here there (omega arith) next
    ∙ ap (λ a. written g' a bs o) turn'

-- Elsewhere nothing is written.
elsewhere : (g : ℕ → ℕ) (address : ℕ) (bytes : List ℕ) (o : ℕ) → ((j : ℕ) → j < length bytes → o ≡ address + j → ⊥) → written g address bytes o ≡ g o
elsewhere g address [] o h = refl
elsewhere g address (b ∷ bs) o h =
    let first : eqb o address ≡ false = ne_eqb o address (λ e. h 0 (omega arith) (omega (arith, e))) in
    elsewhere (λ q. cond (eqb q address) b (g q)) (address + 1) bs o (λ j l e. h (j + 1) (omega (arith, l)) (omega (arith, e)))
    ∙ ap (λ t. cond t b (g o)) first

length-low_bytes : (bytes value : ℕ) → length (low_bytes bytes value) ≡ bytes
length-low_bytes zero value = refl
length-low_bytes (suc bytes) value = ap suc (length-low_bytes bytes (value / 256))

-- a number that was written in one page
pub written_near : (kept : Kept) (frames : List ℕ) (offset at bytes value : ℕ) → IsWellKept kept → IsKept kept offset → offset % 65536 + bytes ≤ 65536 → at ≡ frame_place kept offset
    → ((k : ℕ) → get_or frames k 0 ≡ written (λ q. get_or kept.frames q 0) at (low_bytes bytes value) k)
    → WritesNumber kept (record { table = kept.table; frames = frames }) offset bytes value
written_near kept frames offset at bytes value well here fits is wrote o =
    cond_both (eqb (get_or kept.table (o / 65536) 0) 0) 0 (get_or frames (frame_place kept o) 0) (λ b. b ≡ written (byte_at kept) offset (low_bytes bytes value) o)
    (λ none.
    let old : byte_at kept o ≡ 0 = cond-true (eqb (get_or kept.table (o / 65536) 0) 0) 0 (get_or kept.frames (frame_place kept o) 0) none in
    let nothing : get_or kept.table (o / 65536) 0 ≡ 0 = eqb-true (get_or kept.table (o / 65536) 0) 0 none in
    let size = length-low_bytes bytes value in
    sym (elsewhere (byte_at kept) offset (low_bytes bytes value) o (λ j l e.
    let page : o / 65536 ≡ offset / 65536 = omega (arith, size, l, e) in
    let same : get_or kept.table (o / 65536) 0 ≡ get_or kept.table (offset / 65536) 0 = ap (λ p. get_or kept.table p 0) page in
    absurd (omega (arith, same, nothing, here))) ∙ old))
    (λ some.
    let there : IsKept kept o = (let n = eqb-false (get_or kept.table (o / 65536) 0) 0 some in omega (arith, n)) in
    let old : get_or kept.frames (frame_place kept o) 0 ≡ byte_at kept o = sym (cond-false (eqb (get_or kept.table (o / 65536) 0) 0) 0 (get_or kept.frames (frame_place kept o) 0) some) in
    let start : at ≡ frame_place kept offset + 0 = is ∙ omega arith in
    let start' : offset + 0 ≡ offset = omega arith in
    wrote (frame_place kept o) ∙ ap (λ a. written (λ q. get_or kept.frames q 0) a (low_bytes bytes value) (frame_place kept o)) start
    ∙ placed kept (λ q. get_or kept.frames q 0) (byte_at kept) offset 0 (low_bytes bytes value) o well here there (omega (arith, length-low_bytes bytes value)) old
    ∙ ap (λ a. written (byte_at kept) a (low_bytes bytes value) o) start')

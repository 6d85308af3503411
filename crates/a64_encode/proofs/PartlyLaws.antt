-- The word of fields, put together from the first of them on.
use Rattle.std.proofs.Common.{◌≡◌, ℕ, ◌+◌, ◌*◌, ◌%◌, ◌^◌, ◌<◌, ◌≤◌, List, [], ◌∷◌, length, drop, get_or, sym, ap, subst, ◌∙◌, add-one, arith}
use Rattle.std.proofs.Math.Nat.{mod-eq_of_lt, mul-le-mul_right, le-mul_of_pos_right}
use Rattle.std.proofs.Math.Seq.{drop-cons}
use Rattle.std.proofs.lemmas.Nat.{pow_pos, pow-add, one_shl}
use Rattle.a64_word.specs.declared.fields.Field.{Field}
use Rattle.a64_word.specs.Fields.{total_width, sum_of, AllFit, IsWordOf}

-- The fields up to the rest make the word so far.
pub record IsPartly (fs rest : List Field) (word : ℕ) : Type 0 where
  pub width : total_width rest ≤ 32
  pub room : (word + 1) * 2 ^ total_width rest ≤ 2 ^ 32
  pub sum : word * 2 ^ total_width rest + sum_of rest ≡ sum_of fs
  pub fit : AllFit rest → AllFit fs
  pub fits : AllFit fs → AllFit rest

pub IsPartly-start : (fs : List Field) → total_width fs ≡ 32 → IsPartly fs fs 0
IsPartly-start fs h =
    record { width = omega arith; room = rw h (omega arith); sum = omega arith; fit = λ x. x; fits = λ x. x }

pub IsPartly-turn : (fs : List Field) (i word : ℕ) (d : Field) → i < length fs → IsPartly fs (drop i fs) word
    → IsPartly fs (get_or fs i d ∷ drop (i + 1) fs) word
IsPartly-turn fs i word d below h =
    let P : List Field → Type 0 = λ rest. IsPartly fs rest word in
    subst P (drop-cons fs i d below ∙ ap (λ n. get_or fs i d ∷ drop n fs) (sym (add-one i))) h

split_power : (a i j : ℕ) → a * 2 ^ (i + j) ≡ a * 2 ^ i * 2 ^ j
split_power a i j = rw (pow-add 2 i j) (omega arith)

next_room : (word width value j : ℕ) → value < 2 ^ width → (word + 1) * 2 ^ (width + j) ≤ 2 ^ 32 → (word * 2 ^ width + value + 1) * 2 ^ j ≤ 2 ^ 32
next_room word width value j below room =
    let step : word * 2 ^ width + value + 1 ≤ (word + 1) * 2 ^ width = omega arith in
    omega (arith, split_power (word + 1) width j, mul-le-mul_right (2 ^ j) step)

pub IsPartly-next : (fs : List Field) (f : Field) (rest : List Field) (word : ℕ) → IsPartly fs (f ∷ rest) word → f.value < 2 ^ f.width
    → IsPartly fs rest (word * 2 ^ f.width + f.value)
IsPartly-next fs f rest word h below = record {
  width = omega (arith, h.width);
  room = next_room word f.width f.value (total_width rest) below h.room;
  sum = omega (arith, split_power word f.width (total_width rest), h.sum);
  fit = λ r. h.fit (below, r);
  fits = λ a. (h.fits a).1;
}

whole : (word i j : ℕ) → (word + 1) * 2 ^ (i + j) ≤ 2 ^ 32 → (word + 1) * 2 ^ i ≤ 2 ^ 32
whole word i j room =
    omega (arith, split_power (word + 1) i j, le-mul_of_pos_right ((word + 1) * 2 ^ i) (pow_pos j))

-- No bit is shifted out, and the sum fits.
pub IsPartly-whole : (fs : List Field) (f : Field) (rest : List Field) (word : ℕ) → IsPartly fs (f ∷ rest) word → (word + 1) * 2 ^ f.width ≤ 2 ^ 32
IsPartly-whole fs f rest word h = whole word f.width (total_width rest) h.room

-- What the tests and shifts compute.
fits-from_test : (width value : ℕ) → width ≤ 32 → value < 1 * 2 ^ width % 2 ^ 64 → value < 2 ^ width
fits-from_test width value narrow below = rw (one_shl width 64 (omega arith)) at below

pub IsPartly-shifted : (fs : List Field) (f : Field) (rest : List Field) (word tested value : ℕ) → IsPartly fs (f ∷ rest) word
    → tested ≡ f.value → value ≡ f.value → tested < 1 * 2 ^ f.width % 2 ^ 64
    → (word * 2 ^ f.width % 2 ^ 64 + value < 2 ^ 64) × IsPartly fs rest (word * 2 ^ f.width % 2 ^ 64 + value)
IsPartly-shifted fs f rest word tested value h e e' below =
    let room = IsPartly-whole fs f rest word h in
    let small : f.value < 2 ^ f.width = fits-from_test f.width f.value (omega (arith, h.width)) (rw e at below) in
    let same : word * 2 ^ f.width % 2 ^ 64 ≡ word * 2 ^ f.width = mod-eq_of_lt (omega arith) in
    rw (same, e') (omega arith, IsPartly-next fs f rest word h small)

pub not_fits : (fs : List Field) (f : Field) (rest : List Field) (word tested w : ℕ) → IsPartly fs (f ∷ rest) word
    → tested ≡ f.value → 1 * 2 ^ f.width % 2 ^ 64 ≤ tested → IsWordOf fs w → ⊥
not_fits fs f rest word tested w h e above r =
    let small = (h.fits r.in_range).0 in
    let power = one_shl f.width 64 (omega (arith, h.width)) in
    omega arith

-- All fields are read.
pub IsPartly-end : (fs : List Field) (word : ℕ) → IsPartly fs [] word → (word < 2 ^ 32) × IsWordOf fs word
IsPartly-end fs word h = (omega (arith, h.room), record { in_range = h.fit tt; sum = omega (arith, h.sum) })

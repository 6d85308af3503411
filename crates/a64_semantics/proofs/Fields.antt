-- Fields of bits at their places.
use Rattle.std.proofs.Common.{◌≡◌, ℕ, ◌+◌, ◌-◌, ◌*◌, ◌/◌, ◌%◌, ◌^◌, ◌<◌, ◌≤◌, sym, ap, ap₂, ◌∙◌, arith, bit_or, pow-add, pow_pos, pow_mono, mod-lt, mul_assoc, add-mul, mul-lt-mul_of_pos_right, refl}
use Rattle.std.proofs.lemmas.Nat.{or_shifted, shr_split, shl_below}
use Rattle.std.proofs.lemmas.Bool.{lt-leb}
use Rattle.std.proofs.Math.Nat.{mod-eq_of_lt, mul-mod_left}
use Rattle.a64_word.specs.declared.operands.Width.{Width}
use Rattle.a64_word.specs.declared.operands.Width.TheVariants as widths
use Rattle.a64_word.specs.Operands.{data_size}
use Rattle.a64_semantics.specs.Bitfields.{moved, field_end, field_place, inserted}

pub data_size_small : (width : Width) → data_size width ≤ 64
data_size_small widths.W = omega arith
data_size_small widths.X = omega arith

-- the lowest bits of a number, at a place from which they fit
placed_below : (x size place : ℕ) → x % 2 ^ size * 2 ^ place < 2 ^ (place + size)
placed_below x size place =
    let low : x % 2 ^ size < 2 ^ size = mod-lt x (pow_pos size) in
    rw (pow-add 2 place size) (grind (arith, mul-lt-mul_of_pos_right low (pow_pos place)))

placed_fits : (x size place : ℕ) → place + size ≤ 64 → x % 2 ^ size * 2 ^ place < 2 ^ 64
placed_fits x size place room =
    let bound : 2 ^ (place + size) ≤ 2 ^ 64 = pow_mono room in
    omega (arith, placed_below x size place)

-- the field that goes up
pub record GoesUp (width : Width) (immr imms x up : ℕ) : Type 0 where
  pub value : up ≡ moved width immr imms x
  pub below : up < 2 ^ field_end width immr imms
  pub place : up % 2 ^ field_place width immr imms ≡ 0

pub goes_up : (width : Width) (immr imms x low bits : ℕ) → imms < immr → immr < data_size width → low ≡ x % 2 ^ (imms + 1) → bits ≡ data_size width
    → GoesUp width immr imms x (low * 2 ^ (bits - immr) % 2 ^ 64)
goes_up width immr imms x low bits above within is size =
    let room : data_size width - immr + (imms + 1) ≤ 64 = omega (arith, data_size_small width) in
    let whole : x % 2 ^ (imms + 1) * 2 ^ (data_size width - immr) % 2 ^ 64 ≡ x % 2 ^ (imms + 1) * 2 ^ (data_size width - immr) = mod-eq_of_lt (placed_fits x (imms + 1) (data_size width - immr) room) in
    let place : data_size width - immr + (imms + 1) ≡ data_size width - immr + imms + 1 = omega arith in
    let below : x % 2 ^ (imms + 1) * 2 ^ (data_size width - immr) < 2 ^ (data_size width - immr + imms + 1) = rw place at (placed_below x (imms + 1) (data_size width - immr)) in
    rw (is, size, whole) (record {
      value = rw (lt-leb immr imms above) refl;
      below = rw (lt-leb immr imms above) below;
      place = rw (lt-leb immr imms above) (mul-mod_left (x % 2 ^ (imms + 1)) (2 ^ (data_size width - immr)));
    })

-- bits above a field, the field, and bits below it
pub joined : (low high field old : ℕ) → low ≤ high → field % 2 ^ low ≡ 0 → field < 2 ^ high
    → bit_or (bit_or (old / 2 ^ high * 2 ^ high) field) (old % 2 ^ low) ≡ inserted low high field old
joined low high field old order place small =
    let a = old / 2 ^ high in
    let f = field / 2 ^ low in
    let is : field ≡ f * 2 ^ low = sym (shr_split field low) ∙ ap (λ r. f * 2 ^ low + r) place ∙ omega arith in
    let split : 2 ^ high ≡ 2 ^ (high - low) * 2 ^ low = (let e : high ≡ high - low + low = omega arith in ap (λ k. 2 ^ k) e ∙ pow-add 2 (high - low) low) in
    let whole : a * 2 ^ high + field ≡ (a * 2 ^ (high - low) + f) * 2 ^ low =
    ap₂ (λ x y. x + y) (ap (λ p. a * p) split ∙ sym (mul_assoc a (2 ^ (high - low)) (2 ^ low))) is ∙ sym (add-mul (a * 2 ^ (high - low)) f (2 ^ low)) in
    let below : old % 2 ^ low < 2 ^ low = mod-lt old (pow_pos low) in
    ap (λ x. bit_or x (old % 2 ^ low)) (or_shifted a high field small ∙ whole)
    ∙ or_shifted (a * 2 ^ (high - low) + f) low (old % 2 ^ low) below
    ∙ ap (λ x. x + old % 2 ^ low) (sym whole)

-- 16 bits at a place
pub record IsPlaced (width : Width) (imm16 place moved : ℕ) : Type 0 where
  pub value : moved ≡ imm16 * 2 ^ place
  pub multiple : moved % 2 ^ place ≡ 0
  pub below : moved < 2 ^ (place + 16)
  pub within : moved < 2 ^ data_size width

pub is_placed : (width : Width) (imm16 place n : ℕ) → imm16 < 2 ^ 16 → place + 16 ≤ data_size width → n ≡ imm16 → IsPlaced width imm16 place (n * 2 ^ place % 2 ^ 64)
is_placed width imm16 place n fits room is =
    let turn : 16 + place ≡ place + 16 = omega arith in
    let below : imm16 * 2 ^ place < 2 ^ (place + 16) = rw turn at (shl_below imm16 16 place fits) in
    let within : 2 ^ (place + 16) ≤ 2 ^ data_size width = pow_mono room in
    let small : 2 ^ data_size width ≤ 2 ^ 64 = pow_mono (data_size_small width) in
    let whole : imm16 * 2 ^ place % 2 ^ 64 ≡ imm16 * 2 ^ place = mod-eq_of_lt (omega arith) in
    rw (is, whole) (record { value = refl; multiple = mul-mod_left imm16 (2 ^ place); below = below; within = omega arith })

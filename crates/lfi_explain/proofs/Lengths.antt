-- How long texts are at most, put together of their parts.
use Rattle.std.proofs.Common.{ℕ, zero, suc, ◌+◌, ◌/◌, ◌%◌, ◌<◌, ◌≤◌, Bool, true, false, List, [], ◌∷◌, ◌++◌, length, arith, lit≤}
use Rattle.std.specs.Prelude.{if◌then◌else◌, ◌==◌, ℤ, pos, negsuc}
use Rattle.std.specs.Fmt.{digits, digits_onto, digit_glyph, decimal, signed_decimal}
use Rattle.std.proofs.lemmas.List.{length-append}
use Rattle.std.proofs.lemmas.Fmt.{length-decimal-le}

-- a text has at most so many bytes
pub record Short (text : List ℕ) (most : ℕ) : Type 0 where
  pub fits : length text ≤ most

pub exact : (text : List ℕ) → Short text (length text)
exact text = record { fits = omega arith }

pub within : {text : List ℕ} {few many : ℕ} → Short text few → few ≤ many → Short text many
within h more = record { fits = omega (arith, h.fits, more) }

-- one text after another
infixl 5 ◌⊕◌
pub ◌⊕◌ : {xs ys : List ℕ} {a b : ℕ} → Short xs a → Short ys b → Short (xs ++ ys) (a + b)
◌⊕◌ {xs = xs} {ys = ys} f g = record { fits = omega (arith, length-append xs ys, f.fits, g.fits) }

-- one text or another
pub either : (b : Bool) {xs ys : List ℕ} {n : ℕ} → Short xs n → Short ys n → Short (if b then xs else ys) n
either true f g = f
either false f g = g

-- ---- numbers
onto_short : (k base : ℕ) (upper : Bool) (n : ℕ) (more : List ℕ) → length (digits_onto k base upper n more) ≤ k + length more
onto_short zero base upper n more = omega arith
onto_short (suc k) base upper n more =
    let d = digit_glyph upper (n % base) in
    let rest = onto_short k base upper (n / base) (d ∷ more) in
    by_test (n / base == 0) (d ∷ more) (digits_onto k base upper (n / base) (d ∷ more)) (suc k + length more) (omega arith) (omega (arith, rest))
  where
    by_test : (b : Bool) (xs ys : List ℕ) (m : ℕ) → length xs ≤ m → length ys ≤ m → length (if b then xs else ys) ≤ m
    by_test true xs ys m f g = f
    by_test false xs ys m f g = g

-- A number has at most 64 digits, whatever its base.
pub digits_short : (base : ℕ) (upper : Bool) (n : ℕ) → Short (digits base upper n) 64
unfolding digits
digits_short base upper n = let most = onto_short 64 base upper n [] in record { fits = omega (arith, most) }

pub decimal_short : (n : ℕ) → Short (decimal n) 64
decimal_short n = digits_short 10 false n

pub two_digits : (n : ℕ) → n < 100 → Short (decimal n) 2
two_digits n small = record { fits = length-decimal-le 2 n (omega arith) small (omega (arith, small)) }

pub signed_short : (z : ℤ) → Short (signed_decimal z) 65
signed_short (pos n) = within (decimal_short n) (lit≤ tt)
signed_short (negsuc n) = let most = (decimal_short (suc n)).fits in record { fits = omega (arith, most) }

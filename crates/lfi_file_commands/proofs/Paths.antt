-- The path of an image: a number as it is printed in two digits at the least, and four texts joined.
use Rattle.std.proofs.Common.{◌≡◌, ◌∙◌, ℕ, ◌+◌, ◌-◌, ◌/◌, ◌%◌, ◌^◌, ◌<◌, ◌≤◌, true, false, [], ◌∷◌, ◌++◌, length, arith, ap, refl, List, ⊎_elim, ◌⊎◌, inl, inr, zero, suc, length-append, nat_lt}
use Rattle.std.specs.Fmt.{char_count, decimal, format_spec, padded_integral}
use Rattle.std.proofs.lemmas.Fmt.{decimal_digit, decimal_step}
use Rattle.std.proofs.lemmas.Bool.{le-ltb, lt-ltb}
use Rattle.std.proofs.lemmas.List.{append-nil}
use Rattle.lfi_file_commands.specs.Images.{two_digits}

split : (n k : ℕ) → (n < k) ⊎ (k ≤ n)
split n zero = inr (omega arith)
split zero (suc k) = inl (omega arith)
split (suc n) (suc k) = ⊎_elim (λ below. inl (omega (arith, below))) (λ above. inr (omega (arith, above))) (split n k)

some_digit : (n : ℕ) → n < 2 ^ 64 → 1 ≤ length (decimal n)
some_digit n fits = ⊎_elim
    (λ one. rw (decimal_digit n one) (omega arith))
    (λ two. rw (decimal_step n two fits) (omega (arith, length-append (decimal (n / 10)) ((48 + n % 10) ∷ []))))
    (split n 10)

two_at_least : (n : ℕ) → 10 ≤ n → n < 2 ^ 64 → 2 ≤ length (decimal n)
two_at_least n two fits =
    let front = some_digit (n / 10) (omega (arith, fits)) in
    rw (decimal_step n two fits) (omega (arith, front, length-append (decimal (n / 10)) ((48 + n % 10) ∷ [])))

pub in_two_digits : (n : ℕ) → n < 2 ^ 64 → padded_integral (format_spec 32 0 4 2 (2 ^ 64 - 1)) false [] (decimal n) ≡ two_digits n
unfolding padded_integral char_count
in_two_digits n fits = ⊎_elim
    (λ one. let test : nat_lt n 10 ≡ true = lt-ltb n 10 one in rw (decimal_digit n one, test))
    (λ two. let test : nat_lt n 10 ≡ false = le-ltb n 10 two in let none : 2 - length (decimal n) ≡ 0 = omega (arith, two_at_least n two fits) in rw test (rw none (append-nil (decimal n))))
    (split n 10)

joined : (xs ys zs : List ℕ) → xs ++ (ys ++ zs) ≡ (xs ++ ys) ++ zs
joined [] ys zs = refl
joined (x ∷ xs) ys zs = ap (λ l. x ∷ l) (joined xs ys zs)

pub four_joined : (ws xs ys zs : List ℕ) → ws ++ (xs ++ (ys ++ zs)) ≡ ws ++ xs ++ ys ++ zs
four_joined ws xs ys zs = joined ws xs (ys ++ zs) ∙ joined (ws ++ xs) ys zs

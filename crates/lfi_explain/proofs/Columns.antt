-- Numbers in columns.
use Rattle.std.proofs.Common.{◌≡◌, ◌∙◌, ◌^◌, refl, ℕ, zero, suc, [], ◌∷◌, ◌++◌, false, length, ap, arith}
use Rattle.std.specs.Prelude.{replicate, ◌-◌}
use Rattle.std.specs.List.{repeat}
use lib.Utf8.{encode}
use Rattle.std.specs.Fmt.{char_count, digits, format_spec, padded_integral}
use Rattle.std.proofs.lemmas.List.{append-nil}

-- what is written of a number with zeros before it, up to a width
pub zeros : (width n : ℕ) → padded_integral (format_spec 32 0 4 width (2 ^ 64 - 1)) false [] (digits 16 false n)
    ≡ replicate (width - length (digits 16 false n)) 48 ++ digits 16 false n
unfolding padded_integral char_count
zeros width n =
    let ds = digits 16 false n in
    let none : width - length ds - 0 - 0 ≡ width - length ds = omega arith in
    ap (λ k. replicate k 48 ++ (ds ++ [])) none ∙ ap (λ l. replicate (width - length ds) 48 ++ l) (append-nil ds)

spaces_of : (n : ℕ) → repeat {A = ℕ} n (32 ∷ []) ≡ replicate n 32
spaces_of zero = refl
spaces_of (suc n) = ap (λ l. 32 ∷ l) (spaces_of n)

-- what is written of a number with spaces before it
pub spaces : (width n : ℕ) → padded_integral (format_spec 32 3 0 width (2 ^ 64 - 1)) false [] (digits 10 false n)
    ≡ replicate (width - length (digits 10 false n)) 32 ++ digits 10 false n
unfolding padded_integral char_count encode
spaces width n =
    let ds = digits 10 false n in
    let padding = width - length ds in
    let none : padding - 0 - 0 ≡ padding = omega arith in
    let rest : padding - padding ≡ 0 = omega arith in
    let r = replicate padding 32 in
    let alone : r ++ [] ++ [] ++ [] ≡ r = append-nil (r ++ [] ++ []) ∙ append-nil (r ++ []) ∙ append-nil r in
    rw (none, rest) (ap (λ l. l ++ [] ++ [] ++ [] ++ (ds ++ [])) (spaces_of padding) ∙ ap (λ l. l ++ (ds ++ [])) alone ∙ ap (λ l. r ++ l) (append-nil ds))

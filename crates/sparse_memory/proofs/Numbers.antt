-- Numbers that bytes spell.
use Rattle.std.proofs.Common.{◌≡◌, ℕ, zero, suc, ◌+◌, ◌-◌, ◌*◌, ◌^◌, ◌<◌, ◌≤◌, refl, ap, ap₂, ◌∙◌, arith, sub-one}
use Rattle.std.proofs.Math.Nat.{pow-suc, pow-le-pow_right}
use Rattle.a64_word.specs.Bytes.{number_at}

pub same_numbers : (f g : ℕ → ℕ) (bytes a b : ℕ) → ((k : ℕ) → k < bytes → f (a + k) ≡ g (b + k)) → number_at f bytes a ≡ number_at g bytes b
same_numbers f g zero a b h = refl
same_numbers f g (suc bytes) a b h =
    let e : a ≡ a + 0 = omega arith in
    let e' : b + 0 ≡ b = omega arith in
    let first : f a ≡ g b = ap f e ∙ h 0 (omega arith) ∙ ap g e' in
    let rest = same_numbers f g bytes (a + 1) (b + 1)
    (λ k l. let p : a + 1 + k ≡ a + (k + 1) = omega arith in let q : b + (k + 1) ≡ b + 1 + k = omega arith in ap f p ∙ h (k + 1) (omega arith) ∙ ap g q) in
    ap₂ (λ x y. x + 256 * y) first rest

pub power_bound : (k : ℕ) → k ≤ 7 → 256 ^ k ≤ 2 ^ 56
power_bound k h = let p : 0 < 256 = omega arith in pow-le-pow_right p h

pub power_step : (k : ℕ) → 0 < k → 256 ^ k ≡ 256 * 256 ^ (k - 1)
power_step zero h = absurd (omega arith)
power_step (suc k) h = rw (sub-one) (simp pow-suc (omega arith))

-- Of the same bytes there is one verdict, and one way to tell it.
use Rattle.std.proofs.Common.{◌≡◌, ℕ, ◌<◌, ◌≤◌, ◌⊎◌, inl, inr, List, length, Some, sym, ap, ◌∙◌, arith}
use Rattle.a64_word.specs.Words.{words_of}
use Rattle.lfi_module.specs.declared.profile.Profile.{Profile}
use Rattle.lfi_rules.specs.declared.fault.Fault.{Fault}
use Rattle.lfi_rules.specs.Faults.{Breaks, IsLeast}
use Rattle.lfi_rules.specs.Rules.{rule_number}
use Rattle.lfi_check.specs.Checking.{Checks}
use Rattle.lfi_check.specs.declared.verdict.Verdict.{Verdict}
use Rattle.lfi_check.specs.declared.verdict.Verdict.TheVariants.{Lawful, Refused, BadLength}
use Rattle.lfi_verifier.specs.declared.fault.LfiFault.{LfiFault}
use Rattle.lfi_verifier.specs.Faults.{fault_told}
use Rattle.lfi_verifier.specs.Verdicts.{Tells}

abbrev numbers : ℕ → ℕ → LfiFault
numbers word rule = record { word = word; rule = rule }

-- two first faults have the same numbers
below : (a b : ℕ) → (P Q : Type 0) → (a < b) ⊎ P → (b < a) ⊎ Q → (P → a ≡ b) → (Q → b ≡ a) → a ≡ b
below a b P Q (inl l) (inl m) p q = absurd (omega (arith, l, m))
below a b P Q (inl l) (inr m) p q = sym (q m)
below a b P Q (inr l) m p q = p l

at_most : (a b m n : ℕ) → (a < b) ⊎ ((a ≡ b) × (m ≤ n)) → (b < a) ⊎ ((b ≡ a) × (n ≤ m)) → m ≡ n
at_most a b m n (inl l) (inl k) = absurd (omega (arith, l, k))
at_most a b m n (inl l) (inr k) = let e = k.0 in absurd (omega (arith, l, e))
at_most a b m n (inr l) (inl k) = let e = l.0 in absurd (omega (arith, k, e))
at_most a b m n (inr l) (inr k) = let low = l.1 in let high = k.1 in omega (arith, low, high)

same_fault : (p : Profile) (ws : List ℕ) (n : ℕ) (a b : Fault) → IsLeast (Breaks p ws n) a → IsLeast (Breaks p ws n) b → fault_told (Some a) ≡ fault_told (Some b)
same_fault p ws n a b ha hb =
    let before = ha.least b.word b.rule hb.breaks in
    let after = hb.least a.word a.rule ha.breaks in
    let words : a.word ≡ b.word = below a.word b.word _ _ before after (λ h. h.0) (λ h. h.0) in
    let rules : rule_number a.rule ≡ rule_number b.rule = at_most a.word b.word (rule_number a.rule) (rule_number b.rule) before after in
    ap (λ x. numbers x (rule_number a.rule)) words ∙ ap (λ x. numbers b.word x) rules

-- two verdicts on the same bytes are told alike
pub one : (p : Profile) (bytes : List ℕ) (a b : Verdict) (m n : ℕ) (f g : LfiFault) → Checks p bytes a → Checks p bytes b → Tells a m f → Tells b n g → (m ≡ n) × (f ≡ g)
one p bytes (Lawful w) (Lawful v) m n f g ca cb ta tb = (ta.0 ∙ sym tb.0, ta.1 ∙ sym tb.1)
one p bytes (Lawful w) (Refused y) m n f g ca cb ta tb = absurd (ca.2 y.word y.rule cb.1.breaks)
one p bytes (Lawful w) BadLength m n f g ca cb ta tb = absurd (cb ca.0)
one p bytes (Refused x) (Lawful v) m n f g ca cb ta tb = absurd (cb.2 x.word x.rule ca.1.breaks)
one p bytes (Refused x) (Refused y) m n f g ca cb ta tb =
    (ta.0 ∙ sym tb.0, ta.1 ∙ same_fault p (words_of bytes) (length (words_of bytes)) x y ca.1 cb.1 ∙ sym tb.1)
one p bytes (Refused x) BadLength m n f g ca cb ta tb = absurd (cb ca.0)
one p bytes BadLength (Lawful v) m n f g ca cb ta tb = absurd (ca cb.0)
one p bytes BadLength (Refused y) m n f g ca cb ta tb = absurd (ca cb.0)
one p bytes BadLength BadLength m n f g ca cb ta tb = (ta.0 ∙ sym tb.0, ta.1 ∙ sym tb.1)

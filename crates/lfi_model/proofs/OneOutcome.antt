-- The items of a module come to one outcome, and one longest beginning of their pages.
use Rattle.std.proofs.Common.{◌≡◌, ℕ, ◌<◌, ◌≤◌, ◌==◌, ◌⊎◌, inl, inr, List, [], ◌∷◌, ◌++◌, length, Option, Some, None, refl, sym, ap, subst, ◌∙◌, arith, if◌then◌else◌}
use Rattle.lfi_module.specs.Extents.{ExtentView}
use Rattle.lfi_module.specs.declared.profile.Profile.{Profile}
use Rattle.lfi_rules.specs.declared.fault.Fault.{Fault}
use Rattle.lfi_rules.specs.declared.rule.Rule.{Rule}
use Rattle.lfi_rules.specs.declared.rule.Rule.TheVariants.{Spelled, AccessConfined, BaseKept, AddressGuarded, LinkGuarded, OffsetNarrow, StackBounded, TargetInside, BranchBounded, NeedMet}
use Rattle.lfi_rules.specs.Faults.{Breaks, FirstFault, IsLeast}
use Rattle.lfi_rules.specs.Rules.{rule_number}
use Rattle.lfi_rules.specs.Verdicts.{all_words}
use Rattle.lfi_model.specs.Item.{ItemView}
use Rattle.lfi_model.specs.declared.outcome.Outcome.{Outcome}
use Rattle.lfi_model.specs.Outcomes.{Load, IsOutcome, Placed, by_end, pages_of}

-- the rule with a number, 1 to 10
abbrev rule_at : ℕ → Rule
rule_at k =
    if k == 1 then Spelled else (if k == 2 then AccessConfined else (if k == 3 then BaseKept else
    (if k == 4 then AddressGuarded else (if k == 5 then LinkGuarded else (if k == 6 then OffsetNarrow else
    (if k == 7 then StackBounded else (if k == 8 then TargetInside else (if k == 9 then BranchBounded else NeedMet))))))))

rule_back : (r : Rule) → rule_at (rule_number r) ≡ r
rule_back Spelled = refl
rule_back AccessConfined = refl
rule_back BaseKept = refl
rule_back AddressGuarded = refl
rule_back LinkGuarded = refl
rule_back OffsetNarrow = refl
rule_back StackBounded = refl
rule_back TargetInside = refl
rule_back BranchBounded = refl
rule_back NeedMet = refl

same_rule : (a b : Rule) → rule_number a ≡ rule_number b → a ≡ b
same_rule a b e = sym (rule_back a) ∙ ap rule_at e ∙ rule_back b

abbrev fault_at : ℕ → Rule → Fault
fault_at word rule = record { word = word; rule = rule }

below : (a b : ℕ) → (P Q : Type 0) → (a < b) ⊎ P → (b < a) ⊎ Q → (P → a ≡ b) → (Q → b ≡ a) → a ≡ b
below a b P Q (inl l) (inl m) p q = absurd (omega (arith, l, m))
below a b P Q (inl l) (inr m) p q = sym (q m)
below a b P Q (inr l) m p q = p l

at_most : (a b m n : ℕ) → (a < b) ⊎ ((a ≡ b) × (m ≤ n)) → (b < a) ⊎ ((b ≡ a) × (n ≤ m)) → m ≡ n
at_most a b m n (inl l) (inl k) = absurd (omega (arith, l, k))
at_most a b m n (inl l) (inr k) = let e = k.0 in absurd (omega (arith, l, e))
at_most a b m n (inr l) (inl k) = let e = l.0 in absurd (omega (arith, k, e))
at_most a b m n (inr l) (inr k) = let low = l.1 in let high = k.1 in omega (arith, low, high)

same_fault : (p : Profile) (ws : List ℕ) (n : ℕ) (a b : Fault) → IsLeast (Breaks p ws n) a → IsLeast (Breaks p ws n) b → a ≡ b
same_fault p ws n a b ha hb =
    let before = ha.least b.word b.rule hb.breaks in
    let after = hb.least a.word a.rule ha.breaks in
    let words : a.word ≡ b.word = below a.word b.word _ _ before after (λ h. h.0) (λ h. h.0) in
    let rules : a.rule ≡ b.rule = same_rule a.rule b.rule (at_most a.word b.word (rule_number a.rule) (rule_number b.rule) before after) in
    ap (λ x. fault_at x a.rule) words ∙ ap (λ x. fault_at b.word x) rules

-- words have one first fault
one_fault : (p : Profile) (ws : List ℕ) (n : ℕ) (f g : Option Fault) → FirstFault p ws n f → FirstFault p ws n g → f ≡ g
one_fault p ws n None None hf hg = refl
one_fault p ws n None (Some g) hf hg = absurd (hf g.word g.rule hg.breaks)
one_fault p ws n (Some f) None hf hg = absurd (hg f.word f.rule hf.breaks)
one_fault p ws n (Some f) (Some g) hf hg = ap Some (same_fault p ws n f g hf hg)

one_by : (e : ExtentView) (items : List ItemView) (f : Option Fault) (a b : Outcome) → IsOutcome e items f a → IsOutcome e items f b → a ≡ b
one_by e items (Some fault) a b ha hb = ha ∙ sym hb
one_by e items None a b ha hb =
    let reasons : Some ha.0 ≡ Some hb.0 = sym ha.1 ∙ hb.1 in
    let same : ha.0 ≡ hb.0 = cc in
    ha.2 ∙ ap (λ r. by_end e items r) same ∙ sym hb.2

-- a module's items have one outcome
pub one_outcome : (e : ExtentView) (items : List ItemView) (a b : Outcome) → Load e items a → Load e items b → a ≡ b
one_outcome e [] a b ha hb = ha ∙ sym hb
one_outcome e (item ∷ items) a b ha hb =
    let faults : ha.0 ≡ hb.0 = one_fault e.profile (all_words (pages_of (item ∷ items))) e.words ha.0 hb.0 ha.1 hb.1 in
    one_by e (item ∷ items) hb.0 a b (subst (λ f. IsOutcome e (item ∷ items) f a) faults ha.2) hb.2

same_beginning : {A : Type 0} (us vs rest more : List A) → length us ≡ length vs → us ++ rest ≡ vs ++ more → us ≡ vs
same_beginning [] [] rest more l e = refl
same_beginning [] (v ∷ vs) rest more l e = absurd (omega (arith, l))
same_beginning (u ∷ us) [] rest more l e = absurd (omega (arith, l))
same_beginning (u ∷ us) (v ∷ vs) rest more l e =
    let same : u ≡ v = cc in
    let tails : us ++ rest ≡ vs ++ more = cc in
    let later : us ≡ vs = same_beginning us vs rest more (omega (arith, l)) tails in cc

-- pages have one longest beginning without a fault
pub one_beginning : (e : ExtentView) (pages us vs : List (List ℕ)) → Placed e pages us → Placed e pages vs → us ≡ vs
one_beginning e pages us vs a b =
    let fewer = a.longest vs b.beginning b.lawful in
    let more = b.longest us a.beginning a.lawful in
    same_beginning us vs a.beginning.0 b.beginning.0 (omega (arith, fewer, more)) (sym a.beginning.1 ∙ b.beginning.1)

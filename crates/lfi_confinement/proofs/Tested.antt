-- Words of known instructions are lawful where these pass the tests of the rules, one after another.
use Rattle.std.proofs.Common.{◌≡◌, ℕ, zero, suc, ◌+◌, ◌^◌, ◌<◌, ◌≤◌, Bool, true, false, ◌&&◌, List, [], ◌∷◌, length, Some, None, refl, sym, ap, ◌∙◌, subst, arith, ltb, ltb-true, slice_get}
use Rattle.std.proofs.lemmas.Bool.{and_parts}
use Rattle.a64_word.specs.declared.fields.Field.{Field}
use Rattle.a64_word.specs.declared.instruction.Instruction.{Instruction}
use Rattle.a64_word.specs.Fields.{AllFit, sum_of}
use Rattle.a64_word.specs.Encoding.{fields, IsLegal}
use Rattle.a64_word.specs.Profiles.{is_of, SpellsIn}
use Rattle.lfi_module.specs.declared.profile.Profile.TheVariants.{One}
use Rattle.a64_word.proofs.Same.{Spells-same}
use Rattle.lfi_rules.specs.declared.needs.Need.{Need}
use Rattle.lfi_rules.specs.declared.needs.Need.TheVariants.{Nothing, Call, Guard, Probe}
use Rattle.lfi_rules.specs.Needs.{opens_of, meets_of, term_of}
use Rattle.lfi_rules.specs.declared.rule.Rule.{Rule}
use Rattle.lfi_rules.specs.declared.rule.Rule.TheVariants as rules
use Rattle.lfi_rules.specs.Rules.{keeps}
use Rattle.lfi_rules.specs.Faults.{Opens, opens_by, opens_nothing, Meets, meets_by, by_itself, unmet, Breaks, inside, left_open, FirstFault}
use Rattle.lfi_rules.proofs.Broken.{opens_term}

-- ---- words

abbrev pub fits : List Field → Bool
fits [] = true
fits (f ∷ fs) = ltb f.value (2 ^ f.width) && fits fs

fits_all : (fs : List Field) → fits fs ≡ true → AllFit fs
fits_all [] h = tt
fits_all (f ∷ fs) h = let p = and_parts (ltb f.value (2 ^ f.width)) (fits fs) h in (ltb-true f.value (2 ^ f.width) p.0, fits_all fs p.1)

pub spelled : (i : Instruction) (word : ℕ) → IsLegal i → fits (fields i) ≡ true → word ≡ sum_of (fields i) → is_of One i ≡ true → SpellsIn One i word
spelled i word legal h e one = record { spells = record { legal = legal; word_of = record { in_range = fits_all (fields i) h; sum = e } }; of_profile = one }

-- the instructions spell the words, one each
abbrev pub AllSpell : List Instruction → List ℕ → Type 0
AllSpell [] [] = Unit {0}
AllSpell (i ∷ is) (word ∷ words) = SpellsIn One i word × AllSpell is words
AllSpell is words = ⊥

record At (is : List Instruction) (k word : ℕ) : Type 0 where
  i : Instruction
  at : slice_get is k ≡ Some i
  spells : SpellsIn One i word

at_place : (is : List Instruction) (ws : List ℕ) (k word : ℕ) → AllSpell is ws → slice_get ws k ≡ Some word → At is k word
at_place [] [] k word s h = cc
at_place (i ∷ is) (w ∷ ws) zero word s h = let e : w ≡ word = cc in record { i = i; at = refl; spells = subst (SpellsIn One i) e s.0 }
at_place (i ∷ is) (w ∷ ws) (suc k) word s h = let a = at_place is ws k word s.1 h in record { i = a.i; at = a.at; spells = a.spells }
at_place [] (w ∷ ws) k word s h = absurd s
at_place (i ∷ is) [] k word s h = absurd s

length_same : (is : List Instruction) (ws : List ℕ) → AllSpell is ws → length is ≡ length ws
length_same [] [] s = refl
length_same (i ∷ is) (w ∷ ws) s = ap suc (length_same is ws s.1)
length_same [] (w ∷ ws) s = absurd s
length_same (i ∷ is) [] s = absurd s

-- ---- tests

abbrev pub keeps_rules : Instruction → (k n : ℕ) → Bool
keeps_rules i k n =
    keeps i k n rules.AccessConfined && keeps i k n rules.BaseKept && keeps i k n rules.AddressGuarded && keeps i k n rules.LinkGuarded
    && keeps i k n rules.OffsetNarrow && keeps i k n rules.StackBounded && keeps i k n rules.TargetInside && keeps i k n rules.BranchBounded

record Kept (i : Instruction) (k n : ℕ) : Type 0 where
  each : (rule : Rule) → keeps i k n rule ≡ true

keeps_each : (i : Instruction) (k n : ℕ) → keeps_rules i k n ≡ true → Kept i k n
keeps_each i k n h =
    let a = and_parts (keeps i k n rules.AccessConfined && keeps i k n rules.BaseKept && keeps i k n rules.AddressGuarded && keeps i k n rules.LinkGuarded
    && keeps i k n rules.OffsetNarrow && keeps i k n rules.StackBounded && keeps i k n rules.TargetInside) (keeps i k n rules.BranchBounded) h in
    let b = and_parts (keeps i k n rules.AccessConfined && keeps i k n rules.BaseKept && keeps i k n rules.AddressGuarded && keeps i k n rules.LinkGuarded
    && keeps i k n rules.OffsetNarrow && keeps i k n rules.StackBounded) (keeps i k n rules.TargetInside) a.0 in
    let c = and_parts (keeps i k n rules.AccessConfined && keeps i k n rules.BaseKept && keeps i k n rules.AddressGuarded && keeps i k n rules.LinkGuarded
    && keeps i k n rules.OffsetNarrow) (keeps i k n rules.StackBounded) b.0 in
    let d = and_parts (keeps i k n rules.AccessConfined && keeps i k n rules.BaseKept && keeps i k n rules.AddressGuarded && keeps i k n rules.LinkGuarded) (keeps i k n rules.OffsetNarrow) c.0 in
    let e = and_parts (keeps i k n rules.AccessConfined && keeps i k n rules.BaseKept && keeps i k n rules.AddressGuarded) (keeps i k n rules.LinkGuarded) d.0 in
    let f = and_parts (keeps i k n rules.AccessConfined && keeps i k n rules.BaseKept) (keeps i k n rules.AddressGuarded) e.0 in
    let g = and_parts (keeps i k n rules.AccessConfined) (keeps i k n rules.BaseKept) f.0 in
    record { each = by_rule a.1 b.1 c.1 d.1 e.1 f.1 g.1 g.0 }
  where
    by_rule : keeps i k n rules.BranchBounded ≡ true → keeps i k n rules.TargetInside ≡ true → keeps i k n rules.StackBounded ≡ true → keeps i k n rules.OffsetNarrow ≡ true
        → keeps i k n rules.LinkGuarded ≡ true → keeps i k n rules.AddressGuarded ≡ true → keeps i k n rules.BaseKept ≡ true → keeps i k n rules.AccessConfined ≡ true
        → (rule : Rule) → keeps i k n rule ≡ true
    by_rule a b c d e f g m rules.Spelled = refl
    by_rule a b c d e f g m rules.AccessConfined = m
    by_rule a b c d e f g m rules.BaseKept = g
    by_rule a b c d e f g m rules.AddressGuarded = f
    by_rule a b c d e f g m rules.LinkGuarded = e
    by_rule a b c d e f g m rules.OffsetNarrow = d
    by_rule a b c d e f g m rules.StackBounded = c
    by_rule a b c d e f g m rules.TargetInside = b
    by_rule a b c d e f g m rules.BranchBounded = a
    by_rule a b c d e f g m rules.NeedMet = refl

abbrev pub is_nothing : Need → Bool
is_nothing Nothing = true
is_nothing need = false

nothing_is : (need : Need) → is_nothing need ≡ true → need ≡ Nothing
nothing_is Nothing h = refl
nothing_is Call h = cc
nothing_is Guard h = cc
nothing_is (Probe count) h = cc

-- what comes next meets a need
abbrev pub follows : Need → List Instruction → Bool
follows need [] = is_nothing need
follows need (i ∷ is) = meets_of i need

-- instructions at the places from k on, the last of them at the end of a module of n words
abbrev pub passes : List Instruction → (k n : ℕ) → Bool
passes [] k n = true
passes (i ∷ is) k n = keeps_rules i k n && follows (opens_of One i) is && passes is (k + 1) n

record Passes (i : Instruction) (is : List Instruction) (k n : ℕ) : Type 0 where
  kept : keeps_rules i k n ≡ true
  followed : follows (opens_of One i) is ≡ true
  rest : passes is (k + 1) n ≡ true

passes_parts : (i : Instruction) (is : List Instruction) (k n : ℕ) → passes (i ∷ is) k n ≡ true → Passes i is k n
passes_parts i is k n h =
    let a = and_parts (keeps_rules i k n && follows (opens_of One i) is) (passes is (k + 1) n) h in
    let b = and_parts (keeps_rules i k n) (follows (opens_of One i) is) a.0 in
    record { kept = b.0; followed = b.1; rest = a.1 }

kept_at : (is : List Instruction) (first n j k : ℕ) (i : Instruction) → passes is first n ≡ true → slice_get is j ≡ Some i → k ≡ first + j → Kept i k n
kept_at [] first n j k i h g e = cc
kept_at (x ∷ is) first n zero k i h g e =
    let p = passes_parts x is first n h in
    let same : x ≡ i = cc in
    let place : k ≡ first = omega arith in
    subst (λ y. Kept y k n) same (subst (λ q. Kept x q n) (sym place) (keeps_each x first n p.kept))
kept_at (x ∷ is) first n (suc j) k i h g e =
    let p = passes_parts x is first n h in
    kept_at is (first + 1) n j k i p.rest g (omega arith)

met_at : (is : List Instruction) (first n j : ℕ) (i next : Instruction) → passes is first n ≡ true → slice_get is j ≡ Some i → slice_get is (suc j) ≡ Some next → meets_of next (opens_of One i) ≡ true
met_at [] first n j i next h g e = cc
met_at (x ∷ []) first n zero i next h g e = cc
met_at (x ∷ (y ∷ is)) first n zero i next h g e =
    let p = passes_parts x (y ∷ is) first n h in
    let same : x ≡ i = cc in
    let same_next : y ≡ next = cc in
    subst (λ z. meets_of next (opens_of One z) ≡ true) same (subst (λ z. meets_of z (opens_of One x) ≡ true) same_next p.followed)
met_at (x ∷ is) first n (suc j) i next h g e =
    let p = passes_parts x is first n h in met_at is (first + 1) n j i next p.rest g e

closed_at : (is : List Instruction) (first n j : ℕ) (i : Instruction) → passes is first n ≡ true → slice_get is j ≡ Some i → suc j ≡ length is → opens_of One i ≡ Nothing
closed_at [] first n j i h g e = cc
closed_at (x ∷ []) first n zero i h g e =
    let p = passes_parts x [] first n h in
    let same : x ≡ i = cc in
    subst (λ z. opens_of One z ≡ Nothing) same (nothing_is (opens_of One x) p.followed)
closed_at (x ∷ (y ∷ is)) first n zero i h g e = absurd (omega arith)
closed_at (x ∷ is) first n (suc j) i h g e =
    let p = passes_parts x is first n h in closed_at is (first + 1) n j i p.rest g (omega arith)

-- ---- the words have no fault

unbroken : (is : List Instruction) (ws : List ℕ) (k : ℕ) (rule : Rule) → AllSpell is ws → passes is 0 (length ws) ≡ true → Breaks One ws (length ws) k rule → ⊥
unbroken is ws k rule s h (inside (by_itself j word e g refused)) =
    let a = at_place is ws j word s g in
    let kept = kept_at is 0 (length ws) j k a.i h a.at e in
    refused (record {
      spelled = λ _. (a.i, a.spells);
      kept = λ i t. subst (λ x. keeps x k (length ws) rule ≡ true) (Spells-same a.i i word a.spells.spells t.spells) (kept.each rule);
    })
unbroken is ws k rule s h (inside (unmet j d word need e f r due refused late)) =
    let a = at_place is ws j due.opening s due.at in
    let most : term_of need ≤ 1 = opens_term One due.opening need due.opens in
    let term : d < term_of need = due.term in
    let place : j + d + 1 ≡ suc j = omega arith in
    let next : slice_get ws (suc j) ≡ Some word = subst (λ q. slice_get ws q ≡ Some word) place f in
    let b = at_place is ws (suc j) word s next in
    let met = met_at is 0 (length ws) j a.i b.i h a.at b.at in
    by_opens due.opening word need a.i b.i a.spells b.spells met due.opens refused
  where
    by_opens : (before word : ℕ) (need : Need) (i next : Instruction) → SpellsIn One i before → SpellsIn One next word → meets_of next (opens_of One i) ≡ true → Opens One before need → (Meets One word need → ⊥) → ⊥
    by_opens before word need i next s t met (opens_by x u o) refused =
        refused (meets_by next t (subst (λ (z : Need). meets_of next z ≡ true) (ap (opens_of One) (Spells-same i x before s.spells u.spells) ∙ o) met))
    by_opens before word need i next s t met (opens_nothing none e) refused = none i s
unbroken is ws k rule s h (left_open j d need g e r due) =
    let most : term_of need ≤ 1 = opens_term One due.opening need due.opens in
    let term : d < term_of need = due.term in
    let place : j ≡ k = omega arith in
    let a = at_place is ws k due.opening s (subst (λ q. slice_get ws q ≡ Some due.opening) place due.at) in
    let last : suc k ≡ length is = omega (arith, length_same is ws s) in
    let closed = closed_at is 0 (length ws) k a.i h a.at last in
    let none : need ≡ Nothing = by_opens due.opening need a.i a.spells closed due.opens in
    let zero_term : term_of need ≡ 0 = ap term_of none in
    omega arith
  where
    by_opens : (word : ℕ) (need : Need) (i : Instruction) → SpellsIn One i word → opens_of One i ≡ Nothing → Opens One word need → need ≡ Nothing
    by_opens word need i s closed (opens_by x u o) = sym o ∙ sym (ap (opens_of One) (Spells-same i x word s.spells u.spells)) ∙ closed
    by_opens word need i s closed (opens_nothing none e) = e

pub faultless : (is : List Instruction) (ws : List ℕ) → AllSpell is ws → passes is 0 (length ws) ≡ true → FirstFault One ws (length ws) None
faultless is ws s h = λ k rule broken. unbroken is ws k rule s h broken

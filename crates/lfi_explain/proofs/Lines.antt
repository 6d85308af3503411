-- Lines written one after another.
use Rattle.std.proofs.Common.{rules, add-one, ◌≡◌, ℕ, zero, suc, ◌+◌, ◌≤◌, List, [], ◌∷◌, ◌++◌, length, Option, Some, None, Result, Ok, Err, refl, sym, ◌∙◌, ap, subst, arith}
use Rattle.std.specs.Prelude.{flat_map, OnOk, if◌then◌else◌}
use Rattle.std.specs.Io.KnownBytes.{Appends, Keeps, append_known}
use Rattle.std.proofs.KnownBytes.{Appends-kept, Appends-trans, Keeps-refl, append_known-grown}
use Rattle.std.proofs.lemmas.Grind.{flat_map-append}
use Rattle.std.proofs.lemmas.List.{length-append, append-nil, append_assoc}
use Rattle.lfi_module.specs.declared.profile.Profile.{Profile}
use Rattle.lfi_explain.specs.declared.explanation.Explanation.{Explanation}
use Rattle.lfi_explain.specs.declared.listing.ListedWord.{ListedWord}
use Rattle.lfi_explain.specs.declared.listing.Marks.{Marks}
use Rattle.lfi_explain.specs.Explanations.{AreTold, IsToldAt, one_or_none, mended_among}
use Rattle.lfi_explain.specs.Mendings.{is_mended}
use Rattle.lfi_explain.specs.Listings.{AreListed, IsListed}

pub appends_more : {X : Type 0} (line : X → List ℕ) (a b c : Option (List ℕ)) (before here : List X)
    → Appends a b (flat_map line before) → Appends b c (flat_map line here) → Appends a c (flat_map line (before ++ here))
appends_more line a b c before here p q =
    subst (λ bytes. Appends a c bytes) (sym (flat_map-append line before here)) (Appends-trans a b c (flat_map line before) (flat_map line here) p q)

-- what is told of one place more
pub told_more : (profile : Profile) (ws : List ℕ) (slot k : ℕ) (before : List Explanation) (here : Option Explanation) → AreTold profile ws slot k before → IsToldAt profile ws slot k here
    → AreTold profile ws slot (k + 1) (before ++ one_or_none here)
told_more profile ws slot k before here told at = rw add-one (before, here, told, at, refl)

pub listed_more : (marks : Marks) (profile : Profile) (ws : List ℕ) (slot k : ℕ) (before : List ListedWord) (here : ListedWord) → AreListed marks profile ws slot k before → IsListed marks profile ws slot k here
    → AreListed marks profile ws slot (k + 1) (before ++ here ∷ [])
listed_more marks profile ws slot k before here listed at = rw add-one (before, here, listed, at, refl)

pub one_at_most : (here : Option Explanation) → length (one_or_none here) ≤ 1
one_at_most (Some e) = search rules
one_at_most None = search rules

-- no more is told than there are places
pub told_count : (profile : Profile) (ws : List ℕ) (slot k : ℕ) (told : List Explanation) → AreTold profile ws slot k told → length told ≤ k
told_count profile ws slot zero told is = rw is (search rules)
told_count profile ws slot (suc k) told is =
    let here = is.1 in
    let before_count = told_count profile ws slot k is.0 is.2 in
    let here_count = one_at_most here in
    let same : length told ≡ length is.0 + length (one_or_none here) = ap length is.4 ∙ length-append is.0 (one_or_none here) in
    omega (arith, before_count, here_count, same)

-- of how many there is a mend, of one place more
pub mended_more : (before here : List Explanation) → mended_among (before ++ here) ≡ mended_among before + mended_among here
mended_more [] here = omega arith
mended_more (e ∷ before) here = let rest = mended_more before here in omega (arith, rest)

-- there is a mend of no more than are told
pub mended_count : (told : List Explanation) → mended_among told ≤ length told
mended_count [] = search rules
mended_count (e ∷ told) = let rest = mended_count told in let one = mended_once e in omega (arith, rest, one)
  where
    mended_once : (e : Explanation) → (if is_mended e.mend then 1 else 0) ≤ 1
    mended_once e = grind arith

pub one_line : {X : Type 0} (line : X → List ℕ) (a b : Option (List ℕ)) (x : X) → Appends a b (line x) → Appends a b (flat_map line (x ∷ []))
one_line line a b x p = subst (λ bytes. Appends a b bytes) (sym (append-nil (line x))) p

-- some bytes more are kept, and perhaps all written
pub kept_more : {X : Type 0} (line : X → List ℕ) (a b c : Option (List ℕ)) (kept more left : List ℕ) (before here : List X)
    → Appends a (append_known b kept) (flat_map line before) → Appends (Some kept) (Some more) (flat_map line here) → Keeps (append_known b more) (append_known c left)
    → Appends a (append_known c left) (flat_map line (before ++ here))
kept_more line a b c kept more left before here done one moved =
    let grown : Appends (append_known b kept) (append_known b more) (flat_map line here) = append_known-grown (append_known b kept) b kept more (flat_map line here) (Keeps-refl (append_known b kept)) one in
    Appends-kept a (append_known b more) (append_known c left) (flat_map line (before ++ here))
    (appends_more line a (append_known b kept) (append_known b more) before here done grown) moved

nothing_known : (b : Option (List ℕ)) (left : List ℕ) → left ≡ [] → append_known b left ≡ b
nothing_known None left none = refl
nothing_known (Some xs) left none = rw none (ap Some (append-nil xs))

-- nothing is kept any more
pub all_written : (a b c : Option (List ℕ)) (kept left bytes : List ℕ) → Appends a (append_known b kept) bytes → Keeps (append_known b kept) (append_known c left) → left ≡ [] → Appends a c bytes
all_written a b c kept left bytes done moved none =
    subst (λ o. Appends a o bytes) (nothing_known c left none) (Appends-kept a (append_known b kept) (append_known c left) bytes done moved)

-- one text more is kept
pub text_kept : (a b : Option (List ℕ)) (kept more bytes text : List ℕ) → Appends a (append_known b kept) bytes → Appends (Some kept) (Some more) text → Appends a (append_known b more) (bytes ++ text)
text_kept a b kept more bytes text done one =
    Appends-trans a (append_known b kept) (append_known b more) bytes text done (append_known-grown (append_known b kept) b kept more text (Keeps-refl (append_known b kept)) one)

pub then_three : (ws xs ys zs : List ℕ) → ws ++ (xs ++ ys ++ zs) ≡ ws ++ xs ++ ys ++ zs
then_three ws xs ys zs = sym (append_assoc ws (xs ++ ys) zs) ∙ ap (λ l. l ++ zs) (sym (append_assoc ws xs ys))

-- the same of a write that may fail
pub all_written_if : {A E : Type 0} (r : Result A E) (a b c : Option (List ℕ)) (kept left bytes : List ℕ) → Appends a (append_known b kept) bytes
    → OnOk r (Keeps (append_known b kept) (append_known c left)) → OnOk r (left ≡ []) → OnOk r (Appends a c bytes)
all_written_if (Ok x) a b c kept left bytes done moved none = all_written a b c kept left bytes done moved none
all_written_if (Err e) a b c kept left bytes done moved none = tt

pub on_ok : {A E : Type 0} (r : Result A E) (P Q : Type 0) → (P → Q) → OnOk r P → OnOk r Q
on_ok (Ok x) P Q f p = f p
on_ok (Err e) P Q f p = tt

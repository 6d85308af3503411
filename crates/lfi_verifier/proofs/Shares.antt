-- What is judged of the modules' whole pages after an event.
use Rattle.std.proofs.Common.{◌≡◌, ◌≢◌, ℕ, ◌+◌, ◌*◌, ◌%◌, ◌==◌, List, [], ◌∷◌, ◌++◌, length, refl, sym, ap, subst, ◌∙◌, inl, inr, arith, Bool, true, false, if◌then◌else◌, min}
use Rattle.std.proofs.lemmas.Bool.{eq-eqb}
use Rattle.std.proofs.lemmas.Bool.Decides.{eqb_tells}
use Rattle.std.proofs.lemmas.Grind.{flat_map-append}
use Rattle.std.proofs.lemmas.List.{append-nil}
use Rattle.lfi_module.specs.Extents.{ExtentView}
use Rattle.lfi_model.specs.Item.{ItemView}
use Rattle.lfi_model.specs.Items.{Share, with_item, with_stray, item_of}
use Rattle.lfi_model.specs.declared.connection.Progress.TheVariants.{Going, Ended}
use Rattle.lfi_model.specs.declared.item.ItemKind.TheVariants as item
use Rattle.lfi_model.specs.declared.item.Reason.{Reason}
use Rattle.lfi_stream.specs.Outcomes.{bytes_at, code_of, HasWholePages}
use Rattle.lfi_verifier.specs.declared.state.LfiState.{LfiState}
use Rattle.lfi_verifier.specs.States.{StandsFor}
use Rattle.lfi_verifier.specs.StreamVerdicts.{state_at, IsJudged}

by_true : {A : Type 0} (b : Bool) (s t : A) → b ≡ true → (if b then s else t) ≡ s
by_true true s t e = refl
by_true false s t e = absurd (cc)

by_false : {A : Type 0} (b : Bool) (s t : A) → b ≡ false → (if b then s else t) ≡ t
by_false false s t e = refl
by_false true s t e = absurd (cc)

-- a module's state is that of its whole pages, where it is open
abbrev pub IsShare : LfiState → Share → Type 0
IsShare state s = (extent : ExtentView) (pages : ℕ) → s.progress ≡ Going extent pages → IsJudged state extent pages s.items

abbrev pub Shares : List LfiState → (ℕ → Share) → Type 0
Shares states made = (m : ℕ) → IsShare (state_at states m) (made m)

-- and what came of an open one is whole pages
abbrev pub AreWhole : (ℕ → Share) → Type 0
AreWhole made = (m : ℕ) (extent : ExtentView) (pages : ℕ) → (made m).progress ≡ Going extent pages → HasWholePages extent pages (made m).items

-- nothing has changed
pub same_shares : (states : List LfiState) (made after : ℕ → Share) → ((m : ℕ) → after m ≡ made m) → Shares states made → Shares states after
same_shares states made after same h m = subst (λ s. IsShare (state_at states m) s) (sym (same m)) (h m)

-- one module has changed, or none
module _ (k : ℕ) (old new : List LfiState) (made after : ℕ → Share) (F : ℕ → Share → Share) (others : (m : ℕ) → m ≢ k → state_at new m ≡ state_at old m)
    (grows : (m : ℕ) → after m ≡ (if m == k then F m (made m) else made m)) (h : Shares old made) where
  pub own : after k ≡ F k (made k)
  own = grows k ∙ by_true (k == k) (F k (made k)) (made k) (eq-eqb k k refl)

  pub but : IsShare (state_at new k) (after k) → Shares new after
  but mine m = elim (eqb_tells m k) [
    | inl e ↦ subst (λ z. IsShare (state_at new z) (after z)) (sym e.1) mine
    | inr apart ↦
        let same : after m ≡ made m = grows m ∙ by_false (m == k) (F m (made m)) (made m) apart.0 in
        subst (λ z. IsShare z (after m)) (sym (others m apart.1)) (subst (λ s. IsShare (state_at old m) s) (sym same) (h m))
  ]

same_going : (a b : ExtentView) (p q : ℕ) → Going a p ≡ Going b q → (a ≡ b) × (p ≡ q)
same_going a b p q e = (cc, cc)

nothing : (l : List ℕ) → length l ≡ 0 → [] ≡ l
nothing [] e = refl
nothing (x ∷ l) e = absurd (omega arith)

-- a message is passed over
pub strayed : (k : ℕ) (states : List LfiState) (made after : ℕ → Share) → ((m : ℕ) → after m ≡ (if m == k then with_stray (made m) else made m)) → Shares states made → Shares states after
strayed k states made after grows h =
    but k states states made after (λ m s. with_stray s) (λ m apart. refl) grows h
    (subst (λ s. IsShare (state_at states k) s) (sym (own k states states made after (λ m s. with_stray s) (λ m apart. refl) grows h)) (h k))

-- a module opens
pub opened : (k : ℕ) (extent : ExtentView) (old new : List LfiState) (made after : ℕ → Share) → ((m : ℕ) → m ≢ k → state_at new m ≡ state_at old m) → StandsFor (state_at new k) extent.profile extent.words []
    → ((m : ℕ) → after m ≡ (if m == k then with_item (made m) (item_of m 0 extent item.Open) (Going extent 0) else made m)) → AreWhole after → Shares old made → Shares new after
opened k extent old new made after others stands grows whole h =
    let F : ℕ → Share → Share = (λ m s. with_item s (item_of m 0 extent item.Open) (Going extent 0)) in
    but k old new made after F others grows h (λ e p going.
    let is : Going extent 0 ≡ Going e p = sym (ap (λ s. s.progress) (own k old new made after F others grows h)) ∙ going in
    let parts = same_going extent e 0 p is in
    let pages = whole k e p going in
    let none : length (code_of (after k).items) ≡ 0 = (let size = subst (λ z. length (code_of (after k).items) ≡ 4 * min (e.pages * z) e.words) (sym parts.1) pages.size in omega (arith, size)) in
    record {
      whole = pages;
      stands = subst (λ l. StandsFor (state_at new k) e.profile e.words l) (nothing (code_of (after k).items) none) (subst (λ z. StandsFor (state_at new k) z.profile z.words []) parts.0 stands);
    })

-- a module has ended
pub ended : (k ordinal : ℕ) (extent : ExtentView) (reason : Reason) (states : List LfiState) (made after : ℕ → Share)
    → ((m : ℕ) → after m ≡ (if m == k then with_item (made m) (item_of m ordinal extent (item.End reason)) Ended else made m)) → Shares states made → Shares states after
ended k ordinal extent reason states made after grows h =
    let F : ℕ → Share → Share = (λ m s. with_item s (item_of m ordinal extent (item.End reason)) Ended) in
    but k states states made after F (λ m apart. refl) grows h (λ e p going.
    absurd (let is : Ended ≡ Going e p = sym (ap (λ s. s.progress) (own k states states made after F (λ m apart. refl) grows h)) ∙ going in cc))

-- the code with one more page
code_more : (items : List ItemView) (m ordinal : ℕ) (extent : ExtentView) (payload : List ℕ) → code_of (items ++ item_of m ordinal extent (item.Page payload) ∷ []) ≡ code_of items ++ payload
code_more items m ordinal extent payload = flat_map-append (λ i. bytes_at i.kind) items (item_of m ordinal extent (item.Page payload) ∷ []) ∙ ap (λ l. code_of items ++ l) (append-nil payload)

-- a page of a module is whole
pub page_ended : (k : ℕ) (extent : ExtentView) (pages : ℕ) (payload : List ℕ) (old new : List LfiState) (made after : ℕ → Share) → ((m : ℕ) → m ≢ k → state_at new m ≡ state_at old m)
    → (length (code_of (made k).items ++ payload) % 4 ≡ 0 → StandsFor (state_at new k) extent.profile extent.words (code_of (made k).items ++ payload))
    → ((m : ℕ) → after m ≡ (if m == k then with_item (made m) (item_of m (pages + 1) extent (item.Page payload)) (Going extent (pages + 1)) else made m)) → AreWhole after → Shares old made → Shares new after
page_ended k extent pages payload old new made after others stands grows whole h =
    let F : ℕ → Share → Share = (λ m s. with_item s (item_of m (pages + 1) extent (item.Page payload)) (Going extent (pages + 1))) in
    let mine : after k ≡ with_item (made k) (item_of k (pages + 1) extent (item.Page payload)) (Going extent (pages + 1)) =
    own k old new made after F others grows h in
    let code : code_of (after k).items ≡ code_of (made k).items ++ payload = ap (λ s. code_of s.items) mine ∙ code_more (made k).items k (pages + 1) extent payload in
    but k old new made after F others grows h (λ e p going.
    let is : Going extent (pages + 1) ≡ Going e p = sym (ap (λ s. s.progress) mine) ∙ going in
    let parts = same_going extent e (pages + 1) p is in
    let all = whole k e p going in
    let words : length (code_of (made k).items ++ payload) % 4 ≡ 0 = (let size = all.size in let same = ap length code in omega (arith, size, same)) in
    record {
      whole = all;
      stands = subst (λ l. StandsFor (state_at new k) e.profile e.words l) (sym code) (subst (λ z. StandsFor (state_at new k) z.profile z.words (code_of (made k).items ++ payload)) parts.0 (stands words));
    })

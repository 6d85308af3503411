-- The items and strays that an event tells are those by which the shares grow.
use Rattle.std.proofs.Common.{◌≡◌, ◌≢◌, ℕ, ◌+◌, ◌==◌, List, [], ◌∷◌, ◌++◌, refl, sym, ◌∙◌, ap, subst, inl, inr, Bool, true, false, cond, if◌then◌else◌}
use Rattle.std.proofs.lemmas.List.{append-nil}
use Rattle.std.proofs.lemmas.Bool.{eq-eqb}
use Rattle.std.proofs.lemmas.Bool.Decides.{eqb_tells}
use Rattle.lfi_model.specs.Item.{ItemView}
use Rattle.lfi_model.specs.declared.item.ItemKind.TheVariants as item
use Rattle.lfi_model.specs.declared.connection.Progress.{Progress}
use Rattle.lfi_model.specs.declared.connection.Progress.TheVariants.{Going, Ended}
use Rattle.lfi_model.specs.Items.{Share, with_item, with_stray, item_of}
use Rattle.lfi_model.specs.Modules.{of}
use Rattle.lfi_connection.specs.declared.event.Event.{Event}
use Rattle.lfi_connection.specs.declared.event.Event.TheVariants.{Nothing, Open, Begin, Code, Stray, End}
use Rattle.lfi_connection.specs.Events.{after_event, items_told}
use Rattle.lfi_connection.proofs.Growth.{by_true, by_false}

-- one item of module k
one_item : (k m : ℕ) (s : Share) (x : ItemView) (q : Progress) (y : ℕ → ItemView) → ((n : ℕ) → (y n).«module» ≡ n) → x ≡ y k → (if m == k then with_item s (y m) q else s).items ≡ s.items ++ of m (x ∷ [])
one_item k m s x q y number same = elim (eqb_tells m k) [
  | inl e ↦
      let is = e.1 in
      subst (λ z. (if z == k then with_item s (y z) q else s).items ≡ s.items ++ of z (x ∷ [])) (sym is)
      (ap (λ t. t.items) (by_true (k == k) (with_item s (y k) q) s (eq-eqb k k refl))
      ∙ ap (λ z. s.items ++ z ∷ []) (sym same)
      ∙ ap (λ b. s.items ++ cond b (x ∷ []) []) (sym (eq-eqb x.«module» k (ap (λ z. z.«module») same ∙ number k))))
  | inr n ↦
      ap (λ t. t.items) (by_false (m == k) (with_item s (y m) q) s n.0)
      ∙ sym (ap (λ b. s.items ++ cond b (x ∷ []) []) (apart x.«module» m (λ e. n.1 (sym e ∙ ap (λ z. z.«module») same ∙ number k))) ∙ append-nil s.items)
]
  where
    apart : (a b : ℕ) → a ≢ b → (a == b) ≡ false
    apart a b h = elim (eqb_tells a b) [ inl e ↦ absurd (h e.1) | inr n ↦ n.0 ]

no_item : (m : ℕ) (s : Share) → s.items ≡ s.items ++ of m []
no_item m s = sym (append-nil s.items)

stray_same : (b : Bool) (s : Share) → (if b then with_stray s else s).items ≡ s.items
stray_same true s = refl
stray_same false s = refl

-- what module m has got more is what the event tells of it
pub items_grow : (m : ℕ) (event : Event) (payload : List ℕ) (s : Share) → (after_event m event payload s).items ≡ s.items ++ of m (items_told event payload)
items_grow m Nothing payload s = no_item m s
items_grow m (Open k extent) payload s = one_item k m s (item_of k 0 extent item.Open) (Going extent 0) (λ n. item_of n 0 extent item.Open) (λ n. refl) refl
items_grow m (Begin page) payload s = no_item m s
items_grow m (Code page true) payload s =
    one_item page.«module» m s (item_of page.«module» (page.pages + 1) page.extent (item.Page payload)) (Going page.extent (page.pages + 1)) (λ n. item_of n (page.pages + 1) page.extent (item.Page payload)) (λ n. refl) refl
items_grow m (Code page false) payload s = no_item m s
items_grow m (Stray k) payload s = stray_same (m == k) s ∙ no_item m s
items_grow m (End k extent pages reason) payload s = one_item k m s (item_of k (pages + 1) extent (item.End reason)) Ended (λ n. item_of n (pages + 1) extent (item.End reason)) (λ n. refl) refl

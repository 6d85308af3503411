-- What one more message, or the header of a page, makes of the modules.
use Rattle.std.proofs.Common.{◌≡◌, ◌≢◌, ℕ, ◌+◌, ◌==◌, List, [], ◌∷◌, ◌++◌, length, refl, sym, ◌∙◌, ap, subst, inl, inr, ◌⊎◌, Bool, true, false, if◌then◌else◌}
use Rattle.std.specs.Prelude.{◌&&◌}
use Rattle.std.proofs.lemmas.Bool.{eq-eqb}
use Rattle.std.proofs.lemmas.Bool.Decides.{eqb_tells}
use Rattle.lfi_frame.specs.Streams.{Message, open_message, page_message, close_message, header_of, short, unfinished}
use Rattle.lfi_model.specs.declared.item.ItemKind.TheVariants.{End}
use Rattle.lfi_model.specs.declared.item.Reason.TheVariants.{PageFault}
use Rattle.lfi_model.specs.declared.connection.Progress.{Progress}
use Rattle.lfi_model.specs.declared.connection.Progress.TheVariants.{Unclaimed, Going, Ended}
use Rattle.lfi_model.specs.Items.{Share, after_message, after_header, item_of, with_item, with_stray}
use Rattle.lfi_module.specs.Extents.{ExtentView}
use Rattle.lfi_module.specs.Pages.{is_due}
use Rattle.lfi_model.proofs.Growing.{share_snoc}
use Rattle.lfi_connection.specs.Modules.{IsOver}
use Rattle.lfi_connection.specs.Connections.{made_of}

-- the page of this size, index and length is the one due of a module of which the first p pages came
abbrev pub next_by : ExtentView → (p size index len : ℕ) → Bool
next_by extent p size index len = size == extent.pages && is_due extent.pages extent.words p index len

pub by_true : {A : Type 0} (b : Bool) (s t : A) → b ≡ true → (if b then s else t) ≡ s
by_true true s t e = refl
by_true false s t e = absurd (cc)

pub by_false : {A : Type 0} (b : Bool) (s t : A) → b ≡ false → (if b then s else t) ≡ t
by_false false s t e = refl
by_false true s t e = absurd (cc)

pub both_same : {A : Type 0} (b : Bool) (s : A) → (if b then s else s) ≡ s
both_same true s = refl
both_same false s = refl

-- the module of a message
abbrev pub module_at : Message → ℕ
module_at message = (header_of message).«module»

-- a message is nothing to the other modules
share_other : (c : ℕ → Bool) (m : ℕ) (ms : List Message) (message : Message) → m ≢ module_at message → made_of c (ms ++ message ∷ []) short m ≡ made_of c ms short m
share_other c m ms message apart =
    elim (eqb_tells (module_at message) m) [
      | inl e ↦ absurd (apart (sym e.1))
      | inr n ↦ share_snoc (c m) m ms message ∙ by_false (module_at message == m) _ _ n.0
    ]

-- and one step to its own
share_own : (c : ℕ → Bool) (ms : List Message) (message : Message) → let k = module_at message in made_of c (ms ++ message ∷ []) short k ≡ after_message (c k) k (made_of c ms short k) (made_of c ms short k).progress message
share_own c ms message = share_snoc (c (module_at message)) (module_at message) ms message ∙ by_true (module_at message == module_at message) _ _ (eq-eqb (module_at message) (module_at message) refl)

pub message_grows : (c : ℕ → Bool) (ms : List Message) (message : Message) (F : ℕ → Share → Share)
    → (let k = module_at message in after_message (c k) k (made_of c ms short k) (made_of c ms short k).progress message ≡ F k (made_of c ms short k))
    → (m : ℕ) → made_of c (ms ++ message ∷ []) short m ≡ (if m == module_at message then F m (made_of c ms short m) else made_of c ms short m)
message_grows c ms message F does m = elim (eqb_tells m (module_at message)) [
  | inl e ↦
      let k = module_at message in
      let is = e.1 in
      subst (λ z. made_of c (ms ++ message ∷ []) short z ≡ (if z == k then F z (made_of c ms short z) else made_of c ms short z)) (sym is)
      (share_own c ms message ∙ does ∙ sym (by_true (k == k) (F k (made_of c ms short k)) (made_of c ms short k) (eq-eqb k k refl)))
  | inr n ↦ share_other c m ms message n.1 ∙ sym (by_false (m == module_at message) (F m (made_of c ms short m)) (made_of c ms short m) n.0)
]

-- the header of a page of module k, whose payload is to come
unfinished_other : (c : ℕ → Bool) (k m size index len : ℕ) (ms : List Message) → m ≢ k → made_of c ms (unfinished k size index len) m ≡ made_of c ms short m
unfinished_other c k m size index len ms apart = elim (eqb_tells k m) [
  | inl e ↦ absurd (apart (sym e.1))
  | inr n ↦ by_false (k == m) _ _ n.0
]

pub unfinished_own : (c : ℕ → Bool) (k size index len : ℕ) (ms : List Message) → made_of c ms (unfinished k size index len) k ≡ after_header k (made_of c ms short k) (made_of c ms short k).progress size index len
unfinished_own c k size index len ms = by_true (k == k) _ _ (eq-eqb k k refl)

pub header_grows : (c : ℕ → Bool) (ms : List Message) (k size index len : ℕ) (F : ℕ → Share → Share) → after_header k (made_of c ms short k) (made_of c ms short k).progress size index len ≡ F k (made_of c ms short k)
    → (m : ℕ) → made_of c ms (unfinished k size index len) m ≡ (if m == k then F m (made_of c ms short m) else made_of c ms short m)
header_grows c ms k size index len F does m = elim (eqb_tells m k) [
  | inl e ↦
      let is = e.1 in
      subst (λ z. made_of c ms (unfinished k size index len) z ≡ (if z == k then F z (made_of c ms short z) else made_of c ms short z)) (sym is)
      (unfinished_own c k size index len ms ∙ does ∙ sym (by_true (k == k) (F k (made_of c ms short k)) (made_of c ms short k) (eq-eqb k k refl)))
  | inr n ↦ unfinished_other c k m size index len ms n.1 ∙ sym (by_false (m == k) (F m (made_of c ms short m)) (made_of c ms short m) n.0)
]

-- how far a module is after it
pub moves : (b : Bool) (p q : Progress) (s t : Share) → p ≡ s.progress → t.progress ≡ q → (if b then q else p) ≡ (if b then t else s).progress
moves true p q s t was now = sym now
moves false p q s t was now = was

pub stays : (b : Bool) (p : Progress) (s t : Share) → p ≡ s.progress → t.progress ≡ s.progress → p ≡ (if b then t else s).progress
stays true p s t was now = was ∙ sym now
stays false p s t was now = was

-- a message that is passed over
pub open_stray : (b : Bool) (k : ℕ) (extent : ExtentView) (s : Share) (q : Progress) → (q ≡ Unclaimed → ⊥) → after_message b k s q (open_message k extent) ≡ with_stray s
open_stray b k extent s Unclaimed h = absurd (h refl)
open_stray b k extent s (Going other p) h = refl
open_stray b k extent s Ended h = refl

pub open_taken : (b : Bool) (k : ℕ) (extent : ExtentView) (s : Share) (q : Progress) → b ≡ false → after_message b k s q (open_message k extent) ≡ with_stray s
open_taken b k extent s Unclaimed h = by_false b _ _ h
open_taken b k extent s (Going other p) h = refl
open_taken b k extent s Ended h = refl

pub close_stray : (b : Bool) (k : ℕ) (s : Share) (q : Progress) → IsOver q → after_message b k s q (close_message k) ≡ with_stray s
close_stray b k s Unclaimed h = refl
close_stray b k s (Going extent p) h = absurd h
close_stray b k s Ended h = refl

pub header_stray : (k size index len : ℕ) (s : Share) (q : Progress) → IsOver q → after_header k s q size index len ≡ with_stray s
header_stray k size index len s Unclaimed h = refl
header_stray k size index len s (Going extent p) h = absurd h
header_stray k size index len s Ended h = refl

pub over_by : (q : Progress) → ((extent : ExtentView) (pages : ℕ) → q ≡ Going extent pages → ⊥) → IsOver q
over_by Unclaimed h = tt
over_by (Going extent p) h = absurd (h extent p refl)
over_by Ended h = tt

-- a page that is passed over has made what its header made
pub page_passed : (b : Bool) (k size index len : ℕ) (s : Share) (q : Progress) (payload : List ℕ) → s.progress ≡ q → length payload ≡ len → IsOver (after_header k s q size index len).progress
    → after_message b k s q (page_message k size index payload) ≡ after_header k s q size index len
page_passed b k size index len s Unclaimed payload is long over = refl
page_passed b k size index len s (Going extent p) payload is long over = elim (tells (next_by extent p size index len)) [
  | inl t ↦ absurd (subst IsOver is (subst (λ z. IsOver z.progress) (by_true (next_by extent p size index len) s (with_item s (item_of k (p + 1) extent (End (PageFault index))) Ended) t) over))
  | inr f ↦
      by_false (next_by extent p size index (length payload)) _ _ (ap (λ l. next_by extent p size index l) long ∙ f)
      ∙ sym (by_false (next_by extent p size index len) _ _ f)
]
  where
    tells : (b : Bool) → (b ≡ true) ⊎ (b ≡ false)
    tells true = inl refl
    tells false = inr refl
page_passed b k size index len s Ended payload is long over = refl

-- before its page's header a module that is open now was open just so
pub open_before : (k : ℕ) (extent : ExtentView) (p size index len : ℕ) (s : Share) (q : Progress) → s.progress ≡ q → (after_header k s q size index len).progress ≡ Going extent p → q ≡ Going extent p
open_before k extent p size index len s Unclaimed e h = absurd (cc)
open_before k extent p size index len s (Going extent' p') e h = by (next_by extent' p' size index len) h
  where
    by : (b : Bool) → (if b then s else with_item s (item_of k (p' + 1) extent' (End (PageFault index))) Ended).progress ≡ Going extent p → Going extent' p' ≡ Going extent p
    by true h = sym e ∙ h
    by false h = absurd (cc)
open_before k extent p size index len s Ended e h = absurd (cc)

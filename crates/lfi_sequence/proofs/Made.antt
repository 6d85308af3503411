-- What the claimer of a module made of it has come to its sequencer.
use Rattle.std.proofs.Common.{◌≡◌, ◌≢◌, ℕ, ◌<◌, ◌==◌, Bool, true, false, if◌then◌else◌, List, [], ◌∷◌, ◌++◌, Option, refl, sym, ◌∙◌, ap, subst, inl, inr}
use Rattle.std.specs.List.{filter, fold}
use Rattle.std.specs.List.Sorted.{IsPermutation}
use Rattle.std.proofs.lemmas.Bool.{cases_lt}
use Rattle.lfi_frame.specs.declared.fault.FrameFault.{FrameFault}
use Rattle.lfi_frame.specs.Streams.{Message, open_message, page_message, close_message, Rest, short, faulty, unfinished, whole, rest_of}
use Rattle.lfi_model.specs.Item.{ItemView}
use Rattle.lfi_model.specs.declared.connection.EndCause.{EndCause}
use Rattle.lfi_model.specs.declared.connection.Progress.TheVariants.{Unclaimed}
use Rattle.lfi_model.specs.Items.{Share, ItemsOf, after_message, after_header, after_rest, connection_fault, ends_of, is_of, items_of, nothing_yet, share_of, with_stray}
use Rattle.lfi_model.specs.Modules.{IsModule, of}
use Rattle.lfi_model.proofs.Numbered.{items_numbered}
use Rattle.lfi_sequence.specs.Come.{Come}
use Rattle.lfi_sequence.specs.Delivers.{Delivers, AreApart, Makes}
use Rattle.lfi_sequence.proofs.Chain.{arrives, nothing_arrives, permuted_come}

-- a module that isn't claimed stays so, and makes nothing
idle_step : (m : ℕ) (s : Share) (message : Message) → ((after_message false m s Unclaimed message).progress ≡ s.progress) × ((after_message false m s Unclaimed message).items ≡ s.items)
idle_step m s (open_message k extent) = (refl, refl)
idle_step m s (page_message k size index payload) = (refl, refl)
idle_step m s (close_message k) = (refl, refl)

abbrev fold_share : ℕ → List Message → Share → Share
fold_share m ms s = fold (λ t message. after_message false m t t.progress message) s ms

idle_fold : (m : ℕ) (ms : List Message) (s : Share) → s.progress ≡ Unclaimed → ((fold_share m ms s).progress ≡ Unclaimed) × ((fold_share m ms s).items ≡ s.items)
idle_fold m [] s e = (e, refl)
idle_fold m (message ∷ ms) s e =
    let one = idle_step m s message in
    let t : Share = after_message false m s s.progress message in
    let same : t ≡ after_message false m s Unclaimed message = ap (λ q. after_message false m s q message) e in
    let r = idle_fold m ms t (ap (λ z. z.progress) same ∙ one.0 ∙ e) in
    (r.0, r.1 ∙ ap (λ z. z.items) same ∙ one.1)

idle_rest : (m : ℕ) (s : Share) (rest : Rest) → s.progress ≡ Unclaimed → ((after_rest m s rest).progress ≡ Unclaimed) × ((after_rest m s rest).items ≡ s.items)
idle_rest m s short e = (e, refl)
idle_rest m s (faulty fault) e = (e, refl)
idle_rest m s whole e = (e, refl)
idle_rest m s (unfinished k size index len) e = by (k == m)
  where
    here : (after_header m s s.progress size index len) ≡ with_stray s
    here = ap (λ q. after_header m s q size index len) e

    by : (b : Bool) → ((if b then after_header m s s.progress size index len else s).progress ≡ Unclaimed) × ((if b then after_header m s s.progress size index len else s).items ≡ s.items)
    by true = (ap (λ z. z.progress) here ∙ e, ap (λ z. z.items) here)
    by false = (e, refl)

pub idle_items : (ms : List Message) (rest : List ℕ) (cause : EndCause) (claimed : ℕ → Bool) (m : ℕ) → claimed m ≡ false → items_of ms rest cause claimed m ≡ []
idle_items ms rest cause claimed m none =
    let s : Share = fold_share m (filter (is_of m) ms) nothing_yet in
    let p = idle_fold m (filter (is_of m) ms) nothing_yet refl in
    let r = idle_rest m s (rest_of rest) p.0 in
    ap (λ b. (share_of b m ms (rest_of rest)).items ++ ends_of m (share_of b m ms (rest_of rest)).progress (connection_fault ms rest cause claimed)) none
    ∙ (λ i. (r.1 ∙ p.1) i ++ ends_of m (r.0 i) (connection_fault ms rest cause claimed))

module _ (count : ℕ) (puts takes : ℕ → List ItemView) (lane_puts lane_takes : ℕ → ℕ → List ItemView) (texts : ℕ → List ℕ) (causes : ℕ → EndCause) (claimed : ℕ → ℕ → Bool) (items : ℕ → ℕ → List ItemView) (faults : ℕ → Option FrameFault) (strays : ℕ → ℕ)
    (all : Delivers puts takes lane_puts lane_takes) (makes : Makes count puts texts causes claimed items faults strays) (m : ℕ) (in_range : m < 16) where
  none_made : (d : ℕ) → d < count → claimed d m ≡ false → of m (puts d) ≡ []
  none_made d within none =
      let i : ItemsOf (texts d) (causes d) (claimed d) (items d) (faults d) (strays d) = makes.made d within in
      makes.put d within m in_range ∙ i.items_are m in_range ∙ idle_items i.messages i.rest (causes d) (claimed d) m none

  pub numbered : (c : ℕ) → c < count → IsModule (items c m)
  numbered c within =
      let i : ItemsOf (texts c) (causes c) (claimed c) (items c) (faults c) (strays c) = makes.made c within in
      subst (λ l. IsModule l) (sym (i.items_are m in_range)) (items_numbered i.messages i.rest (causes c) (claimed c) m)

  others : (c : ℕ) → AreApart count claimed → c < count → claimed c m ≡ true → (d : ℕ) → d ≢ c → of m (puts d) ≡ []
  others c apart within mine d other = elim (cases_lt d count) [
    | inl inside ↦ none_made d inside (by (claimed d m) refl inside)
    | inr outside ↦ ap (λ l. of m l) (makes.none d outside)
  ]
    where
      by : (b : Bool) → claimed d m ≡ b → d < count → claimed d m ≡ false
      by true e inside = absurd (other (apart d c m inside within in_range e mine))
      by false e inside = e

  pub all_made : (c : ℕ) → AreApart count claimed → c < count → claimed c m ≡ true → IsPermutation (items c m) (lane_takes m 0)
  all_made c apart within mine =
      subst (λ l. IsPermutation l (lane_takes m 0)) (makes.put c within m in_range) (arrives puts takes lane_puts lane_takes all m in_range c (others c apart within mine))

  pub made_come : (c : ℕ) → AreApart count claimed → c < count → claimed c m ≡ true → Come (lane_takes m 0) (items c m)
  made_come c apart within mine = permuted_come (items c m) (lane_takes m 0) (numbered c within) (all_made c apart within mine)

  pub nothing_made : ((c : ℕ) → c < count → claimed c m ≡ false) → (lane_takes m 0) ≡ []
  nothing_made none = nothing_arrives puts takes lane_puts lane_takes all m in_range (λ d. elim (cases_lt d count) [
    | inl inside ↦ none_made d inside (none d inside)
    | inr outside ↦ ap (λ l. of m l) (makes.none d outside)
  ])

-- An Open is without fault.
use Rattle.std.proofs.Common.{◌≡◌, ℕ, ◌<◌, ◌≤◌, Option, Some, None, ◌∙◌, ap, sym, subst, refl, inl, inr, arith}
use Rattle.std.specs.Prelude.{Bool, true, false, ◌||◌, ◌==◌, nat_lt, if◌then◌else◌}
use Rattle.std.proofs.lemmas.Bool.{lt-leb, le-ltb}
use Rattle.std.proofs.lemmas.Bool.Decides.{eqb_tells}
use Rattle.lfi_module.specs.Numbers.{module_count, most_words, small_page, large_page}
use Rattle.lfi_module.specs.Pages.{HasPages}
use Rattle.lfi_module.specs.declared.profile.Profile.{Profile}
use Rattle.lfi_module.specs.declared.profile.Profile.TheVariants.{One, Two}
use Rattle.lfi_module.specs.Extents.{ExtentView, IsExtent}
use Rattle.lfi_frame.specs.declared.fault.FrameFault.{FrameFault}
use Rattle.lfi_frame.specs.declared.fault.FrameFault.TheVariants.{Module, WordCount, Entry}
use Rattle.lfi_frame.specs.Streams.{open_message, IsMessage}

open_tests : Bool → Bool → Bool → Option FrameFault
open_tests a b c = if a then Some Module else if b then Some WordCount else if c then Some Entry else None

not_none : (n : ℕ) → 1 ≤ n → n ≤ most_words → (n == 0 || nat_lt most_words n) ≡ false
not_none n some few = elim (eqb_tells n 0) [
  | inl none ↦ (let is = none.1 in absurd (omega arith))
  | inr other ↦ ap (λ b. b || nat_lt most_words n) other.0 ∙ le-ltb most_words n few
]

open_of : (profile : Profile) (m words entry pages : ℕ) → m < module_count → 1 ≤ words → words ≤ most_words → entry < words → HasPages profile pages → IsMessage (open_message m (record { words = words; entry = entry; profile = profile; pages = pages }))
open_of One m words entry pages below some few inside (inl small) =
    let a = lt-leb module_count m below in
    let b = not_none words some few in
    let c = lt-leb words entry inside in
    let is : IsMessage (open_message m (record { words = words; entry = entry; profile = One; pages = small_page })) = record {
      faultless = λ i. (if a i then Some Module else if b i then Some WordCount else if c i then Some Entry else None);
      a_fits = omega arith;
      b_fits = omega arith;
      sizes = inl refl;
    } in
    subst (λ p. IsMessage (open_message m (record { words = words; entry = entry; profile = One; pages = p }))) (sym small) is
open_of One m words entry pages below some few inside (inr large) = absurd (let no : false ≡ true = large.0 in cc)
open_of Two m words entry pages below some few inside (inl small) =
    let a = lt-leb module_count m below in
    let b = not_none words some few in
    let c = lt-leb words entry inside in
    let is : IsMessage (open_message m (record { words = words; entry = entry; profile = Two; pages = small_page })) = record {
      faultless = λ i. (if a i then Some Module else if b i then Some WordCount else if c i then Some Entry else None);
      a_fits = omega arith;
      b_fits = omega arith;
      sizes = inl refl;
    } in
    subst (λ p. IsMessage (open_message m (record { words = words; entry = entry; profile = Two; pages = p }))) (sym small) is
open_of Two m words entry pages below some few inside (inr large) =
    let a = lt-leb module_count m below in
    let b = not_none words some few in
    let c = lt-leb words entry inside in
    let is : IsMessage (open_message m (record { words = words; entry = entry; profile = Two; pages = large_page })) = record {
      faultless = λ i. (if a i then Some Module else if b i then Some WordCount else if c i then Some Entry else None);
      a_fits = omega arith;
      b_fits = omega arith;
      sizes = inr (refl, refl);
    } in
    subst (λ p. IsMessage (open_message m (record { words = words; entry = entry; profile = Two; pages = p }))) (sym large.1) is

pub open_is_message : (m : ℕ) (extent : ExtentView) → m < module_count → IsExtent extent → IsMessage (open_message m extent)
open_is_message m extent below is = open_of extent.profile m extent.words extent.entry extent.pages below is.some is.most is.entry is.pages

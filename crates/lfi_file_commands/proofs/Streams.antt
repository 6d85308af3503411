-- A stream of modules, one module more.
use Rattle.std.proofs.Common.{◌≡◌, ◌∙◌, ℕ, zero, suc, ◌+◌, ◌<◌, List, [], ◌∷◌, ◌++◌, Option, Some, length, IfSome, length-append, take, map, slice_get, refl, sym, ap, subst, arith, append-nil, append_assoc}
use Rattle.std.proofs.KnownBytes.{Appends-trans}
use Rattle.std.proofs.lemmas.Option.{none-some, slice_get_within}
use Rattle.a64_word.specs.Words.{words_of}
use Rattle.lfi_module.specs.declared.profile.Profile.{Profile}
use Rattle.lfi_command_line.specs.declared.options.PackOptions.{PackOptions}
use Rattle.lfi_pack.specs.Heard.{IsStream, modules_from}
use Rattle.lfi_pack.specs.Packs.{IsPacked}
use Rattle.lfi_check.specs.Checking.{IsCode}
use Rattle.lfi_file_commands.specs.Packing.{AreModules, AreModulesOf, WritesStream}
use Rattle.lfi_file_commands.specs.inner.Whole.{WritesModule}
use Rattle.lfi_file_commands.proofs.Inputs.{grown}

stream_more : (profile : Profile) (pages number entry : ℕ) (files : List (List ℕ)) (code text more : List ℕ) → IsStream (modules_from profile pages number entry files) text
    → IsPacked (number + length files) (record { words = length (words_of code); entry = entry; profile = profile; pages = pages }) code more → IsStream (modules_from profile pages number entry (files ++ code ∷ [])) (text ++ more)
stream_more profile pages number entry [] code text more is packed =
    let same : number + 0 ≡ number = omega arith in
    (more, [], ap (λ t. t ++ more) is ∙ sym (append-nil more), subst (λ n. IsPacked n (record { words = length (words_of code); entry = entry; profile = profile; pages = pages }) code more) same packed, refl)
stream_more profile pages number entry (x ∷ files) code text more is packed =
    let first = is.0 in
    let rest = is.1 in
    let same : number + length (x ∷ files) ≡ number + 1 + length files = omega arith in (
      first,
      rest ++ more,
      ap (λ t. t ++ more) is.2 ∙ append_assoc first rest more,
      is.3,
      stream_more profile pages (number + 1) entry files code rest more is.4 (subst (λ n. IsPacked n (record { words = length (words_of code); entry = entry; profile = profile; pages = pages }) code more) same packed),
    )

some_same : {A : Type 0} (a b : A) → Some a ≡ Some b → a ≡ b
some_same a b e = cc

-- the first files, one more
taken_next : {A : Type 0} (xs : List A) (k : ℕ) (x : A) → slice_get xs k ≡ Some x → take (suc k) xs ≡ take k xs ++ x ∷ []
taken_next [] k x at = absurd (none-some x at)
taken_next (y ∷ ys) zero x at = ap (λ z. z ∷ []) (some_same y x at)
taken_next (y ∷ ys) (suc k) x at = ap (λ l. y ∷ l) (taken_next ys k x at)

taken_length : {A : Type 0} (xs : List A) (k : ℕ) → k < length xs → length (take k xs) ≡ k
taken_length [] k within = absurd (omega (arith, within))
taken_length (y ∷ ys) zero within = refl
taken_length (y ∷ ys) (suc k) within = ap suc (taken_length ys k (omega (arith, within)))

-- one module more was written
pub written_more : (asked : PackOptions) (files : List (List ℕ)) (k : ℕ) (code : List ℕ) (old half new : Option (List ℕ)) → slice_get files k ≡ Some code
    → WritesStream asked (take k files) old half → WritesModule asked (asked.first + k) code half new → WritesStream asked (take (k + 1) files) old new
written_more asked files k code old half new at before one =
    let profile = asked.profile in
    let pages = asked.pages in
    let number = asked.first in
    let entry = asked.entry in
    let within = slice_get_within files k code at in
    let size : length (take k files) ≡ k = taken_length files k within in
    let next : k + 1 ≡ suc k = omega arith in
    let all : take (k + 1) files ≡ take k files ++ code ∷ [] = ap (λ n. take n files) next ∙ taken_next files k code at in
    let packed = subst (λ n. IsPacked (number + n) (record { words = length (words_of code); entry = entry; profile = profile; pages = pages }) code one.0) (sym size) one.1 in (
      before.0 ++ one.0,
      subst (λ l. IsStream (modules_from profile pages number entry l) (before.0 ++ one.0)) (sym all) (stream_more profile pages number entry (take k files) code before.0 one.0 before.1 packed),
      Appends-trans old half new before.0 one.0 before.2 one.2,
    )

grown_each : (entry : ℕ) (files : List (List ℕ)) (code : List ℕ) → AreModules entry files → IsCode code → entry < length (words_of code) → AreModules entry (files ++ code ∷ [])
grown_each entry [] code each is fits zero x at = subst (λ y. IsCode y × (entry < length (words_of y))) (some_same code x at) (is, fits)
grown_each entry [] code each is fits (suc c) x at = absurd (none-some x at)
grown_each entry (y ∷ ys) code each is fits zero x at = each zero x at
grown_each entry (y ∷ ys) code each is fits (suc c) x at = grown_each entry ys code (λ k. each (suc k)) is fits c x at

-- one module more was read
pub modules_more : (entry : ℕ) (bytes : List (Option (List ℕ))) (files : List (List ℕ)) (known : Option (List ℕ)) (code : List ℕ) → AreModulesOf entry bytes files
    → IfSome known (λ xs. xs ≡ code) → IsCode code → entry < length (words_of code) → AreModulesOf entry (bytes ++ known ∷ []) (files ++ code ∷ [])
modules_more entry bytes files known code are same is fits = record {
  all = length-append files (code ∷ []) ∙ ap (λ n. n + 1) are.all ∙ sym (length-append bytes (known ∷ []));
  each = λ c one told at by. grown (λ (o : Option (List ℕ)) (x : List ℕ). IfSome o (λ xs. xs ≡ x)) bytes files known code are.all (λ k x o. are.each k x o) same c one told at by;
  modules = grown_each entry files code are.modules is fits;
}

pub map_twice : {A B C : Type 0} (f : B → C) (g : A → B) (xs : List A) → map f (map g xs) ≡ map (λ x. f (g x)) xs
map_twice f g [] = refl
map_twice f g (x ∷ xs) = ap (λ l. f (g x) ∷ l) (map_twice f g xs)

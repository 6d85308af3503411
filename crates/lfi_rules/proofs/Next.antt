-- What the word after a place meets.
use Rattle.std.proofs.Common.{◌≡◌, ℕ, ◌+◌, ◌<◌, List, length, Some, sym, subst, ap, ◌∙◌}
use Rattle.std.specs.Prelude.{slice_get, slice_index}
use Rattle.std.proofs.lemmas.Option.{slice_get_within, slice_get-get_or}
use Rattle.lfi_module.specs.declared.profile.Profile.{Profile}
use Rattle.lfi_rules.specs.declared.needs.Need.{Need}
use Rattle.lfi_rules.specs.Faults.{Meets}
use Rattle.lfi_rules.specs.inner.Passing.{IsMetAfter}
use Rattle.lfi_rules.proofs.Due.{same_at}

-- the next word meets the need
pub by_next : (p : Profile) (ws : List ℕ) (i word : ℕ) (need : Need) → i + 1 < length ws → word ≡ slice_index ws (i + 1) → Meets p word need → IsMetAfter p ws i need
by_next p ws i word need within e met next at =
    let there : slice_get ws (i + 1) ≡ Some word = slice_get-get_or ws (i + 1) 0 within ∙ ap Some (sym e) in
    subst (λ w. Meets p w need) (same_at ws (i + 1) word next there at) met

-- the word at a place that is the next, where one follows, meets the need
pub by_last : (p : Profile) (ws : List ℕ) (i at word : ℕ) (need : Need) → (i + 1 < length ws → at ≡ i + 1) → word ≡ slice_index ws at → Meets p word need → IsMetAfter p ws i need
by_last p ws i at word need same e met next there =
    let within : i + 1 < length ws = slice_get_within ws (i + 1) next there in
    by_next p ws i word need within (e ∙ ap (slice_index ws) (same within)) met next there

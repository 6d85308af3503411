-- Modules that are numbered from some number on.
use Rattle.std.proofs.Common.{◌≡◌, ◌<◌, ◌+◌, ℕ, List, [], ◌∷◌, arith, inl, inr, ap, ◌∙◌}
use Rattle.lfi_module.specs.declared.profile.Profile.{Profile}
use Rattle.lfi_pack.specs.Heard.{NoneIs, AreDistinct, modules_from}

-- none of them has a lower number
lower : (profile : Profile) (size m number entry : ℕ) (files : List (List ℕ)) → m < number → NoneIs m (modules_from profile size number entry files)
lower profile size m number entry [] less p member same = absurd member
lower profile size m number entry (code ∷ files) less p (inl first) same =
    let here : number ≡ m = ap (λ q. q.number) first ∙ same in
    absurd (omega (arith, here, less))
lower profile size m number entry (code ∷ files) less p (inr later) same = lower profile size m (number + 1) entry files (omega (arith, less)) p later same

pub distinct : (profile : Profile) (size number entry : ℕ) (files : List (List ℕ)) → AreDistinct (modules_from profile size number entry files)
distinct profile size number entry [] = tt
distinct profile size number entry (code ∷ files) = (lower profile size number (number + 1) entry files (omega arith), distinct profile size (number + 1) entry files)

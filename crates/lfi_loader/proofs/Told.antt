-- What is known of each receiver, and where nothing was sent.
use Rattle.std.proofs.Common.{◌≡◌, ℕ, zero, suc, Bool, true, List, [], ◌∷◌, ◌++◌, Option, Some, None, slice_get, refl, sym, ◌∙◌, subst}
use Rattle.lfi_model.specs.declared.connection.EndCause.{EndCause}
use Rattle.lfi_model.specs.declared.connection.EndCause.TheVariants as cause_kind
use Rattle.lfi_receive.specs.declared.receiver.Receiver.{Receiver}
use Rattle.lfi_stage_model.proofs.Each.{some_same}
use Rattle.lfi_sync.specs.declared.fate.ClientFate.{ClientFate}
use Rattle.lfi_sync.specs.declared.fate.ClientFate.TheVariants.{Heard, CutOff, Absent}
use Rattle.lfi_sync.specs.Clients.{sent_at}
use Rattle.lfi_sync.specs.Fates.{is_absent}
use Rattle.lfi_thread_loops.specs.Heard.{IsHeardOf}

-- what is known of each, by their numbers
pub told_by : {A : Type 0} (none : A) (rs : List Receiver) (P : ℕ → Receiver → A → Type 0) → ((c : ℕ) (r : Receiver) → slice_get rs c ≡ Some r → (told : A) × P c r told)
    → (heard : ℕ → A) × ((c : ℕ) (r : Receiver) → slice_get rs c ≡ Some r → P c r (heard c))
told_by {A} none [] P each = (λ c. none, λ c r at. absurd cc)
told_by {A} none (r ∷ rs) P each =
    let first = each 0 r refl in
    let rest = told_by none rs (λ c q told. P (suc c) q told) (λ c q at. each (suc c) q at) in
    (first_then first.0 rest.0, at_place first.0 rest.0 first.1 rest.1)
  where
    first_then : A → (ℕ → A) → ℕ → A
    first_then told later zero = told
    first_then told later (suc c) = later c

    at_place : (told : A) (later : ℕ → A) → P 0 r told → ((c : ℕ) (q : Receiver) → slice_get rs c ≡ Some q → P (suc c) q (later c)) → (c : ℕ) (q : Receiver) → slice_get (r ∷ rs) c ≡ Some q → P c q (first_then told later c)
    at_place told later is rest zero q at = subst (λ z. P 0 z told) (some_same r q at) is
    at_place told later is rest (suc c) q at = rest c q at

empty_front : (xs ys : List ℕ) → [] ≡ xs ++ ys → xs ≡ []
empty_front [] ys e = refl
empty_front (x ∷ xs) ys e = absurd cc

-- where nothing was sent, nothing was heard
pub none_heard : (claimed : ℕ → Bool) (cause : Option EndCause) (heard : List ℕ) (sent : Option (List ℕ)) → IsHeardOf claimed cause heard sent → sent ≡ Some [] → heard ≡ []
none_heard claimed cause heard None hears is = absurd cc
none_heard claimed None heard (Some text) hears is = hears ∙ some_same text [] is
none_heard claimed (Some cause_kind.End) heard (Some text) hears is = hears ∙ some_same text [] is
none_heard claimed (Some cause_kind.Failed) heard (Some text) hears is = empty_front heard hears.0 (sym (some_same text [] is) ∙ hears.1)
none_heard claimed (Some cause_kind.Starved) heard (Some text) hears is = empty_front heard hears.1 (sym (some_same text [] is) ∙ hears.2)

-- nothing was sent where there is no client
pub none_sent : (fate : ClientFate) → is_absent fate ≡ true → sent_at fate ≡ Some []
none_sent Heard is = absurd cc
none_sent CutOff is = absurd cc
none_sent (Absent why) is = refl

-- What has been heard, once the inputs are over.
use Rattle.std.proofs.Common.{◌≡◌, ℕ, false, List, [], ◌++◌, Option, Some, None, IsSome, refl, sym, ◌∙◌, ap, subst, inl, inr}
use Rattle.std.specs.Prelude.{is_some}
use Rattle.std.specs.Io.KnownBytes.{Consumes, IsAtEnd}
use Rattle.std.proofs.lemmas.List.{append-nil}
use Rattle.lfi_model.specs.declared.connection.EndCause.{EndCause}
use Rattle.lfi_model.specs.declared.connection.EndCause.TheVariants as cause_kind
use Rattle.lfi_receive.specs.declared.receiver.Receiver.{Receiver}
use Rattle.lfi_receive.specs.Receivers.{StandsFor, claimed_by, cause_of, cause_after}
use Rattle.lfi_receive.specs.Pulls.{EndsAt}
use Rattle.lfi_receive.proofs.Finished.{stands_faulty}
use Rattle.lfi_thread_loops.specs.Heard.{IsHeard}

pub not_some : (o : Option EndCause) → is_some o ≡ false → o ≡ None
not_some None e = refl
not_some (Some cause) e = absurd cc

-- what was consumed, and the rest
consumed : (text : List ℕ) (left : Option (List ℕ)) (heard : List ℕ) → Consumes (Some text) left heard → (rest : List ℕ) × (left ≡ Some rest) × (text ≡ heard ++ rest)
consumed text None heard h = absurd h
consumed text (Some rest) heard h = (rest, refl, h)

at_end : (left : Option (List ℕ)) (rest : List ℕ) → left ≡ Some rest → IsAtEnd left → rest ≡ []
at_end None rest e end = absurd cc
at_end (Some xs) rest e end = (let same : xs ≡ rest = cc in sym same ∙ end)

-- one receiver
pub heard_of : (r : Receiver) (text heard : List ℕ) (left : Option (List ℕ)) → StandsFor r heard → Consumes (Some text) left heard → EndsAt (claimed_by r) (cause_of r) left heard → IsSome (cause_of r)
    → (told : List ℕ) × IsHeard (claimed_by r) (cause_after (cause_of r)) told text × StandsFor r told
heard_of r text heard left stands consumes ends over = by r.cause refl ends over
  where
    split : (rest : List ℕ) × (left ≡ Some rest) × (text ≡ heard ++ rest)
    split = consumed text left heard consumes

    by : (o : Option EndCause) → r.cause ≡ o → EndsAt (claimed_by r) o left heard → IsSome o → (told : List ℕ) × IsHeard (claimed_by r) (cause_after r.cause) told text × StandsFor r told
    by None is h some = absurd cc
    by (Some cause_kind.Failed) is h some = (heard, subst (λ o. IsHeard (claimed_by r) (cause_after o) heard text) (sym is) (split.0, split.2), stands)
    by (Some cause_kind.Starved) is h some = (heard, subst (λ o. IsHeard (claimed_by r) (cause_after o) heard text) (sym is) (h, split.0, split.2), stands)
    by (Some cause_kind.End) is (inl end) some =
        let whole : heard ≡ text = sym (append-nil heard) ∙ sym (split.2 ∙ ap (λ l. heard ++ l) (at_end left split.0 split.1 end)) in
        (heard, subst (λ o. IsHeard (claimed_by r) (cause_after o) heard text) (sym is) whole, stands)
    by (Some cause_kind.End) is (inr faulty) some =
        (text, subst (λ o. IsHeard (claimed_by r) (cause_after o) text text) (sym is) refl, subst (λ l. StandsFor r l) (sym split.2) (stands_faulty r heard split.0 is faulty stands))

-- What became of the clients of connections, and what these have sent.
use Rattle.std.proofs.Common.{◌≡◌, ◌∙◌, ◌<◌, ◌≤◌, ℕ, Bool, true, false, List, [], ◌∷◌, ◌++◌, Option, Some, length, slice_get, refl, sym, ap, subst, inl, inr, arith}
use Rattle.std.proofs.Math.ListN.{set}
use Rattle.std.proofs.lemmas.Bool.{cases_lt}
use Rattle.std.proofs.lemmas.List.{get_or-set_same, get_or-set_other}
use Rattle.std.proofs.lemmas.Option.{slice_get_within}
use Rattle.lfi_stage_model.proofs.Each.{some_at}
use Rattle.lfi_stage_model.proofs.Filling.{push_each, one_more}
use Rattle.lfi_receive.specs.declared.receiver.Receiver.{Receiver}
use Rattle.lfi_sync.specs.declared.fate.ClientFate.{ClientFate}
use Rattle.lfi_sync.specs.declared.fate.ClientFate.TheVariants.{Heard, CutOff, Absent}
use Rattle.lfi_sync.specs.declared.fate.Unheard.{Unheard}
use Rattle.lfi_sync.specs.Clients.{sent_at}
use Rattle.lfi_sync.specs.Fates.{fate_after, fate_at, is_out_of_time, is_unheard}
use Rattle.lfi_sync.proofs.Begun.{each_of_none}
use Rattle.lfi_thread_loops.specs.Heard.{HasHeard}
use Rattle.lfi_thread_loops.specs.inner.Clients.{AreTaken}
use Rattle.lfi_thread_loops.proofs.Through.{had_of, had_of_is}

-- of no client that was taken
pub none_taken : {H : Type 0} (fates : List ClientFate) (sent_of : H → Option (List ℕ)) (hs : List H) → hs ≡ [] → ((c : ℕ) → fate_at fates c ≡ Heard) → AreTaken fates hs sent_of
none_taken fates sent_of hs none all = record {
  known = each_of_none (λ k h. sent_of h ≡ sent_at (fate_at fates k)) hs none;
  no_other = λ c past. all c;
}

-- of one more
pub one_more_taken : {H : Type 0} (fates : List ClientFate) (sent_of : H → Option (List ℕ)) (hs gs : List H) (h : H) (k : ℕ) (fate : ClientFate) → k ≡ length hs → k < length fates → gs ≡ hs ++ h ∷ [] → AreTaken fates hs sent_of
    → sent_of h ≡ sent_at fate → AreTaken (set fates k fate) gs sent_of
one_more_taken {H} fates sent_of hs gs h k fate at room grown old sent = record {
  known = push_each P hs gs h grown
      (λ j g here. old.known j g here ∙ ap sent_at (sym (get_or-set_other fates k j fate Heard (λ e. let low = slice_get_within hs j g here in omega arith))))
      (subst (λ j. P j h) at (sent ∙ ap sent_at (sym (get_or-set_same fates k fate Heard room))));
  no_other = λ c past. (let more = one_more hs gs h grown in get_or-set_other fates k c fate Heard (λ e. omega arith) ∙ old.no_other c (omega arith));
}
  where
    P : ℕ → H → Type 0
    P j g = sent_of g ≡ sent_at (fate_at (set fates k fate) j)

-- time that is over changes nothing of what is known
sent_after : (unheard : Bool) (fate : ClientFate) → sent_at (fate_after unheard fate) ≡ sent_at fate
sent_after true Heard = refl
sent_after true CutOff = refl
sent_after true (Absent why) = refl
sent_after false fate = refl

in_time : (unheard : Bool) (fate : ClientFate) → unheard ≡ false → fate_after unheard fate ≡ fate
in_time true fate is = absurd cc
in_time false fate is = refl

-- what became of them, once the time may be over
module _ {H : Type 0} (before fates : List ClientFate) (unheard : Unheard) (count : ℕ) (sent_of : H → Option (List ℕ)) (hs : List H)
    (each : (c : ℕ) → c < 8 → fate_at fates c ≡ fate_after (is_unheard unheard c) (fate_at before c)) (others : (c : ℕ) → 8 ≤ c → fate_at fates c ≡ Heard)
    (long : length hs ≡ count) (few : count ≤ 8) (taken : AreTaken before hs sent_of) where
  pub heard_after : (rs : List Receiver) → length rs ≡ count → ((k : ℕ) (r : Receiver) → slice_get rs k ≡ Some r → HasHeard (had_of sent_of hs k) r) → (k : ℕ) (r : Receiver) → slice_get rs k ≡ Some r → HasHeard (sent_at (fate_at fates k)) r
  heard_after rs same heard k r at =
      let low = slice_get_within rs k r at in
      let h = some_at hs k (omega arith) in
      let known : had_of sent_of hs k ≡ sent_at (fate_at fates k) =
      had_of_is sent_of hs k h.0 h.1 ∙ taken.known k h.0 h.1 ∙ sym (ap sent_at (each k (omega arith)) ∙ sent_after (is_unheard unheard k) (fate_at before k)) in
      subst (λ o. HasHeard o r) known (heard k r at)

  pub no_other_after : ((c : ℕ) → length hs ≤ c → is_unheard unheard c ≡ false) → (c : ℕ) → count ≤ c → fate_at fates c ≡ Heard
  no_other_after beyond c past = elim (cases_lt c 8) [
    | inl less ↦ each c less ∙ in_time (is_unheard unheard c) (fate_at before c) (beyond c (omega arith)) ∙ taken.no_other c (omega arith)
    | inr more ↦ others c more
  ]

  pub endless_after : ((c : ℕ) → is_unheard unheard c ≡ false) → ((c : ℕ) → is_out_of_time (fate_at before c) ≡ false) → (c : ℕ) → is_out_of_time (fate_at fates c) ≡ false
  endless_after none endless c = elim (cases_lt c 8) [
    | inl less ↦ ap is_out_of_time (each c less ∙ in_time (is_unheard unheard c) (fate_at before c) (none c)) ∙ endless c
    | inr more ↦ ap is_out_of_time (others c more)
  ]

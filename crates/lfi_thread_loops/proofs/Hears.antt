-- What has been heard, where no more bytes come.
use Rattle.std.proofs.Common.{◌≡◌, ◌++◌, ℕ, List, Option, Some, None, IsSome, Bool, sym, ap, subst, refl, ◌∙◌}
use Rattle.std.proofs.KnownBytes.{Consumes-trans}
use Rattle.lfi_model.specs.declared.connection.EndCause.{EndCause}
use Rattle.lfi_model.specs.declared.connection.EndCause.TheVariants as cause_kind
use Rattle.lfi_board.specs.Calls.{Saw}
use Rattle.lfi_board.specs.Known.{board_of, known_by}
use Rattle.lfi_frame.specs.Streams.{short}
use Rattle.lfi_model.specs.Items.{share_of}
use Rattle.lfi_receive.specs.declared.receiver.Receiver.{Receiver}
use Rattle.lfi_receive.specs.declared.input.Input.{Input}
use Rattle.lfi_receive.specs.Inputs.{left_of}
use Rattle.lfi_receive.specs.declared.receiver.ReceiverTurn.{ReceiverTurn}
use Rattle.lfi_receive.specs.Pulls.{EndsAt, IsPulled}
use Rattle.lfi_queues.specs.Passes.{IsPass}
use Rattle.lfi_receive.specs.Claims.{is_mine}
use Rattle.lfi_receive.specs.Receivers.{AfterEnd, AsksMemory, IsDuePage, IsFinished, StandsFor, claimed_by, cause_of, pass_of, seat_of}
use Rattle.lfi_stage_model.specs.declared.shared.Shared.{Shared}
use Rattle.lfi_stage_model.specs.Parts.{IsReceiver}
use Rattle.lfi_stage_model.specs.Shares.{intake_of}
use Rattle.lfi_thread_loops.proofs.Heard.{heard_of}
use Rattle.lfi_thread_loops.specs.Heard.{HasHeard}
use Rattle.lfi_thread_loops.specs.inner.Hearing.{IsHearing, IsAsBefore}

-- what ends an input speaks of the claimed modules one by one
asks_as : (claimed other : ℕ → Bool) (text : List ℕ) → ((m : ℕ) → other m ≡ claimed m) → AsksMemory claimed text → AsksMemory other text
asks_as claimed other text same asks = record {
  messages = asks.messages;
  rest = asks.rest;
  m = asks.m;
  size = asks.size;
  index = asks.index;
  len = asks.len;
  cut = asks.cut;
  header = asks.header;
  bare = asks.bare;
  due = subst (λ b. IsDuePage (share_of b asks.m asks.messages short).progress asks.size asks.index asks.len) (sym (same asks.m)) asks.due;
}

ends_as : (claimed other : ℕ → Bool) (cause : Option EndCause) (left : Option (List ℕ)) (text : List ℕ) → ((m : ℕ) → other m ≡ claimed m) → EndsAt claimed cause left text → EndsAt other cause left text
ends_as claimed other None left text same ends = tt
ends_as claimed other (Some cause_kind.End) left text same ends = ends
ends_as claimed other (Some cause_kind.Failed) left text same ends = tt
ends_as claimed other (Some cause_kind.Starved) left text same ends = asks_as claimed other text same ends

pub hearing_as : {R : Type 0} (remaining : R → Option (List ℕ)) (whole : Option (List ℕ)) (old new : Receiver) (input : Input R) → IsAsBefore old new → IsHearing remaining whole old input → IsHearing remaining whole new input
hearing_as remaining whole old new input same hearing = record {
  heard = hearing.heard;
  stands = same.stands hearing.heard hearing.stands;
  consumes = hearing.consumes;
  ends = subst (λ o. EndsAt (claimed_by new) o (left_of remaining input) hearing.heard) (sym same.cause) (ends_as (claimed_by old) (claimed_by new) (cause_of old) (left_of remaining input) hearing.heard same.claimed hearing.ends);
}

-- a turn over an input, or, once that is over, over what is still to be put
pub hearing_on : {R : Type 0} (remaining : R → Option (List ℕ)) (whole : Option (List ℕ)) (old new : Receiver) (before after : Input R) (did : ReceiverTurn) → IsPulled old new (left_of remaining before) (left_of remaining after)
    → (IsSome (cause_of old) → (bytes : List ℕ) → StandsFor old bytes → StandsFor new bytes) → (IsSome (cause_of old) → after ≡ before) → (IsSome (cause_of old) → AfterEnd old new 0 did) → IsHearing remaining whole old before → IsHearing remaining whole new after
hearing_on {R} remaining whole old new before after did pulled stands unread ended hearing = by old.cause refl
  where
    by : (o : Option EndCause) → old.cause ≡ o → IsHearing remaining whole new after
    by None is = record {
      heard = hearing.heard ++ pulled.used;
      stands = pulled.stands hearing.heard hearing.stands;
      consumes = Consumes-trans whole (left_of remaining before) (left_of remaining after) hearing.heard pulled.used hearing.consumes pulled.consumes;
      ends = pulled.over hearing.heard hearing.stands is;
    }
    by (Some cause) is =
        let over : IsSome old.cause = subst (λ o. IsSome o) (sym is) refl in
        let done = ended over in
        subst (λ (i : Input R). IsHearing remaining whole new i) (sym (unread over)) (hearing_as remaining whole old new before (record { stands = stands over; cause = done.cause; claimed = done.claimed }) hearing)

-- the same receiver
pub hearing_same : {R : Type 0} (remaining : R → Option (List ℕ)) (whole : Option (List ℕ)) (old new : Receiver) (input : Input R) → new ≡ old → IsHearing remaining whole old input → IsHearing remaining whole new input
hearing_same remaining whole old new input same hearing = subst (λ r. IsHearing remaining whole r input) (sym same) hearing

pub as_before_on : (one two three : Receiver) → IsAsBefore one two → IsAsBefore two three → IsAsBefore one three
as_before_on one two three h k = record {
  stands = λ bytes stands. k.stands bytes (h.stands bytes stands);
  cause = k.cause ∙ h.cause;
  claimed = λ m. k.claimed m ∙ h.claimed m;
}

pub unchanged : (r : Receiver) → IsAsBefore r r
unchanged r = record { stands = λ bytes stands. stands; cause = refl; claimed = λ m. refl }

-- a look at a module is no byte, and moves neither the pass nor the seat
pub looked_at : (shared : Shared) (number : ℕ) (old new : Receiver) → pass_of new ≡ pass_of old → board_of (seat_of new) ≡ board_of (seat_of old) → IsReceiver shared number old → IsReceiver shared number new
looked_at shared number old new pass board is = record {
  pass = subst (λ p. IsPass (intake_of shared) (intake_of shared).putters number p) (sym pass) is.pass;
  seat = board ∙ is.seat;
}

pub looked_before : (old new : Receiver) («module» phase : ℕ) → ((bytes : List ℕ) → StandsFor old bytes → StandsFor new bytes) → cause_of new ≡ cause_of old → Saw (known_by (seat_of old)) (known_by (seat_of new)) «module» phase → IsAsBefore old new
looked_before old new «module» phase stands cause saw = record {
  stands = stands;
  cause = cause;
  claimed = λ m. ap (λ hand. is_mine hand m) saw.1;
}

-- once it has finished
pub has_heard : {R : Type 0} (remaining : R → Option (List ℕ)) (whole : Option (List ℕ)) (r : Receiver) (input : Input R) → IsHearing remaining whole r input → IsFinished r → HasHeard whole r
has_heard remaining None r input h finished = record { heard = h.heard; hears = tt; stands = h.stands; finished = finished }
has_heard remaining (Some text) r input h finished =
    let told = heard_of r text h.heard (left_of remaining input) h.stands h.consumes h.ends finished.ended in
    record { heard = told.0; hears = told.1; stands = told.2; finished = finished }

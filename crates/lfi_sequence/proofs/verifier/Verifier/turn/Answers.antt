use Rattle.std.proofs.Common.{◌≡◌, [], ◌∷◌, ◌++◌, ◌∙◌, Option, Some, None, refl, sym, ap, subst}
use Rattle.std.specs.Prelude.{slice_get, MatchOption}
use Rattle.lfi_model.specs.Item.{ItemView}
use Rattle.lfi_queues.specs.Passes.{PassView, GetsItem, FindsNone, AsksAgain, IsSamePass}
use Rattle.lfi_sequence.specs.Hands.{Hands}
use Rattle.lfi_sequence.specs.Handed.{TurnsWith, PutsNone, PutsLast, take_pass_of, hand_of, lane_puts_of, last_of, ByHand, HandsOn, put_in}
use Rattle.lfi_sequence.specs.declared.verifier.Verifier.{Verifier}
use Rattle.lfi_sequence.specs.declared.verifier.VerifierTurn.{VerifierTurn}
use Rattle.lfi_sequence.specs.declared.verifier.VerifierTurn.TheVariants as turn
use Rattle.lfi_sequence.proofs.HandsOn.{hand_taken}
use Rattle.lfi_sequence.proofs.Carrying.{hands_as}
use Rattle.lfi_sequence.proofs.HandedOn.{told_by_take}
use Rattle.lfi_sequence.proofs.verifier.Verifier.turn.Goals as goal

-- a turn with nothing in hand that took none
idle_told : (o : Option ItemView) (old new : Verifier) → o ≡ None → PutsNone old new → FindsNone (take_pass_of old) (take_pass_of new) → TurnsWith o turn.Idle old new
idle_told o old new none puts finds = subst (λ h. TurnsWith h turn.Idle old new) (sym none) (puts, finds)

again_told : (o : Option ItemView) (old new : Verifier) → o ≡ None → PutsNone old new → AsksAgain (take_pass_of old) (take_pass_of new) → TurnsWith o turn.Again old new
again_told o old new none puts asks = subst (λ h. TurnsWith h turn.Again old new) (sym none) (puts, asks)

-- the same pass, and the same lanes
same_as : (old new : PassView ItemView) → new ≡ old → IsSamePass old new
same_as old new same = record { queue = ap (λ p. p.queue) same; number = ap (λ p. p.number) same }

same_all : (o : Option (PassView ItemView)) → MatchOption o (o ≡ None) (λ pass. (after : PassView ItemView) × (o ≡ Some after) × IsSamePass pass after)
same_all None = refl
same_all (Some pass) = (pass, refl, record { queue = refl; number = refl })

-- what the put of an item says of the last one
last_put : (did : VerifierTurn) (item : ItemView) (old new : Verifier) → ByHand did item (hand_of new) (lane_puts_of old) (lane_puts_of new) → last_of new ≡ Some item.«module» → PutsLast did old new
last_put turn.Worked item old new puts last = (item, last, puts.1)
last_put turn.Idle item old new puts last = tt
last_put turn.Again item old new puts last = tt
last_put turn.Blocked item old new puts last = tt

pub returns-in-Some-clause-last : goal.returns-in-Some-clause-last
returns-in-Some-clause-last g c = last_put c.put.result c.in-Some.held c.args.self.now c.put.new.self c.put.ensures.did c.put.ensures.last

pub returns-in-Item-clause-last : goal.returns-in-Item-clause-last
returns-in-Item-clause-last g c =
    let v = c.args.self.now in
    let w = c.put-in-Item.new.self in
    last_put c.put-in-Item.result c.judged.result v w c.put-in-Item.ensures.did c.put-in-Item.ensures.last

pub returns-in-Item-clause-did : goal.returns-in-Item-clause-did
returns-in-Item-clause-did g c =
    let v = c.args.self.now in
    let x : ItemView = c.in-Item.item in
    let none : v.hand ≡ None = sym c.take.ensures.value ∙ c.in-None.is in
    let w = c.put-in-Item.new.self in
    let q : PassView ItemView = c.take-in-None.new.pass in
    let same : w.pass ≡ q = c.put-in-Item.ensures.pass in
    let gets : GetsItem v.pass w.pass x = subst (λ (p : PassView ItemView). GetsItem v.pass p x) (sym same) c.in-Item.ensures.round in
    subst (λ (o : Option ItemView). TurnsWith o c.put-in-Item.result v w) (sym none)
    (told_by_take c.put-in-Item.result v w x gets (subst (λ j. ByHand c.put-in-Item.result j w.hand v.lanes.items w.lanes.items) c.judged.ensures c.put-in-Item.ensures.did))

pub put-requires-clause-lanes : goal.put-requires-clause-lanes
put-requires-clause-lanes g c = c.requires.lanes

pub put-requires-clause-empty : goal.put-requires-clause-empty
put-requires-clause-empty g c = c.take.ensures.after

pub put-requires-in-Item-clause-lanes : goal.put-requires-in-Item-clause-lanes
put-requires-in-Item-clause-lanes g c = c.requires.lanes

pub put-requires-in-Item-clause-empty : goal.put-requires-in-Item-clause-empty
put-requires-in-Item-clause-empty g c = c.take.ensures.after

pub returns-in-Some-clause-did : goal.returns-in-Some-clause-did
returns-in-Some-clause-did g c =
    let v = c.args.self.now in
    let held : v.hand ≡ Some c.in-Some.held = sym c.take.ensures.value ∙ c.in-Some.is in
    subst (λ (o : Option ItemView). TurnsWith o c.put.result v c.put.new.self) (sym held) (c.put.ensures.did, c.put.ensures.pass)

pub returns-in-Some-clause-same : goal.returns-in-Some-clause-same
returns-in-Some-clause-same g c = c.put.ensures.same

pub returns-in-Some-clause-pass : goal.returns-in-Some-clause-pass
returns-in-Some-clause-pass g c = same_as c.args.self.now.pass c.put.new.self.pass c.put.ensures.pass

pub returns-in-Some-clause-tie : goal.returns-in-Some-clause-tie
returns-in-Some-clause-tie g c = λ hands.
    let v = c.args.self.now in
    let w = c.put.new.self in
    let held : v.hand ≡ Some c.in-Some.held = sym c.take.ensures.value ∙ c.in-Some.is in
    subst (λ (p : PassView ItemView). HandsOn p.items w) (sym c.put.ensures.pass)
    (c.put.ensures.tie v.pass.items (subst (λ (o : Option ItemView). Hands v.pass.items (put_in v.lanes.items) o) held hands))

pub returns-in-Item-clause-same : goal.returns-in-Item-clause-same
returns-in-Item-clause-same g c = c.put-in-Item.ensures.same

pub returns-in-Item-clause-pass : goal.returns-in-Item-clause-pass
returns-in-Item-clause-pass g c = subst (λ (p : PassView ItemView). IsSamePass c.args.self.now.pass p) (sym c.put-in-Item.ensures.pass) c.in-Item.ensures.same

pub returns-in-Empty-clause-pass : goal.returns-in-Empty-clause-pass
returns-in-Empty-clause-pass g c = c.in-Empty.ensures.same

pub returns-in-Again-clause-pass : goal.returns-in-Again-clause-pass
returns-in-Again-clause-pass g c = c.in-Again.ensures.same

pub returns-in-Empty-clause-same : goal.returns-in-Empty-clause-same
returns-in-Empty-clause-same g c = λ m. same_all (slice_get c.args.self.now.lanes.items m)

pub returns-in-Again-clause-same : goal.returns-in-Again-clause-same
returns-in-Again-clause-same g c = λ m. same_all (slice_get c.args.self.now.lanes.items m)

pub returns-in-Item-clause-tie : goal.returns-in-Item-clause-tie
returns-in-Item-clause-tie g c = λ hands.
    let v = c.args.self.now in
    let w = c.put-in-Item.new.self in
    let x : ItemView = c.in-Item.item in
    let none : v.hand ≡ None = sym c.take.ensures.value ∙ c.in-None.is in
    let took : Hands (v.pass.items ++ x ∷ []) (put_in v.lanes.items) (Some x) =
    hand_taken v.pass.items (put_in v.lanes.items) x (subst (λ (o : Option ItemView). Hands v.pass.items (put_in v.lanes.items) o) none hands) in
    let items : w.pass.items ≡ v.pass.items ++ x ∷ [] = ap (λ (p : PassView ItemView). p.items) c.put-in-Item.ensures.pass ∙ c.in-Item.ensures.taken in
    subst (λ l. HandsOn l w) (sym items)
    (c.put-in-Item.ensures.tie (v.pass.items ++ x ∷ []) (subst (λ (j : ItemView). Hands (v.pass.items ++ x ∷ []) (put_in v.lanes.items) (Some j)) (sym c.judged.ensures) took))

pub returns-in-Empty-clause-tie : goal.returns-in-Empty-clause-tie
returns-in-Empty-clause-tie g c = λ hands.
    let v = c.args.self.now in
    let none : v.hand ≡ None = sym c.take.ensures.value ∙ c.in-None.is in
    hands_as v.pass.items c.take-in-None.new.pass.items (put_in v.lanes.items) (put_in v.lanes.items) v.hand c.take.new.self (sym c.in-Empty.ensures.taken) (λ m. refl) (none ∙ sym c.take.ensures.after) hands

pub returns-in-Again-clause-tie : goal.returns-in-Again-clause-tie
returns-in-Again-clause-tie g c = λ hands.
    let v = c.args.self.now in
    let none : v.hand ≡ None = sym c.take.ensures.value ∙ c.in-None.is in
    hands_as v.pass.items c.take-in-None.new.pass.items (put_in v.lanes.items) (put_in v.lanes.items) v.hand c.take.new.self (sym c.in-Again.ensures.taken) (λ m. refl) (none ∙ sym c.take.ensures.after) hands

pub returns-in-Empty-clause-did : goal.returns-in-Empty-clause-did
returns-in-Empty-clause-did g c =
    let v = c.args.self.now in
    let none : v.hand ≡ None = sym c.take.ensures.value ∙ c.in-None.is in
    idle_told v.hand v _ none
    (c.take.ensures.after, refl)
    c.in-Empty.ensures.round

pub returns-in-Again-clause-did : goal.returns-in-Again-clause-did
returns-in-Again-clause-did g c =
    let v = c.args.self.now in
    let none : v.hand ≡ None = sym c.take.ensures.value ∙ c.in-None.is in
    again_told v.hand v _ none
    (c.take.ensures.after, refl)
    c.in-Again.ensures.round

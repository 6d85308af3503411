-- Runs with one runtime, seen as runs with another.
use Rattle.std.proofs.Common.{◌≡◌, ℕ, zero, suc, sym, ap, subst}
use Rattle.a64_semantics.specs.declared.registers.Registers.{Registers}
use Rattle.lfi_confinement.specs.Moves.{Move, go, stop, ask, escape}
use Rattle.lfi_machine.specs.Owned.{Owned}
use Rattle.lfi_machine.specs.declared.halt.Halt.{Halt}
use Rattle.lfi_machine.specs.declared.halt.Halt.TheVariants.{Stopped, StepsUsed, NoMemory}
use Rattle.lfi_confinement.specs.declared.cause.StopCause.TheVariants.{Ended, UnlawfulAnswer}
use Rattle.lfi_machine.specs.declared.runtime.Answer.{Answer}
use Rattle.lfi_machine.specs.Runs.{Config, Answers, LeadsOn, HaltsAt, NextStep, StopsAt, Ran, EndsAt, RanThenHalts}

-- What a runtime holds is seen as something else, and its answers are then those of another runtime.
module _ {H G : Type 0} (answers : Answers H) (others : Answers G) (seen : H → G)
    (alike : (h : H) (entry : ℕ) (r : Registers) (o : Owned) (a : Answer) (k : H) (p : Owned) → answers h entry r o a k p → others (seen h) entry r o a (seen k) p) where
  leads_alike : (move : Move) (c d : Config) (h k : H) → LeadsOn answers move c h d k → LeadsOn others move c (seen h) d (seen k)
  leads_alike (go after offset bytes) c d h k e = (e.0, e.1, ap seen e.2)
  leads_alike (ask entry given) c d h k e = (alike h entry given c.owned _ k d.owned e.0, e.1)
  leads_alike (stop cause) c d h k e = absurd e
  leads_alike escape c d h k e = absurd e

  halts_alike : (halt : Halt) (move : Move) (c d : Config) (h k : H) → HaltsAt answers halt move c h d k → HaltsAt others halt move c (seen h) d (seen k)
  halts_alike (Stopped cause) (stop other) c d h k e = (e.0, e.1, ap seen e.2)
  halts_alike (Stopped (Ended status)) (ask entry given) c d h k e = (alike h entry given c.owned _ k d.owned e.0, e.1)
  halts_alike (Stopped UnlawfulAnswer) (ask entry given) c d h k e = (e.0, alike h entry given c.owned _ k d.owned e.1, e.2, e.3)
  halts_alike NoMemory (go after offset bytes) c d h k e = (e.0, e.1, ap seen e.2)
  halts_alike halt move c d h k e = absurd e

  next_alike : (c d : Config) (h k : H) → NextStep answers c h d k → NextStep others c (seen h) d (seen k)
  next_alike c d h k e = record { move = e.move; moves = e.moves; leads = leads_alike e.move c d h k e.leads; keeps = e.keeps; image = e.image }

  stops_alike : (halt : Halt) (c d : Config) (h k : H) → StopsAt answers halt c h d k → StopsAt others halt c (seen h) d (seen k)
  stops_alike halt c d h k e = record { move = e.move; moves = e.moves; halts = halts_alike halt e.move c d h k e.halts; keeps = e.keeps; image = e.image }

  ran_alike : (count : ℕ) (c d : Config) (h k : H) → Ran answers c h count d k → Ran others c (seen h) count d (seen k)
  ran_alike zero c d h k e = (e.0, ap seen e.1)
  ran_alike (suc count) c d h k e = (e.0, seen e.1, ran_alike count c e.0 h e.1 e.2, next_alike e.0 d e.1 k e.3)

  ends_alike : (halt : Halt) (c d : Config) (h k : H) → EndsAt answers halt c h d k → EndsAt others halt c (seen h) d (seen k)
  ends_alike StepsUsed c d h k e = (e.0, ap seen e.1)
  ends_alike (Stopped cause) c d h k e = stops_alike (Stopped cause) c d h k e
  ends_alike NoMemory c d h k e = stops_alike NoMemory c d h k e

  pub run_alike : (c d : Config) (h k : H) (halt : Halt) (count : ℕ) → RanThenHalts answers c h halt count d k → RanThenHalts others c (seen h) halt count d (seen k)
  run_alike c d h k halt count e = (e.0, seen e.1, ran_alike count c e.0 h e.1 e.2, ends_alike halt e.0 d e.1 k e.3)

-- the runtime whose answers are any, and which then holds what is so related to what it held
abbrev pub related : {G : Type 0} → (G → G → Type 0) → Answers G
related Related g entry r o a k p = Related g k

-- What each answer keeps in a relation, a run keeps in it.
module _ {G : Type 0} (Related : G → G → Type 0) (same : (g : G) → Related g g) (further : (g h k : G) → Related g h → Related h k → Related g k) where
  at_same : (g k : G) → k ≡ g → Related g k
  at_same g k is = subst (Related g) (sym is) (same g)

  related_leads : (move : Move) (c d : Config) (g k : G) → LeadsOn (related Related) move c g d k → Related g k
  related_leads (go after offset bytes) c d g k e = at_same g k e.2
  related_leads (ask entry given) c d g k e = e.0
  related_leads (stop cause) c d g k e = absurd e
  related_leads escape c d g k e = absurd e

  related_halts : (halt : Halt) (move : Move) (c d : Config) (g k : G) → HaltsAt (related Related) halt move c g d k → Related g k
  related_halts (Stopped cause) (stop other) c d g k e = at_same g k e.2
  related_halts (Stopped (Ended status)) (ask entry given) c d g k e = e.0
  related_halts (Stopped UnlawfulAnswer) (ask entry given) c d g k e = e.1
  related_halts NoMemory (go after offset bytes) c d g k e = at_same g k e.2
  related_halts halt move c d g k e = absurd e

  related_ran : (count : ℕ) (c d : Config) (g k : G) → Ran (related Related) c g count d k → Related g k
  related_ran zero c d g k e = at_same g k e.1
  related_ran (suc count) c d g k e = further g e.1 k (related_ran count c e.0 g e.1 e.2) (related_leads e.3.move e.0 d e.1 k e.3.leads)

  related_ends : (halt : Halt) (c d : Config) (g k : G) → EndsAt (related Related) halt c g d k → Related g k
  related_ends StepsUsed c d g k e = at_same g k e.1
  related_ends (Stopped cause) c d g k e = related_halts (Stopped cause) e.move c d g k e.halts
  related_ends NoMemory c d g k e = related_halts NoMemory e.move c d g k e.halts

  pub run_related : (c d : Config) (g k : G) (halt : Halt) (count : ℕ) → RanThenHalts (related Related) c g halt count d k → Related g k
  run_related c d g k halt count e = further g e.1 k (related_ran count c e.0 g e.1 e.2) (related_ends halt e.0 d e.1 k e.3)

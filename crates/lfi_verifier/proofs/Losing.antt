-- What is judged of the modules that are left, where one is lost.
use Rattle.std.proofs.Common.{◌≡◌, ℕ, ◌==◌, List, refl, sym, ap, ◌∙◌, Bool, true, false, if◌then◌else◌}
use Rattle.lfi_module.specs.Extents.{ExtentView}
use Rattle.lfi_frame.specs.Streams.{Message}
use Rattle.lfi_frame.specs.declared.fault.FrameFault.{FrameFault}
use Rattle.lfi_model.specs.Item.{ItemView}
use Rattle.lfi_model.specs.declared.connection.Progress.{Progress}
use Rattle.lfi_model.specs.declared.connection.Progress.TheVariants.{Going, Ended}
use Rattle.lfi_connection.specs.declared.event.Event.{Event}
use Rattle.lfi_connection.specs.declared.event.Event.TheVariants.{Nothing, Open, Begin, Code, Stray, End}
use Rattle.std.specs.Prelude.{Result, Ok, Err}
use Rattle.lfi_stream.specs.declared.numbers.LfiStreamText.{LfiStreamText}
use Rattle.lfi_stream.specs.Endings.{LosesIn, Ends}
use Rattle.lfi_stream.specs.Numbers.{progress_at}
use Rattle.lfi_verifier.specs.declared.state.LfiState.{LfiState}
use Rattle.lfi_verifier.specs.StreamVerdicts.{AreJudged}

going_before : (b : Bool) (q : Progress) (extent : ExtentView) (pages : ℕ) → (if b then Ended else q) ≡ Going extent pages → q ≡ Going extent pages
going_before true q extent pages e = absurd (cc)
going_before false q extent pages e = e

pub left : (event : Event) (fault : FrameFault) (old new : LfiStreamText) (states : List LfiState) (items : ℕ → List ItemView) → LosesIn fault old new event → AreJudged states (progress_at old.modules) items → AreJudged states (progress_at new.modules) items
left Nothing fault old new states items l h = λ m extent pages going. h m extent pages (ap (λ s. progress_at s.modules m) (sym (l.2 refl)) ∙ going)
left (End k lost came reason) fault old new states items l h = λ m extent pages going. h m extent pages (going_before (m == k) (progress_at old.modules m) extent pages (sym (l.0.0.at m) ∙ going))
left (Open k extent) fault old new states items l h = absurd l.0
left (Begin page) fault old new states items l h = absurd l.0
left (Code page ended) fault old new states items l h = absurd l.0
left (Stray k) fault old new states items l h = absurd l.0

-- where the input ends the modules are as they were
pub same_modules : (event : Result Event FrameFault) (old new : LfiStreamText) (messages : List Message) (rest : List ℕ) → Ends event old new messages rest → (m : ℕ) → progress_at new.modules m ≡ progress_at old.modules m
same_modules (Ok Nothing) old new messages rest e m = ap (λ s. progress_at s.modules m) e.1
same_modules (Err fault) old new messages rest e m = ap (λ s. progress_at s.modules m) e.2
same_modules (Ok (Open k extent)) old new messages rest e m = absurd e
same_modules (Ok (Begin page)) old new messages rest e m = absurd e
same_modules (Ok (Code page ended)) old new messages rest e m = absurd e
same_modules (Ok (Stray k)) old new messages rest e m = absurd e
same_modules (Ok (End k extent pages reason)) old new messages rest e m = absurd e

use Rattle.std.proofs.Common.{◌≡◌, ◌-◌, ◌≤◌, ℕ, length, sym, ◌∙◌, ap, arith}
use Rattle.lfi_frame.specs.declared.feed.Feed.{Feed}
use Rattle.lfi_frame.specs.declared.feed.Position.TheVariants.{Header, Payload}
use Rattle.std.specs.Prelude.{◌==◌, if◌then◌else◌}
use Rattle.std.proofs.lemmas.Bool.{eq-eqb}
use Rattle.lfi_frame.proofs.Feeding.{payload_told, not_eqb}
use Rattle.lfi_frame.proofs.feed.Feed.feed_payload.Goals.{then-left-eq0, else-left-eq0}
use Rattle.lfi_frame.proofs.feed.Feed.feed_payload.Goals as goal

pub returns-clause-told : goal.returns-clause-told
returns-clause-told c =
    let old : Feed = c.args.self.now in
    let new : Feed = c.if-left-eq0.self in
    let used : ℕ = c.min-used.result in
    let left : ℕ = c.args.left in
    let within : used ≤ length c.args.piece.now = omega (arith, c.min-used.ensures) in
    let most : used ≤ left = omega (arith, c.min-used.ensures) in
    let position : new.position ≡ (if left - used == 0 then Header 0 else Payload (left - used)) = elim c.if-left-eq0.branch [
      | then-left-eq0 w ↦ ap (λ (f : Feed). f.position) w.self-is ∙ sym (ap (λ b. if b then Header 0 else Payload (left - used)) (eq-eqb (left - used) 0 (omega arith)))
      | else-left-eq0 w ↦ ap (λ (f : Feed). f.position) w.self-is ∙ sym (ap (λ b. if b then Header 0 else Payload (left - used)) (not_eqb (left - used) 0 (w.if-left-eq0.false)))
    ] in
    λ messages rest stands. payload_told old new left used c.args.piece.now messages rest c.requires within most position stands

use Rattle.std.proofs.Common.{◌≡◌, true, refl, true≢false}
use Rattle.std.specs.Prelude.{Option, Some, None, is_none}
use Rattle.lfi_mends.specs.declared.reason.Reason.{Reason}
use Rattle.lfi_mends.specs.Obstacles.{of_need}
use Rattle.lfi_mends.proofs.mending.needed.Goals as goal

none_of : (reason : Option Reason) → true ≡ is_none reason → None ≡ reason
none_of None e = refl
none_of (Some reason) e = absurd (true≢false e)

pub returns-in-Some-clause-told : goal.returns-in-Some-clause-told
returns-in-Some-clause-told c = none_of (of_need c.args.need) c.in-Some.ensures.told

pub behind-requires-clause-stands : goal.behind-requires-clause-stands
behind-requires-clause-stands c = c.in-Some.ensures.stands c.args.profile

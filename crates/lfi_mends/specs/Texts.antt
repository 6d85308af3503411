-- The words for why there is no mend.
use Rattle.std.specs.Prelude.{ℕ, List, codes}
use Rattle.lfi_mends.specs.declared.reason.Reason.{Reason}
use Rattle.lfi_mends.specs.declared.reason.Reason.TheVariants as reasons

-- each reason in plain words
abbrev pub reason_text : Reason → List ℕ
reason_text reasons.Base = codes "no instruction may write x21"
reason_text reasons.Reserved = codes "a result goes to a register that the profile reserves"
reason_text reasons.Scratch = codes "it names x16 or x17, which a mend would write"
reason_text reasons.Place = codes "what it computes depends on where it stands"
reason_text reasons.Target = codes "where it should go isn't known"
reason_text reasons.Call = codes "only blr x30 may stand right after the load of a table entry"
reason_text reasons.Kept = codes "it keeps this rule"
reason_text reasons.Bits = codes "bits in the other order take more than eight instructions, but where CLZ in the next word counts them in the same register"
reason_text reasons.Outside = codes "no instructions of the profile are known that do the same"

-- It owns nothing, so any thread may share it.
use denote.RattleType.{RattleType}
use denote.Param.Send.{IsSend, IsSync, part_keyless}
use Rattle.lfi_auxiliary.specs.contracts.auxiliary.Auxiliary.{the_row}

any_send : (V : RattleType) → IsSend (the_row V)
any_send V = record { owned = λ d vs. ((λ vss. (tt, ((λ uss. (tt, tt)), tt))), tt); leaving = λ k f vs. tt }

pub sync : (V : RattleType) → IsSync (the_row V)
sync V = record { shared = λ d b o κ q. part_keyless (the_row V) (any_send V) q d b o }

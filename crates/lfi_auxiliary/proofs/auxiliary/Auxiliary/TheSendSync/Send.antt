-- It owns nothing, so it may go to any thread.
use denote.RattleType.{RattleType}
use denote.Param.Send.{IsSend}
use Rattle.lfi_auxiliary.specs.contracts.auxiliary.Auxiliary.{the_row}

pub send : (V : RattleType) → IsSend (the_row V)
send V = record { owned = λ d vs. ((λ vss. (tt, ((λ uss. (tt, tt)), tt))), tt); leaving = λ k f vs. tt }

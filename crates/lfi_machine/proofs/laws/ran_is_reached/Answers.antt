use Rattle.lfi_machine.proofs.Reached.{reached, stopped, used, refused}
use Rattle.lfi_machine.proofs.laws.ran_is_reached.Goals as goal

pub returns : goal.returns
returns g c = record {
  goes_on = λ a d h k count. reached g.R.Runtime.answers count a d h k;
  stops = λ a d h k count cause. stopped g.R.Runtime.answers count a d h k cause;
  steps_used = λ a d h k count. used g.R.Runtime.answers count a d h k;
  no_memory = λ a d h k count. refused g.R.Runtime.answers count a d h k;
}

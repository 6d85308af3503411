-- The image stays, over a run.
use Rattle.std.proofs.Common.{◌≡◌, ◌∙◌, ℕ, zero, suc, List, Option, ap}
use Rattle.lfi_machine.specs.declared.halt.Halt.{Halt}
use Rattle.lfi_machine.specs.declared.halt.Halt.TheVariants.{Stopped, StepsUsed, NoMemory}
use Rattle.lfi_machine.specs.Runs.{Config, EndsAt, Ran, RanThenHalts}
use Rattle.lfi_run_image.specs.Serving.{serves}

ran_image : (count : ℕ) (c d : Config) (h k : Option (List ℕ)) → Ran serves c h count d k → d.owned.image ≡ c.owned.image
ran_image zero c d h k ran = ap (λ x. x.owned.image) ran.0
ran_image (suc count) c d h k ran = ran.3.image ∙ ran_image count c ran.0 h ran.1 ran.2

ends_image : (halt : Halt) (c d : Config) (h k : Option (List ℕ)) → EndsAt serves halt c h d k → d.owned.image ≡ c.owned.image
ends_image StepsUsed c d h k ends = ap (λ x. x.owned.image) ends.0
ends_image (Stopped cause) c d h k ends = ends.image
ends_image NoMemory c d h k ends = ends.image

pub image_stays : (halt : Halt) (count : ℕ) (c d : Config) (h k : Option (List ℕ)) → RanThenHalts serves c h halt count d k → d.owned.image ≡ c.owned.image
image_stays halt count c d h k ran = ends_image halt ran.0 d ran.1 k ran.3 ∙ ran_image count c ran.0 h ran.1 ran.2

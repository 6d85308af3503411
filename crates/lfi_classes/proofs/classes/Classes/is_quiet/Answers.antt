use Rattle.lfi_classes.proofs.classes.Classes.is_quiet.Goals as goal

pub returns : goal.returns
returns c = λ word e h. c.is_quiet_from.ensures word c.args.reach e c.least.ensures h

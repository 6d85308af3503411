use Rattle.std.proofs.Common.{subst}
use Rattle.lfi_sequence.proofs.Comes.{come_once}
use Rattle.lfi_board.specs.Known.{module_of}
use Rattle.lfi_sequence.specs.Placed.{HandledBy}
use Rattle.lfi_sequence.proofs.sequence.Sequence.into_report.Goals as goal

pub returns : goal.returns
returns c = λ taken items sequenced come ended.
    c.report_of.ensures (module_of c.args.self.seat) items (subst (λ l. HandledBy (module_of c.args.self.seat) c.args.self.placing l) (come_once taken sequenced.come items sequenced.has_come come) sequenced.holds.built) ended

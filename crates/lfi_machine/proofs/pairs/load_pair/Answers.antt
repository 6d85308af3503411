use Rattle.lfi_machine.proofs.Moved.{pair_loaded}
use Rattle.lfi_machine.proofs.pairs.load_pair.Goals as goal

pub returns : goal.returns
returns c =
    pair_loaded c.args.slot.now c.args.registers.now c.put.new.self c.put-2.new.self c.args.i.now c.pair_size-size.result c.pair_bytes.result c.register_bytes-half.result
    c.args.address c.in_ok-offset.offset c.load-first.result c.load-second.result c.requires.load c.pair_size-size.ensures c.register_bytes-half.ensures.value c.pair_bytes.ensures.value
    c.in_ok-offset.ensures.ok c.load-first.ensures.value c.load-second.ensures.value c.put.ensures c.put-2.ensures

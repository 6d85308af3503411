use Rattle.std.proofs.Common.{rules, ℕ, Bor, List, Option, map, subst, sym, take}
use Rattle.lfi_sync.specs.Clients.{read_by}
use Rattle.lfi_file_commands.specs.Opening.{AreInputsOf}
use Rattle.lfi_file_commands.proofs.Inputs.{inputs_more, map_all, map_more, tells_one}
use Rattle.lfi_file_commands.proofs.opening.open_all.Goals as goal

pub loop-number-init : goal.loop-number-init
loop-number-init g c = record { all = search rules; each = λ k input text at by. absurd cc }

pub loop-number-preserved : goal.loop-number-preserved
loop-number-preserved g c =
    let k = c.loop-number.number in
    let paths = c.args.paths.now in
    let path = c.path_at.result in
    let file : Bor (List ℕ) → Option (List ℕ) = λ p. g.D.Disk.file_at c.args.disk.now p.now in
    subst (λ texts. AreInputsOf (read_by g.D.Reader.Read.remaining) texts c.push.new.self.items)
    (sym (map_more file paths k path c.path_at.ensures))
    (inputs_more (map file (take k paths)) c.loop-number.inputs.items c.push.new.self.items (file path) c.in-Ok.input c.loop-number.invariant c.in-Ok.ensures.input (search rules))

pub returns-in-Err-clause-failure : goal.returns-in-Err-clause-failure
returns-in-Err-clause-failure g c =
    let k = c.loop-number.number in
    let paths = c.args.paths.now in
    let path = c.path_at.result in
    let told = tells_one (λ (p : Bor (List ℕ)). p.now) paths k path c.in-Err.failure c.path_at.ensures c.in-Err.ensures.failure
    in told

pub returns-clause-inputs : goal.returns-clause-inputs
returns-clause-inputs g c =
    subst (λ texts. AreInputsOf (read_by g.D.Reader.Read.remaining) texts c.loop-number.inputs.items)
    (map_all (λ p. g.D.Disk.file_at c.args.disk.now p.now) c.args.paths.now c.loop-number.number (search rules)) c.loop-number.invariant

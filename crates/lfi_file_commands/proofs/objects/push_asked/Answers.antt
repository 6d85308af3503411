use Rattle.std.proofs.Common.{◌≡◌, ◌++◌, ℕ, List, OnOk, subst, sym}
use Rattle.std.specs.Prelude.{string_bytes}
use Rattle.lfi_file_commands.specs.Json.{RefusedMembers}
use Rattle.lfi_file_commands.proofs.FileObjects.{nothing_more}
use Rattle.lfi_file_commands.proofs.objects.push_asked.Goals as goal

pub push_first-requires-clause-fault : goal.push_first-requires-clause-fault
push_first-requires-clause-fault c = c.requires.fault

pub push_first-requires-clause-most : goal.push_first-requires-clause-most
push_first-requires-clause-most c = c.requires.most

pub returns-in-Nothing : goal.returns-in-Nothing
returns-in-Nothing c = nothing_more c.args.asked.now.profile c.args.asked.now.explain c.args.code.now c.args.fault _ c.in-Nothing.is

pub returns-in-First : goal.returns-in-First
returns-in-First c =
    let did = c.push_first in
    subst (λ how. OnOk did.result ((more : List ℕ) × RefusedMembers c.args.asked.now.profile how c.args.code.now c.args.fault more × (string_bytes did.new.text ≡ string_bytes c.args.text.now ++ more)))
    (sym c.in-First.is) did.ensures

pub returns-in-All : goal.returns-in-All
returns-in-All c =
    let did = c.push_all in
    subst (λ how. OnOk did.result ((more : List ℕ) × RefusedMembers c.args.asked.now.profile how c.args.code.now c.args.fault more × (string_bytes did.new.text ≡ string_bytes c.args.text.now ++ more)))
    (sym c.in-All.is) did.ensures

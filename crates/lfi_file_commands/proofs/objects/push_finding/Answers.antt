use Rattle.std.proofs.Common.{◌≡◌, ◌++◌, ℕ, List, OnOk, Some, codes, decimal, refl, subst, sym}
use Rattle.std.specs.Prelude.{string_bytes}
use Rattle.std.proofs.lemmas.Result.{on_ok_weaker}
use Rattle.lfi_file_commands.specs.Json.{IsFindingText, kind_member}
use Rattle.lfi_file_commands.specs.inner.Whole.{IsFoundOf}
use Rattle.lfi_file_commands.proofs.objects.push_finding.Goals as goal

pub push_refused_code-requires-clause-code : goal.push_refused_code-requires-clause-code
push_refused_code-requires-clause-code c = (subst (IsFoundOf c.args.asked.now.profile c.args.bytes.now) c.in-Refused.is c.requires).0

pub push_refused_code-requires-clause-fault : goal.push_refused_code-requires-clause-fault
push_refused_code-requires-clause-fault c = (subst (IsFoundOf c.args.asked.now.profile c.args.bytes.now) c.in-Refused.is c.requires).1

pub returns-in-Lawful : goal.returns-in-Lawful
returns-in-Lawful c =
    let asked = c.args.asked.now in
    let did = c.push_lawful in
    let told = codes ",\"verdict\":\"lawful\",\"words\":" ++ decimal c.in-Lawful.words in
    subst (λ finding. OnOk did.result ((told : List ℕ) × IsFindingText asked.profile asked.explain (Some c.args.bytes.now) finding told × (string_bytes did.new.text ≡ string_bytes c.args.text.now ++ told)))
    (sym c.in-Lawful.is) (on_ok_weaker did.result (λ same. (told, refl, same)) did.ensures)

pub returns-in-Refused : goal.returns-in-Refused
returns-in-Refused c =
    let asked = c.args.asked.now in
    let did = c.push_refused_code in
    let checks = subst (IsFoundOf asked.profile c.args.bytes.now) c.in-Refused.is c.requires in
    subst (λ finding. OnOk did.result ((told : List ℕ) × IsFindingText asked.profile asked.explain (Some c.args.bytes.now) finding told × (string_bytes did.new.text ≡ string_bytes c.args.text.now ++ told)))
    (sym c.in-Refused.is) (on_ok_weaker did.result (λ pushed. (pushed.0, (c.args.bytes.now, refl, checks, pushed.1), pushed.2)) did.ensures)

pub returns-in-NoCode : goal.returns-in-NoCode
returns-in-NoCode c =
    let asked = c.args.asked.now in
    let did = c.push_no_code in
    let n = c.in-NoCode.no_code in
    let told = codes ",\"verdict\":\"bad length\",\"bytes\":" ++ decimal n.bytes ++ kind_member n.kind in
    subst (λ finding. OnOk did.result ((told : List ℕ) × IsFindingText asked.profile asked.explain (Some c.args.bytes.now) finding told × (string_bytes did.new.text ≡ string_bytes c.args.text.now ++ told)))
    (sym c.in-NoCode.is) (on_ok_weaker did.result (λ same. (told, refl, same)) did.ensures)

use Rattle.std.proofs.Common.{◌≤◌, ◌++◌, Some, ap, codes, length, refl, subst, sym}
use Rattle.std.specs.Prelude.{string_bytes}
use Rattle.std.proofs.lemmas.Result.{on_ok_weaker}
use Rattle.a64_word.specs.Words.{words_of}
use Rattle.lfi_module.specs.Numbers.{most_words}
use Rattle.lfi_rules.specs.Faults.{FirstFault}
use Rattle.lfi_check.proofs.Spelled.{few}
use Rattle.lfi_file_commands.specs.Json.{RefusedMembers, fault_members, kind_member}
use Rattle.lfi_file_commands.specs.Kinds.{file_kind}
use Rattle.lfi_file_commands.proofs.Pushed.{more, more_as}
use Rattle.lfi_file_commands.proofs.objects.push_refused_code.Goals as goal

pub push_asked-requires-clause-fault : goal.push_asked-requires-clause-fault
push_asked-requires-clause-fault c =
    subst (λ code. FirstFault c.args.asked.now.profile (words_of code) (length (words_of code)) (Some c.args.fault)) (sym c.of-code.ensures) c.requires.fault

pub push_asked-requires-clause-most : goal.push_asked-requires-clause-most
push_asked-requires-clause-most c = subst (λ code. length (words_of code) ≤ most_words) (sym c.of-code.ensures) (few c.args.bytes.now c.requires.code)

pub returns : goal.returns
returns c =
    let asked = c.args.asked.now in
    let did = c.in_ok-push_asked.ensures in
    let members = subst (λ code. RefusedMembers asked.profile asked.explain code c.args.fault did.0) c.of-code.ensures did.1 in
    let old = string_bytes c.args.text.now in
    let first = codes ",\"verdict\":\"refused\"," in
    let fault = fault_members c.args.fault in
    let told = codes ",\"verdict\":\"refused\"," ++ fault_members c.args.fault ++ did.0 ++ kind_member (file_kind c.args.bytes.now) in
    let before = more old _ _ (first ++ fault) did.0 (more old _ _ first fault c.in_ok-push_plain.ensures c.in_ok-push_fault.ensures) did.2 in
    on_ok_weaker c.push_kind.result (λ last. (told, (did.0, members, refl), more_as old _ _ (first ++ fault ++ did.0) (kind_member c.of.result) (kind_member (file_kind c.args.bytes.now)) (ap kind_member c.of.ensures) before last)) c.push_kind.ensures

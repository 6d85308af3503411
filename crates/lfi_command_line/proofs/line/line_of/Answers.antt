use Rattle.std.proofs.Common.{◌≡◌, IfSome, List, Some, refl, sym, subst, codes, option_map, true≢false}
use Rattle.std.proofs.lemmas.Result.{IfOk-weaker, IfErr-weaker}
use Rattle.clap.specs.Words.{Text, found_of, rows_of, subcommand_rows_of}
use Rattle.lfi_command_line.proofs.Asked.{format_fault, given_for, no_memory, pack_fault, run_met, taken_for}
use Rattle.lfi_command_line.proofs.line.line_of.Goals as goal

pub check_line-requires : goal.check_line-requires
check_line-requires c =
    let given = given_for c.requires.taken.0 c.args.matches.now (codes "check") _ c.requires.taken.1 (c.in-Some.ensures.found.0 refl) c.in-Some.ensures.rows in
    record { file = given.1.1.1.0.0 refl; profile = given.1.1.0.1 }

pub returns-in-Some-clause-fault : goal.returns-in-Some-clause-fault
returns-in-Some-clause-fault c = λ words by_words.
    let taken = taken_for words c.args.matches.now (codes "check") _ by_words (c.in-Some.ensures.found.0 refl) c.in-Some.ensures.rows in
    IfErr-weaker c.check_line.result _ _ (λ fault by. format_fault words (codes "check") (rows_of (found_of c.in-Some.check.now)) fault taken by) c.check_line.ensures.fault

pub returns-in-Some-clause-line : goal.returns-in-Some-clause-line
returns-in-Some-clause-line c = λ words by_words.
    let taken = taken_for words c.args.matches.now (codes "check") _ by_words (c.in-Some.ensures.found.0 refl) c.in-Some.ensures.rows in
    IfOk-weaker c.check_line.result _ _ (λ line by. (codes "check", rows_of (found_of c.in-Some.check.now), taken, by)) c.check_line.ensures.line

pub load_line-requires-clause-streams : goal.load_line-requires-clause-streams
load_line-requires-clause-streams c =
    let given = given_for c.requires.taken.0 c.args.matches.now (codes "load") _ c.requires.taken.1 (c.in-Some-subcommand_matches.ensures.found.0 refl) c.in-Some-subcommand_matches.ensures.rows in
    given.1.1.0.0 refl

pub load_line-requires-clause-verifiers : goal.load_line-requires-clause-verifiers
load_line-requires-clause-verifiers c =
    let given = given_for c.requires.taken.0 c.args.matches.now (codes "load") _ c.requires.taken.1 (c.in-Some-subcommand_matches.ensures.found.0 refl) c.in-Some-subcommand_matches.ensures.rows in
    given.0.1

pub returns-in-Some-subcommand_matches-clause-line : goal.returns-in-Some-subcommand_matches-clause-line
returns-in-Some-subcommand_matches-clause-line c = λ words by_words.
    let taken = taken_for words c.args.matches.now (codes "load") _ by_words (c.in-Some-subcommand_matches.ensures.found.0 refl) c.in-Some-subcommand_matches.ensures.rows in
    IfOk-weaker c.load_line.result _ _ (λ line by. (codes "load", rows_of (found_of c.in-Some-subcommand_matches.load.now), taken, by)) c.load_line.ensures.line

pub returns-in-Some-subcommand_matches-clause-fault : goal.returns-in-Some-subcommand_matches-clause-fault
returns-in-Some-subcommand_matches-clause-fault c = λ words by_words.
    let taken = taken_for words c.args.matches.now (codes "load") _ by_words (c.in-Some-subcommand_matches.ensures.found.0 refl) c.in-Some-subcommand_matches.ensures.rows in
    IfErr-weaker c.load_line.result _ _ (λ fault by. format_fault words (codes "load") (rows_of (found_of c.in-Some-subcommand_matches.load.now)) fault taken by) c.load_line.ensures.fault

pub serve_line-requires-clause-socket : goal.serve_line-requires-clause-socket
serve_line-requires-clause-socket c =
    let given = given_for c.requires.taken.0 c.args.matches.now (codes "serve") _ c.requires.taken.1 (c.in-Some-subcommand_matches-2.ensures.found.0 refl) c.in-Some-subcommand_matches-2.ensures.rows in
    given.0.0 refl

pub serve_line-requires-clause-connections : goal.serve_line-requires-clause-connections
serve_line-requires-clause-connections c =
    let given = given_for c.requires.taken.0 c.args.matches.now (codes "serve") _ c.requires.taken.1 (c.in-Some-subcommand_matches-2.ensures.found.0 refl) c.in-Some-subcommand_matches-2.ensures.rows in
    given.1.0.0 refl

pub serve_line-requires-clause-connection_count : goal.serve_line-requires-clause-connection_count
serve_line-requires-clause-connection_count c =
    let given = given_for c.requires.taken.0 c.args.matches.now (codes "serve") _ c.requires.taken.1 (c.in-Some-subcommand_matches-2.ensures.found.0 refl) c.in-Some-subcommand_matches-2.ensures.rows in
    given.1.0.1

pub serve_line-requires-clause-verifiers : goal.serve_line-requires-clause-verifiers
serve_line-requires-clause-verifiers c =
    let given = given_for c.requires.taken.0 c.args.matches.now (codes "serve") _ c.requires.taken.1 (c.in-Some-subcommand_matches-2.ensures.found.0 refl) c.in-Some-subcommand_matches-2.ensures.rows in
    given.1.1.0.1

pub serve_line-requires-clause-seconds : goal.serve_line-requires-clause-seconds
serve_line-requires-clause-seconds c =
    let given = given_for c.requires.taken.0 c.args.matches.now (codes "serve") _ c.requires.taken.1 (c.in-Some-subcommand_matches-2.ensures.found.0 refl) c.in-Some-subcommand_matches-2.ensures.rows in
    given.1.1.1.0.1

pub returns-in-Some-subcommand_matches-2-clause-line : goal.returns-in-Some-subcommand_matches-2-clause-line
returns-in-Some-subcommand_matches-2-clause-line c = λ words by_words.
    let taken = taken_for words c.args.matches.now (codes "serve") _ by_words (c.in-Some-subcommand_matches-2.ensures.found.0 refl) c.in-Some-subcommand_matches-2.ensures.rows in
    IfOk-weaker c.serve_line.result _ _ (λ line by. (codes "serve", rows_of (found_of c.in-Some-subcommand_matches-2.serve.now), taken, by)) c.serve_line.ensures.line

pub returns-in-Some-subcommand_matches-2-clause-fault : goal.returns-in-Some-subcommand_matches-2-clause-fault
returns-in-Some-subcommand_matches-2-clause-fault c = λ words by_words.
    let taken = taken_for words c.args.matches.now (codes "serve") _ by_words (c.in-Some-subcommand_matches-2.ensures.found.0 refl) c.in-Some-subcommand_matches-2.ensures.rows in
    IfErr-weaker c.serve_line.result _ _ (λ fault by. format_fault words (codes "serve") (rows_of (found_of c.in-Some-subcommand_matches-2.serve.now)) fault taken by) c.serve_line.ensures.fault

pub disassemble_line-requires : goal.disassemble_line-requires
disassemble_line-requires c =
    let given = given_for c.requires.taken.0 c.args.matches.now (codes "disassemble") _ c.requires.taken.1 (c.in-Some-subcommand_matches-3.ensures.found.0 refl) c.in-Some-subcommand_matches-3.ensures.rows in
    record { file = given.1.1.0.0 refl; profile = given.1.0.1 }

pub returns-in-Some-subcommand_matches-3-clause-line : goal.returns-in-Some-subcommand_matches-3-clause-line
returns-in-Some-subcommand_matches-3-clause-line c = λ words by_words.
    let taken = taken_for words c.args.matches.now (codes "disassemble") _ by_words (c.in-Some-subcommand_matches-3.ensures.found.0 refl) c.in-Some-subcommand_matches-3.ensures.rows in
    (codes "disassemble", rows_of (found_of c.in-Some-subcommand_matches-3.disassemble.now), taken, c.disassemble_line.ensures)

pub pack_line-requires-clause-codes : goal.pack_line-requires-clause-codes
pack_line-requires-clause-codes c =
    let given = given_for c.requires.taken.0 c.args.matches.now (codes "pack") _ c.requires.taken.1 (c.in-Some-subcommand_matches-4.ensures.found.0 refl) c.in-Some-subcommand_matches-4.ensures.rows in
    given.1.1.1.1.0.0 refl

pub pack_line-requires-clause-module : goal.pack_line-requires-clause-module
pack_line-requires-clause-module c =
    let given = given_for c.requires.taken.0 c.args.matches.now (codes "pack") _ c.requires.taken.1 (c.in-Some-subcommand_matches-4.ensures.found.0 refl) c.in-Some-subcommand_matches-4.ensures.rows in
    given.0.1

pub pack_line-requires-clause-entry : goal.pack_line-requires-clause-entry
pack_line-requires-clause-entry c =
    let given = given_for c.requires.taken.0 c.args.matches.now (codes "pack") _ c.requires.taken.1 (c.in-Some-subcommand_matches-4.ensures.found.0 refl) c.in-Some-subcommand_matches-4.ensures.rows in
    given.1.0.1

pub pack_line-requires-clause-profile : goal.pack_line-requires-clause-profile
pack_line-requires-clause-profile c =
    let given = given_for c.requires.taken.0 c.args.matches.now (codes "pack") _ c.requires.taken.1 (c.in-Some-subcommand_matches-4.ensures.found.0 refl) c.in-Some-subcommand_matches-4.ensures.rows in
    given.1.1.0.1

pub returns-in-Some-subcommand_matches-4-clause-line : goal.returns-in-Some-subcommand_matches-4-clause-line
returns-in-Some-subcommand_matches-4-clause-line c = λ words by_words.
    let taken = taken_for words c.args.matches.now (codes "pack") _ by_words (c.in-Some-subcommand_matches-4.ensures.found.0 refl) c.in-Some-subcommand_matches-4.ensures.rows in
    IfOk-weaker c.pack_line.result _ _ (λ line by. (codes "pack", rows_of (found_of c.in-Some-subcommand_matches-4.pack.now), taken, by)) c.pack_line.ensures.line

pub returns-in-Some-subcommand_matches-4-clause-fault : goal.returns-in-Some-subcommand_matches-4-clause-fault
returns-in-Some-subcommand_matches-4-clause-fault c = λ words by_words.
    let taken = taken_for words c.args.matches.now (codes "pack") _ by_words (c.in-Some-subcommand_matches-4.ensures.found.0 refl) c.in-Some-subcommand_matches-4.ensures.rows in
    IfErr-weaker c.pack_line.result _ _ (λ fault by. pack_fault words (rows_of (found_of c.in-Some-subcommand_matches-4.pack.now)) fault taken by) c.pack_line.ensures.fault

pub unpack_line-requires : goal.unpack_line-requires
unpack_line-requires c =
    let given = given_for c.requires.taken.0 c.args.matches.now (codes "unpack") _ c.requires.taken.1 (c.in-Some-subcommand_matches-5.ensures.found.0 refl) c.in-Some-subcommand_matches-5.ensures.rows in
    record { image = given.0.0 refl }

pub returns-in-Some-subcommand_matches-5-clause-line : goal.returns-in-Some-subcommand_matches-5-clause-line
returns-in-Some-subcommand_matches-5-clause-line c = λ words by_words.
    let taken = taken_for words c.args.matches.now (codes "unpack") _ by_words (c.in-Some-subcommand_matches-5.ensures.found.0 refl) c.in-Some-subcommand_matches-5.ensures.rows in
    (codes "unpack", rows_of (found_of c.in-Some-subcommand_matches-5.unpack.now), taken, c.unpack_line.ensures)

pub info_line-requires : goal.info_line-requires
info_line-requires c =
    let given = given_for c.requires.taken.0 c.args.matches.now (codes "info") _ c.requires.taken.1 (c.in-Some-subcommand_matches-6.ensures.found.0 refl) c.in-Some-subcommand_matches-6.ensures.rows in
    given.0.0 refl

pub returns-in-Some-subcommand_matches-6-clause-fault : goal.returns-in-Some-subcommand_matches-6-clause-fault
returns-in-Some-subcommand_matches-6-clause-fault c = λ words by_words. IfErr-weaker c.info_line.result _ _ (λ fault by. no_memory words fault by) c.info_line.ensures.fault

pub returns-in-Some-subcommand_matches-6-clause-line : goal.returns-in-Some-subcommand_matches-6-clause-line
returns-in-Some-subcommand_matches-6-clause-line c = λ words by_words.
    let taken = taken_for words c.args.matches.now (codes "info") _ by_words (c.in-Some-subcommand_matches-6.ensures.found.0 refl) c.in-Some-subcommand_matches-6.ensures.rows in
    IfOk-weaker c.info_line.result _ _ (λ line by. (codes "info", rows_of (found_of c.in-Some-subcommand_matches-6.info.now), taken, by)) c.info_line.ensures.line

pub unwrap-requires : goal.unwrap-requires
unwrap-requires c =
    let words : List Text = c.requires.taken.0 in
    let matches = c.args.matches.now in
    let met = run_met words matches c.requires.taken.1 (λ is. absurd (true≢false (sym (c.in_default.ensures.found.1 is))))
    (λ is. absurd (true≢false (sym (c.in_default-subcommand_matches.ensures.found.1 is)))) (λ is. absurd (true≢false (sym (c.in_default-subcommand_matches-2.ensures.found.1 is))))
    (λ is. absurd (true≢false (sym (c.in_default-subcommand_matches-3.ensures.found.1 is)))) (λ is. absurd (true≢false (sym (c.in_default-subcommand_matches-4.ensures.found.1 is))))
    (λ is. absurd (true≢false (sym (c.in_default-subcommand_matches-5.ensures.found.1 is)))) (λ is. absurd (true≢false (sym (c.in_default-subcommand_matches-6.ensures.found.1 is)))) in
    c.subcommand_matches-8.ensures.found.1 met

pub run_line-requires-clause-image : goal.run_line-requires-clause-image
run_line-requires-clause-image c =
    let words : List Text = c.requires.taken.0 in
    let matches = c.args.matches.now in
    let met = run_met words matches c.requires.taken.1 (λ is. absurd (true≢false (sym (c.in_default.ensures.found.1 is))))
    (λ is. absurd (true≢false (sym (c.in_default-subcommand_matches.ensures.found.1 is)))) (λ is. absurd (true≢false (sym (c.in_default-subcommand_matches-2.ensures.found.1 is))))
    (λ is. absurd (true≢false (sym (c.in_default-subcommand_matches-3.ensures.found.1 is)))) (λ is. absurd (true≢false (sym (c.in_default-subcommand_matches-4.ensures.found.1 is))))
    (λ is. absurd (true≢false (sym (c.in_default-subcommand_matches-5.ensures.found.1 is)))) (λ is. absurd (true≢false (sym (c.in_default-subcommand_matches-6.ensures.found.1 is)))) in
    let rows = rows_of (found_of c.unwrap.result.now) in
    let at_rows = subst (λ o. IfSome o (λ m. option_map (λ p. p.1) (subcommand_rows_of matches) ≡ Some (rows_of (found_of m.now)))) c.unwrap.ensures c.subcommand_matches-8.ensures.rows in
    let given = given_for words matches (codes "run") rows c.requires.taken.1 met at_rows in
    given.1.0.0 refl

pub run_line-requires-clause-steps : goal.run_line-requires-clause-steps
run_line-requires-clause-steps c =
    let words : List Text = c.requires.taken.0 in
    let matches = c.args.matches.now in
    let met = run_met words matches c.requires.taken.1 (λ is. absurd (true≢false (sym (c.in_default.ensures.found.1 is))))
    (λ is. absurd (true≢false (sym (c.in_default-subcommand_matches.ensures.found.1 is)))) (λ is. absurd (true≢false (sym (c.in_default-subcommand_matches-2.ensures.found.1 is))))
    (λ is. absurd (true≢false (sym (c.in_default-subcommand_matches-3.ensures.found.1 is)))) (λ is. absurd (true≢false (sym (c.in_default-subcommand_matches-4.ensures.found.1 is))))
    (λ is. absurd (true≢false (sym (c.in_default-subcommand_matches-5.ensures.found.1 is)))) (λ is. absurd (true≢false (sym (c.in_default-subcommand_matches-6.ensures.found.1 is)))) in
    let rows = rows_of (found_of c.unwrap.result.now) in
    let at_rows = subst (λ o. IfSome o (λ m. option_map (λ p. p.1) (subcommand_rows_of matches) ≡ Some (rows_of (found_of m.now)))) c.unwrap.ensures c.subcommand_matches-8.ensures.rows in
    let given = given_for words matches (codes "run") rows c.requires.taken.1 met at_rows in
    given.0.0 refl

pub run_line-requires-clause-number : goal.run_line-requires-clause-number
run_line-requires-clause-number c =
    let words : List Text = c.requires.taken.0 in
    let matches = c.args.matches.now in
    let met = run_met words matches c.requires.taken.1 (λ is. absurd (true≢false (sym (c.in_default.ensures.found.1 is))))
    (λ is. absurd (true≢false (sym (c.in_default-subcommand_matches.ensures.found.1 is)))) (λ is. absurd (true≢false (sym (c.in_default-subcommand_matches-2.ensures.found.1 is))))
    (λ is. absurd (true≢false (sym (c.in_default-subcommand_matches-3.ensures.found.1 is)))) (λ is. absurd (true≢false (sym (c.in_default-subcommand_matches-4.ensures.found.1 is))))
    (λ is. absurd (true≢false (sym (c.in_default-subcommand_matches-5.ensures.found.1 is)))) (λ is. absurd (true≢false (sym (c.in_default-subcommand_matches-6.ensures.found.1 is)))) in
    let rows = rows_of (found_of c.unwrap.result.now) in
    let at_rows = subst (λ o. IfSome o (λ m. option_map (λ p. p.1) (subcommand_rows_of matches) ≡ Some (rows_of (found_of m.now)))) c.unwrap.ensures c.subcommand_matches-8.ensures.rows in
    let given = given_for words matches (codes "run") rows c.requires.taken.1 met at_rows in
    given.0.1

pub returns-clause-line : goal.returns-clause-line
returns-clause-line c = λ words by_words.
    let matches = c.args.matches.now in
    let met = run_met words matches by_words (λ is. absurd (true≢false (sym (c.in_default.ensures.found.1 is))))
    (λ is. absurd (true≢false (sym (c.in_default-subcommand_matches.ensures.found.1 is)))) (λ is. absurd (true≢false (sym (c.in_default-subcommand_matches-2.ensures.found.1 is))))
    (λ is. absurd (true≢false (sym (c.in_default-subcommand_matches-3.ensures.found.1 is)))) (λ is. absurd (true≢false (sym (c.in_default-subcommand_matches-4.ensures.found.1 is))))
    (λ is. absurd (true≢false (sym (c.in_default-subcommand_matches-5.ensures.found.1 is)))) (λ is. absurd (true≢false (sym (c.in_default-subcommand_matches-6.ensures.found.1 is)))) in
    let rows = rows_of (found_of c.unwrap.result.now) in
    let at_rows = subst (λ o. IfSome o (λ m. option_map (λ p. p.1) (subcommand_rows_of matches) ≡ Some (rows_of (found_of m.now)))) c.unwrap.ensures c.subcommand_matches-8.ensures.rows in
    let taken = taken_for words matches (codes "run") rows by_words met at_rows in
    IfOk-weaker c.run_line.result _ _ (λ line by. (codes "run", rows, taken, by)) c.run_line.ensures.line

pub returns-clause-fault : goal.returns-clause-fault
returns-clause-fault c = λ words by_words.
    let matches = c.args.matches.now in
    let met = run_met words matches by_words (λ is. absurd (true≢false (sym (c.in_default.ensures.found.1 is))))
    (λ is. absurd (true≢false (sym (c.in_default-subcommand_matches.ensures.found.1 is)))) (λ is. absurd (true≢false (sym (c.in_default-subcommand_matches-2.ensures.found.1 is))))
    (λ is. absurd (true≢false (sym (c.in_default-subcommand_matches-3.ensures.found.1 is)))) (λ is. absurd (true≢false (sym (c.in_default-subcommand_matches-4.ensures.found.1 is))))
    (λ is. absurd (true≢false (sym (c.in_default-subcommand_matches-5.ensures.found.1 is)))) (λ is. absurd (true≢false (sym (c.in_default-subcommand_matches-6.ensures.found.1 is)))) in
    let rows = rows_of (found_of c.unwrap.result.now) in
    let at_rows = subst (λ o. IfSome o (λ m. option_map (λ p. p.1) (subcommand_rows_of matches) ≡ Some (rows_of (found_of m.now)))) c.unwrap.ensures c.subcommand_matches-8.ensures.rows in
    let taken = taken_for words matches (codes "run") rows by_words met at_rows in
    IfErr-weaker c.run_line.result _ _ (λ fault by. format_fault words (codes "run") rows fault taken by) c.run_line.ensures.fault

use Rattle.std.proofs.Common.{nat_lt, length, sym, subst}
use Rattle.lfi_file_commands.specs.Info.{IsShortInfo, most_told}
use Rattle.lfi_file_commands.specs.Listing.{listed_text, marks_by}
use Rattle.tests_commands.proofs.Told.{listed_well, told_now}
use Rattle.tests_commands.proofs.laws.no_file_is_put.Goals as goal

pub returns-clause-listed : goal.returns-clause-listed
returns-clause-listed a asked bytes old new is =
    let well = listed_well (marks_by asked.marks) asked.profile bytes new.is_lost is.listed old.out new.out is.ends is.written in
    (well.0, well.1, well.2, well.3, is.put)

pub returns-clause-told : goal.returns-clause-told
returns-clause-told a asked bytes old new ending is kept = told_now new.is_lost old.errors new.errors (listed_text asked.file.now is.listed) kept is.told

pub returns-clause-packed : goal.returns-clause-packed
returns-clause-packed a asked file_at old new ending is = is.put

pub returns-clause-informed : goal.returns-clause-informed
returns-clause-informed a bytes old new ending is =
    (subst (λ all. IsShortInfo (nat_lt most_told (length all)) all is.text ending) (sym is.info.same) is.info.info, is.written, is.put, is.told.0)

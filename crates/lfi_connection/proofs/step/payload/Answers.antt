use Rattle.std.proofs.Common.{◌++◌, sym, subst, false, true, drop, length}
use Rattle.lfi_connection.specs.DuePages.{GoesOn}
use Rattle.lfi_connection.proofs.Texts.{payload_within}
use Rattle.lfi_connection.proofs.Books.{passing_more, passing_ends, goes, code_of_page, coming_more, page_ended}
use Rattle.lfi_connection.proofs.step.payload.Goals as goal

pub returns-in_default-clause-more : goal.returns-in_default-clause-more
returns-in_default-clause-more g c = λ claimed ms rest used m size index len part long holds is is'.
    passing_more (g.P.ProgressTable.progress_at c.args.table.now) c.args.coming claimed ms rest used (drop 12 rest ++ used) m size index len c.in_default.is holds is is'

pub returns-in_default-clause-whole : goal.returns-in_default-clause-whole
returns-in_default-clause-whole g c = λ claimed ms rest used m size index len all long holds is full.
    passing_ends (g.P.ProgressTable.progress_at c.args.table.now) c.args.coming claimed ms rest used m size index len c.in_default.is holds is full

pub returns-then-not-goes_on-clause-more : goal.returns-then-not-goes_on-clause-more
returns-then-not-goes_on-clause-more g c = λ claimed ms rest used m size index len part long holds is is'.
    let P = g.P.ProgressTable.progress_at c.args.table.now in
    let page = c.in-Some.page in
    let fits : GoesOn page (length used) false = goes P c.args.coming claimed ms rest used page m size index len c.in-Some.is holds is false (payload_within rest used m size index len is is') in
    let goes_on : GoesOn page c.args.count c.args.ended = subst (λ b. GoesOn page c.args.count b) (sym part) (subst (λ n. GoesOn page n false) long fits) in
    absurd (let yes = c.goes_on.ensures.1 goes_on in let no = c.if-not-goes_on.true in cc)

pub returns-then-not-goes_on-clause-whole : goal.returns-then-not-goes_on-clause-whole
returns-then-not-goes_on-clause-whole g c = λ claimed ms rest used m size index len all long holds is full.
    let P = g.P.ProgressTable.progress_at c.args.table.now in
    let page = c.in-Some.page in
    let fits : GoesOn page (length used) true = goes P c.args.coming claimed ms rest used page m size index len c.in-Some.is holds is true full in
    let goes_on : GoesOn page c.args.count c.args.ended = subst (λ b. GoesOn page c.args.count b) (sym all) (subst (λ n. GoesOn page n true) long fits) in
    absurd (let yes = c.goes_on.ensures.1 goes_on in let no = c.if-not-goes_on.true in cc)

pub returns-then-not-ended-clause-more : goal.returns-then-not-ended-clause-more
returns-then-not-ended-clause-more g c = λ claimed ms rest used m size index len part long holds is is'.
    let P = g.P.ProgressTable.progress_at c.args.table.now in
    let page = c.in-Some.page in
    let more = coming_more P c.args.coming claimed ms rest used page m size index len c.in-Some.is holds is is' in
    (more.0, more.1, code_of_page P c.args.coming claimed ms rest used page m size index len c.in-Some.is holds is false (payload_within rest used m size index len is is'))

pub returns-clause-whole : goal.returns-clause-whole
returns-clause-whole g c = λ claimed ms rest used m size index len all long holds is full.
    let P = g.P.ProgressTable.progress_at c.args.table.now in
    let page = c.in-Some.page in
    let ended = page_ended P c.args.coming claimed ms rest used page m size index len c.in-Some.is holds is (g.P.ProgressTable.progress_at c.set.new.self) c.set.ensures.at full in
    (ended.0, ended.1, code_of_page P c.args.coming claimed ms rest used page m size index len c.in-Some.is holds is true full)

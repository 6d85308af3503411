use Rattle.tests_profile.proofs.pages.fault_by_pages.Given as goal

abbrev pub invariant-loop-page : goal.invariant-loop-page
invariant-loop-page l =
    (goal.iterator-loop-page).can_next l.page-iterator ×
    (goal.iterator-loop-page).is_finite l.page-iterator

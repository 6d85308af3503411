-- What a receiver asks the pool of pages. Only private clauses and proofs use it.
use Rattle.std.specs.Prelude.{◌⊎◌}
use Rattle.page_buf.specs.Members.{MemberView}
use Rattle.page_buf.specs.SeenSlots.{Found, Passed, full}

-- The pool was asked for a page: a slot was found full, or each was found not full.
abbrev pub Asks : (old new : MemberView) → Type 0
Asks old new = Found full old.seen new.seen ⊎ Passed full 64 old.seen new.seen

-- What a sequencer hands the pool of pages. Only private clauses and proofs use it.
use Rattle.std.specs.Prelude.{◌≡◌, ◌≢◌, ◌⊎◌, ℕ}
use Rattle.lfi_module.specs.Numbers.{small_page}
use Rattle.page_buf.specs.Members.{MemberView}
use Rattle.page_buf.specs.SeenSlots.{Found, Passed, empty}

-- The pool was asked to take a page of this size. A small one: a slot was found empty, or each was found not empty. A large one, which it doesn't take: no slot was tried.
abbrev pub Offers : (size : ℕ) (old new : MemberView) → Type 0
Offers size old new = (size ≡ small_page → Found empty old.seen new.seen ⊎ Passed empty 64 old.seen new.seen) × (size ≢ small_page → new.seen ≡ old.seen)

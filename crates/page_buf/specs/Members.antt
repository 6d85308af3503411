-- What a clause sees of a member of a pool.
use Rattle.std.specs.Prelude.{List}
use Rattle.atomic_table.specs.Seated.{TableId}
use Rattle.page_buf.specs.declared.knowledge.SeenSlot.{SeenSlot}

-- which pool it shares, and what it has found at the slots, the last first
pub record MemberView : Type 0 where
  pub pool : TableId
  pub seen : List SeenSlot

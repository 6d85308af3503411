-- What a clause sees of a pool and of its seats.
use Rattle.std.specs.Prelude.{List}
use Rattle.atomic_table.specs.Seated.{TableId}
use Rattle.page_buf.specs.declared.knowledge.SeenSlot.{SeenSlot}
use Rattle.page_buf.specs.declared.pool.Pool.{Pool}
use Rattle.page_buf.specs.declared.pool.PoolSeat.{PoolSeat}

-- which pool it is
abbrev pub pool_id : Pool → TableId
pool_id pool = pool.table.shared.table_id

-- which pool's a seat is
abbrev pub pool_of : PoolSeat → TableId
pool_of seat = seat.seat.table_id

-- what it has found at the slots, the last first
abbrev pub seen_by : PoolSeat → List SeenSlot
seen_by seat = seat.seat.me.0.seen

use Rattle.std.proofs.Common.{◌≡◌, [], All, vec_len}
use Rattle.page_buf.proofs.pool.sit_all.Given as goal

abbrev pub invariant-loop : goal.invariant-loop
invariant-loop l = (vec_len l.seats ≡ l.counter) × All (λ s. s.seat.table_id ≡ l.top.table_id) l.seats.items × All (λ s. s.seat.me.0.seen ≡ []) l.seats.items

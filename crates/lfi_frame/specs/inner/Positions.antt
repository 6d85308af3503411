-- What a feed's position says of the bytes that it holds and waits for.
use Rattle.std.specs.Prelude.{ℕ, Bool, false, ◌==◌}
use Rattle.lfi_frame.specs.declared.feed.Position.{Position}
use Rattle.lfi_frame.specs.declared.feed.Position.TheVariants.{Header, Payload, Faulty}

-- the bytes of a header that have come
abbrev pub filled_at : Position → ℕ
filled_at (Header filled) = filled
filled_at (Payload left) = 0
filled_at (Faulty fault) = 0

-- the bytes of a payload that are still to come, and 1 where none is awaited
abbrev pub left_at : Position → ℕ
left_at (Header filled) = 1
left_at (Payload left) = left
left_at (Faulty fault) = 1

-- nothing has come since the last whole message
abbrev pub is_between : Position → Bool
is_between (Header filled) = filled == 0
is_between (Payload left) = false
is_between (Faulty fault) = false

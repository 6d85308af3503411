-- Numbers in digits.
use Rattle.std.specs.Prelude.{ℕ, ◌-◌, false, List, ◌++◌, length, replicate}
use Rattle.std.specs.Fmt.{digits}

-- a number in `count` hexadecimal digits
abbrev pub hexadecimal : (count n : ℕ) → List ℕ
hexadecimal count n = replicate (count - length (digits 16 false n)) 48 ++ digits 16 false n

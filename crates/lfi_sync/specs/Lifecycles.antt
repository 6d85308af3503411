-- How far the threads of a stage are to go.
use Rattle.std.specs.Prelude.{ℕ}
use Rattle.lfi_sync.specs.declared.lifecycle.Lifecycle.{Lifecycle}

-- how many verifiers it counts
abbrev pub judging_of : Lifecycle → ℕ
judging_of lifecycle = lifecycle.verifiers

-- What is read of a module that is judged piece by piece. Only private clauses and proofs use it.
use Rattle.std.specs.Prelude.{◌≡◌, ℕ, List, Option}
use Rattle.std.specs.Io.KnownBytes.{Consumes}
use Rattle.lfi_module.specs.declared.profile.Profile.{Profile}
use Rattle.lfi_check.specs.declared.beginning.Beginning.{Beginning}
use Rattle.lfi_check.specs.Begun.{Begins}

-- All words of a module have been read and judged by a profile.
pub record IsWholeModule (profile : Profile) (old new : Option (List ℕ)) (all : Beginning) (words : ℕ) : Type 0 where
  pub bytes : List ℕ
  pub read : Consumes old new bytes
  pub begins : Begins all bytes
  pub same : all.words ≡ words
  pub judged_by : all.profile ≡ profile
  pub judged : all.judged ≡ words

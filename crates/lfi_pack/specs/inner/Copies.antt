-- What the steps of packing do. Only private clauses and proofs use it.
use Rattle.std.specs.Prelude.{◌≡◌, ℕ, ◌<◌, List, length, Option, IfSome, flat_map, ⊤}
use Rattle.std.specs.Io.KnownBytes.{Consumes, Appends}
use Rattle.lfi_module.specs.Pages.{page_count}
use Rattle.lfi_frame.specs.Streams.{page_message, spelling}
use Rattle.lfi_pack.specs.declared.fault.PackFault.{PackFault}
use Rattle.lfi_pack.specs.declared.fault.PackFault.TheVariants.{Shorter, Longer, ReadFailed}
use Rattle.exact_io.specs.Beginnings.{AppendsBeginning}
use Rattle.lfi_pack.specs.Packs.{AreFirst, joined, numbered}

-- fewer bytes are left than are asked for, or a read failed
abbrev pub IsShort : Option (List ℕ) → ℕ → PackFault → Type 0
IsShort left len Shorter = IfSome left (λ bytes. length bytes < len)
IsShort left len (ReadFailed kind) = ⊤
IsShort left len fault = ⊥

-- the same, or a write failed
abbrev pub IsPageFault : Option (List ℕ) → ℕ → PackFault → Type 0
IsPageFault left len Shorter = IfSome left (λ bytes. length bytes < len)
IsPageFault left len Longer = ⊥
IsPageFault left len fault = ⊤

-- a page of `len` bytes was read, and written as page `index`, a small or a large one
pub record CopiesPage (m size index len : ℕ) (left rest : Option (List ℕ)) (old new : Option (List ℕ)) : Type 0 where
  pub page : List ℕ
  pub long : length page ≡ len
  pub read : Consumes left rest page
  pub written : Appends old new (spelling (page_message m size index page))

-- the first `count` pages of n words were read and written
pub record CopiesFirst (m size n count : ℕ) (left rest : Option (List ℕ)) (old new : Option (List ℕ)) : Type 0 where
  pub pages : List (List ℕ)
  pub first : AreFirst size n count pages
  pub read : Consumes left rest (joined pages)
  pub written : Appends old new (flat_map spelling (numbered m size 0 pages))

-- all pages of n words were
abbrev pub CopiesPages : (m size n : ℕ) (left rest : Option (List ℕ)) (old new : Option (List ℕ)) → Type 0
CopiesPages m size n left rest old new = CopiesFirst m size n (page_count size n) left rest old new

-- a beginning of page `index`, of `len` bytes, was written, and not all of it
pub record BeginsPage (m size index len : ℕ) (old new : Option (List ℕ)) : Type 0 where
  pub page : List ℕ
  pub long : length page ≡ len
  pub written : AppendsBeginning old new (spelling (page_message m size index page))

-- a beginning of all pages of n words was, and not all of it
pub record BeginsPages (m size n : ℕ) (old new : Option (List ℕ)) : Type 0 where
  pub pages : List (List ℕ)
  pub all : AreFirst size n (page_count size n) pages
  pub written : AppendsBeginning old new (flat_map spelling (numbered m size 0 pages))

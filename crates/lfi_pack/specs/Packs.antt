-- A module's code, written as a stream. Source: this project's format, docs/PROFILE.md.
use Rattle.std.specs.Prelude.{◌≡◌, ℕ, ◌+◌, List, [], ◌∷◌, ◌++◌, length, Option, Some, slice_get, flat_map}
use Rattle.std.specs.Io.KnownBytes.{Consumes, Appends, IsAtEnd}
use Rattle.lfi_module.specs.Extents.{ExtentView}
use Rattle.lfi_module.specs.Pages.{page_count, bytes_in_page}
use Rattle.exact_io.specs.Beginnings.{AppendsBeginning}
use Rattle.lfi_frame.specs.Streams.{Message, open_message, page_message, close_message, Cut}

-- the bytes of pages, one after another
abbrev pub joined : List (List ℕ) → List ℕ
joined pages = flat_map (λ page. page) pages

-- These are the first `count` of the pages of n words, each of `size` words but for the last: each has its length.
pub record AreFirst (size n count : ℕ) (pages : List (List ℕ)) : Type 0 where
  pub all : length pages ≡ count
  pub each : (index : ℕ) (page : List ℕ) → slice_get pages index ≡ Some page → length page ≡ bytes_in_page size n index

-- pages as messages of module m, small ones or large ones, numbered from `index` on
abbrev pub numbered : (m size index : ℕ) → List (List ℕ) → List Message
numbered m size index [] = []
numbered m size index (page ∷ pages) = page_message m size index page ∷ numbered m size (index + 1) pages

-- the messages of a module: an Open, its pages in order, a Close
abbrev pub messages_of : ℕ → ExtentView → List (List ℕ) → List Message
messages_of m extent pages = open_message m extent ∷ (numbered m extent.pages 0 pages ++ close_message m ∷ [])

-- The text is a module with this code, and nothing else: its messages are an Open, all its pages, whose bytes are the code's, and a Close.
pub record IsPacked (m : ℕ) (extent : ExtentView) (code text : List ℕ) : Type 0 where
  pub pages : List (List ℕ)
  pub all : AreFirst extent.pages extent.words (page_count extent.pages extent.words) pages
  pub bytes : joined pages ≡ code
  pub cut : Cut text (messages_of m extent pages) []

-- All that was left was read, and the module with this code was written.
pub record Packs (m : ℕ) (extent : ExtentView) (left rest : Option (List ℕ)) (old new : Option (List ℕ)) : Type 0 where
  pub code : List ℕ
  pub text : List ℕ
  pub packed : IsPacked m extent code text
  pub read : Consumes left rest code
  pub ended : IsAtEnd rest
  pub written : Appends old new text

-- A beginning of a module of this extent was written, and not all of it.
pub record PacksPart (m : ℕ) (extent : ExtentView) (old new : Option (List ℕ)) : Type 0 where
  pub code : List ℕ
  pub text : List ℕ
  pub packed : IsPacked m extent code text
  pub written : AppendsBeginning old new text

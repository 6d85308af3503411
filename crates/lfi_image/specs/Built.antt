-- What a builder holds.
use Rattle.std.specs.Prelude.{ℕ, List, [], ◌∷◌, ◌++◌, length}
use Rattle.lfi_module.specs.Pages.{words_due}
use Rattle.a64_word.specs.Words.{words_of}
use Rattle.page_buf.specs.Page.{PageView}
use Rattle.lfi_image.specs.Image.{Module}

-- the words of pages one after another
abbrev pub words_in : List PageView → List ℕ
words_in [] = []
words_in (page ∷ pages) = words_of page.bytes ++ words_in pages

-- how many words the next page has
abbrev pub due : Module → ℕ
due m = words_due m.extent.pages m.extent.words (length m.placed)

-- with more words placed
abbrev pub with_placed : Module → List ℕ → Module
with_placed m more = record m { placed = m.placed ++ more }

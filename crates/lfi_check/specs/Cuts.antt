-- What is known of a module of which a beginning came that may be cut within a word.
use Rattle.std.specs.Prelude.{◌≡◌, ℕ, ◌+◌, ◌*◌, List, [], ◌∷◌, ◌++◌, length}
use Rattle.lfi_check.specs.declared.cut.CutWord.{CutWord}
use Rattle.lfi_check.specs.declared.cut.CutWord.TheVariants.{Nothing, One, Two, Three}
use Rattle.lfi_check.specs.declared.cut.CutBeginning.{CutBeginning}
use Rattle.lfi_check.specs.Begun.{Begins}

-- the bytes that came of a word that is cut
abbrev pub bytes_of : CutWord → List ℕ
bytes_of Nothing = []
bytes_of (One a) = a ∷ []
bytes_of (Two a b) = a ∷ b ∷ []
bytes_of (Three a b c) = a ∷ b ∷ c ∷ []

-- how many bytes came of a module
abbrev pub count_of : CutBeginning → ℕ
count_of cut = 4 * cut.whole.judged + length (bytes_of cut.word)

-- The bytes are those that came of a module: these words of them are judged, and what came after them is kept.
pub record BeginsCut (cut : CutBeginning) (bytes : List ℕ) : Type 0 where
  pub judged : List ℕ
  pub begins : Begins cut.whole judged
  pub spelled : bytes ≡ judged ++ bytes_of cut.word

-- After a piece so much more came of the module, which is the same.
pub record Takes (old new : CutBeginning) (piece : List ℕ) : Type 0 where
  pub begins : (bytes : List ℕ) → BeginsCut old bytes → BeginsCut new (bytes ++ piece)
  pub count : count_of new ≡ count_of old + length piece
  pub words : new.whole.words ≡ old.whole.words
  pub profile : new.whole.profile ≡ old.whole.profile

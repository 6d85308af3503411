-- What a receiver hears of packed modules. Source: this project's format, docs/PROFILE.md.
use Rattle.std.specs.Prelude.{◌≡◌, ◌≢◌, ℕ, ◌+◌, Bool, true, List, [], ◌∷◌, ◌++◌, length, Some}
use Rattle.a64_word.specs.Words.{words_of}
use Rattle.lfi_module.specs.declared.profile.Profile.{Profile}
use Rattle.lfi_module.specs.Extents.{ExtentView}
use Rattle.lfi_rules.specs.Verdicts.{all_words}
use Rattle.lfi_model.specs.Item.{ItemView}
use Rattle.lfi_model.specs.declared.item.ItemKind.TheVariants.{Open}
use Rattle.lfi_model.specs.declared.item.Reason.TheVariants.{Close}
use Rattle.lfi_model.specs.Items.{item_of}
use Rattle.lfi_model.specs.Modules.{Member}
use Rattle.lfi_model.specs.Outcomes.{pages_of, end_of}
use Rattle.lfi_pack.specs.Packs.{IsPacked}

-- a module's number, how large it is, where it is entered and by which profile it goes, and the bytes of its code
pub record PackedView : Type 0 where
  pub number : ℕ
  pub extent : ExtentView
  pub code : List ℕ

-- the code of files, a module each, all by one profile and with pages of one size: numbered from this number on, and all entered at the same word
abbrev pub modules_from : Profile → (size number entry : ℕ) → List (List ℕ) → List PackedView
modules_from profile size number entry [] = []
modules_from profile size number entry (code ∷ files) =
    record { number = number; extent = record { words = length (words_of code); entry = entry; profile = profile; pages = size }; code = code }
    ∷ modules_from profile size (number + 1) entry files

-- The text is these modules, packed one after another.
abbrev pub IsStream : List PackedView → List ℕ → Type 0
IsStream [] text = text ≡ []
IsStream (p ∷ ps) text = (first rest : List ℕ) × (text ≡ first ++ rest) × IsPacked p.number p.extent p.code first × IsStream ps rest

-- none of them has this number
abbrev pub NoneIs : ℕ → List PackedView → Type 0
NoneIs m ps = (p : PackedView) → Member ps p → p.number ≢ m

-- no two have the same number
abbrev pub AreDistinct : List PackedView → Type 0
AreDistinct [] = Unit {0}
AreDistinct (p ∷ ps) = NoneIs p.number ps × AreDistinct ps

-- all of them were claimed
abbrev pub AreClaimed : (ℕ → Bool) → List PackedView → Type 0
AreClaimed claimed ps = (p : PackedView) → Member ps p → claimed p.number ≡ true

-- The items are the whole module: its Open first, with its words, entry, profile and pages' size, pages whose words are those of its code, and an End by its Close.
pub record IsHeard (p : PackedView) (items : List ItemView) : Type 0 where
  pub opened : (later : List ItemView) × (items ≡ item_of p.number 0 p.extent Open ∷ later)
  pub words : all_words (pages_of items) ≡ words_of p.code
  pub ended : end_of items ≡ Some Close

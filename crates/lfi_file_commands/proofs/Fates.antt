-- What comes of several images, one after another.
use Rattle.std.proofs.Common.{◌≡◌, ◌∙◌, ◌&&◌, Bool, true, false, ℕ, ◌+◌, ◌<◌, ◌≤◌, List, [], ◌∷◌, ◌++◌, length, take, get_or, Option, Some, None, refl, sym, ap, ap₂, subst, true≢false}
use Rattle.std.proofs.KnownBytes.{Appends-nil, Appends-trans}
use Rattle.std.specs.List.{AllByRecursion}
use Rattle.std.proofs.lemmas.List.{map-append, take_more}
use Rattle.std.proofs.lemmas.List.Elements.{filter_map-append}
use Rattle.std.proofs.lemmas.Grind.{flat_map-append}
use Rattle.lfi_image.specs.Image.{Image}
use Rattle.lfi_sequence.specs.declared.report.ImageState.{ImageState}
use Rattle.lfi_sequence.specs.declared.report.ImageState.TheVariants.{Absent, Part, Whole}
use Rattle.lfi_sequence.specs.declared.report.ModuleReport.{ModuleReport}
use Rattle.lfi_file_commands.specs.declared.image_items.ImageItems.{ImageItems}
use Rattle.lfi_file_commands.specs.declared.failure.Failure.{Failure}
use Rattle.lfi_file_commands.specs.Failures.{failure_line, failure_lines, Told, IsOfWriting}
use Rattle.lfi_file_commands.specs.Images.{Fate, Puts, NamesPath, WritesImages, failures_in, file_written, files_written, image_file, image_in, image_path_of, images_in, is_none_of}
use Rattle.lfi_file_commands.specs.Items.{AreItemsOf, PutsImages}
use Rattle.lfi_file_commands.specs.Left.{Left, left}
use Rattle.lfi_file_commands.specs.inner.Keeping.{KeepsImages}
use Rattle.lfi_file_commands.proofs.Joined.{all_taken, joined, no_more}

abbrev Files : Type 0
Files = List (List ℕ × List ℕ)

puts_nil : (a : Option Files) → Puts a a []
puts_nil None = tt
puts_nil (Some files) = sym (no_more files)

puts_trans : (a b c : Option Files) (fs gs : Files) → Puts a b fs → Puts b c gs → Puts a c (fs ++ gs)
puts_trans None b c fs gs p q = tt
puts_trans (Some x) None c fs gs p q = absurd p
puts_trans (Some x) (Some y) None fs gs p q = absurd q
puts_trans (Some x) (Some y) (Some z) fs gs p q = q ∙ ap (λ l. l ++ gs) p ∙ sym (joined x fs gs)

pub told_nil : (lost : Bool) (e : Option (List ℕ)) → Told lost e e []
told_nil true e = tt
told_nil false e = Appends-nil e

pub told_trans : (l m : Bool) (a b c : Option (List ℕ)) (s t : List ℕ) → (l ≡ true → m ≡ true) → Told l a b s → Told m b c t → Told m a c (s ++ t)
told_trans l true a b c s t grows p q = tt
told_trans false false a b c s t grows p q = Appends-trans a b c s t p q
told_trans true false a b c s t grows p q = absurd (true≢false (sym (grows refl)))

abbrev written_by : List ℕ → Fate → Files
written_by folder fate = file_written folder fate.image fate.failure

abbrev Named : List ℕ → Fate → Type 0
Named folder fate = NamesPath folder fate.image fate.failure

names-append : (folder : List ℕ) (xs ys : List Fate) → AllByRecursion (Named folder) xs → AllByRecursion (Named folder) ys → AllByRecursion (Named folder) (xs ++ ys)
names-append folder [] ys first second = second
names-append folder (x ∷ xs) ys first second = (first.0, names-append folder xs ys first.1 second)

none-append : (xs ys : List Failure) → is_none_of (xs ++ ys) ≡ (is_none_of xs && is_none_of ys)
none-append [] ys = refl
none-append (x ∷ xs) ys = refl

-- no image at all
pub writes_none : (folder : List ℕ) (a : Left) → WritesImages folder [] a a true
writes_none folder a = record { fates = []; each = refl; puts = puts_nil a.put; names = tt; told = told_nil a.is_lost a.errors; all_put = refl }

-- one that was put
pub writes_one : (folder : List ℕ) (image : Image) (out : Option (List ℕ)) (a b : Option Files) (lost : Bool) (e : Option (List ℕ)) → Puts a b (image_file folder image ∷ [])
    → WritesImages folder (image ∷ []) (left out a lost e) (left out b lost e) true
writes_one folder image out a b lost e put =
    record { fates = record { image = image; failure = None } ∷ []; each = refl; puts = put; names = (tt, tt); told = told_nil lost e; all_put = refl }

-- one of which a failure was told
pub fails_one : (folder : List ℕ) (image : Image) (failure : Failure) (out : Option (List ℕ)) (a b : Option Files) (was lost : Bool) (e f : Option (List ℕ)) → b ≡ a → IsOfWriting (image_path_of folder image.slot) failure
    → Told lost e f (failure_line failure) → WritesImages folder (image ∷ []) (left out a was e) (left out b lost f) false
fails_one folder image failure out a b was lost e f same names told =
    record {
      fates = record { image = image; failure = Some failure } ∷ [];
      each = refl;
      puts = subst (λ x. Puts a x []) (sym same) (puts_nil a);
      names = (names, tt);
      told = subst (λ l. Told lost e f l) (sym (no_more (failure_line failure))) told;
      all_put = refl;
    }

-- some, and then others
pub writes_more : (folder : List ℕ) (is js : List Image) (a b c : Left) (p q : Bool) → (b.is_lost ≡ true → c.is_lost ≡ true)
    → WritesImages folder is a b p → WritesImages folder js b c q → WritesImages folder (is ++ js) a c (p && q)
writes_more folder is js a b c p q grows first second =
    record {
      fates = first.fates ++ second.fates;
      each = map-append (λ fate. fate.image) first.fates second.fates ∙ ap₂ (λ x y. x ++ y) first.each second.each;
      puts = subst (λ x. Puts a.put c.put x) (sym (flat_map-append (written_by folder) first.fates second.fates))
          (puts_trans a.put b.put c.put (files_written folder first.fates) (files_written folder second.fates) first.puts second.puts);
      names = names-append folder first.fates second.fates first.names second.names;
      told = subst (λ x. Told c.is_lost a.errors c.errors x) (sym (ap failure_lines (filter_map-append (λ (fate : Fate). fate.failure) first.fates second.fates) ∙ flat_map-append failure_line (failures_in first.fates) (failures_in second.fates)))
          (told_trans b.is_lost c.is_lost a.errors b.errors c.errors (failure_lines (failures_in first.fates)) (failure_lines (failures_in second.fates)) grows first.told second.told);
      all_put = ap₂ (λ x y. x && y) first.all_put second.all_put ∙ sym (none-append (failures_in first.fates) (failures_in second.fates)) ∙ ap is_none_of (sym (filter_map-append (λ (fate : Fate). fate.failure) first.fates second.fates));
    }

-- before the first one the items are those of no image
pub puts_none : (folder : List ℕ) (a : Left) (items : ImageItems) → AreItemsOf folder [] items → PutsImages folder [] a a true items
unfolding writes_none
puts_none folder a items are = (writes_none folder a, are)

-- of a module that isn't whole none is kept
pub keeps_none : (folder : List ℕ) (state : ImageState) (a : Left) (items : ImageItems) → ((image : Image) → state ≡ Whole image → ⊥) → KeepsImages folder (image_in state) a a true items items
unfolding writes_none
keeps_none folder Absent a items other = (writes_none folder a, λ fates are. subst (λ l. AreItemsOf folder l items) (sym (no_more fates)) are)
keeps_none folder (Part builder) a items other = (writes_none folder a, λ fates are. subst (λ l. AreItemsOf folder l items) (sym (no_more fates)) are)
keeps_none folder (Whole image) a items other = absurd (other image refl)

-- that of one that was put is
pub keeps_one : (folder : List ℕ) (image : Image) (out : Option (List ℕ)) (a b : Option Files) (lost : Bool) (e : Option (List ℕ)) (before after : ImageItems) → Puts a b (image_file folder image ∷ [])
    → ((fates : List Fate) → AreItemsOf folder fates before → AreItemsOf folder (fates ++ record { image = image; failure = None } ∷ []) after)
    → KeepsImages folder (image ∷ []) (left out a lost e) (left out b lost e) true before after
unfolding writes_one
keeps_one folder image out a b lost e before after put kept = (writes_one folder image out a b lost e put, kept)

-- and that of one of which a failure was told
pub keeps_failed : (folder : List ℕ) (image : Image) (failure : Failure) (out : Option (List ℕ)) (a b : Option Files) (was lost : Bool) (e f : Option (List ℕ)) (before after : ImageItems) → b ≡ a
    → IsOfWriting (image_path_of folder image.slot) failure → Told lost e f (failure_line failure)
    → ((fates : List Fate) → AreItemsOf folder fates before → AreItemsOf folder (fates ++ record { image = image; failure = Some failure } ∷ []) after)
    → KeepsImages folder (image ∷ []) (left out a was e) (left out b lost f) false before after
unfolding fails_one
keeps_failed folder image failure out a b was lost e f before after same names told kept = (fails_one folder image failure out a b was lost e f same names told, kept)

-- those of some, and then of others
pub puts_more : (folder : List ℕ) (is js : List Image) (a b c : Left) (p q : Bool) (first last : ImageItems) → (b.is_lost ≡ true → c.is_lost ≡ true)
    → PutsImages folder is a b p first → KeepsImages folder js b c q first last → PutsImages folder (is ++ js) a c (p && q) last
unfolding writes_more
puts_more folder is js a b c p q first last grows puts keeps = (writes_more folder is js a b c p q grows puts.0 keeps.0, keeps.1 puts.0.fates puts.1)

abbrev of_module : ModuleReport → List Image
of_module told = image_in told.image

images-push : (xs : List ModuleReport) (x : ModuleReport) → images_in (xs ++ x ∷ []) ≡ images_in xs ++ image_in x.image
images-push xs x = flat_map-append of_module xs (x ∷ []) ∙ ap (λ l. images_in xs ++ l) (no_more (image_in x.image))

pub images_more : (xs : List ModuleReport) (k : ℕ) (d : ModuleReport) → k < length xs → d ≡ get_or xs k d → images_in (take (k + 1) xs) ≡ images_in (take k xs) ++ image_in d.image
images_more xs k d within is =
    ap images_in (take_more xs k d within) ∙ images-push (take k xs) (get_or xs k d)
    ∙ ap (λ told. images_in (take k xs) ++ image_in told.image) {x = get_or xs k d} {y = d} (sym is)

pub images_whole : (xs : List ModuleReport) (k : ℕ) → length xs ≤ k → images_in (take k xs) ≡ images_in xs
images_whole xs k enough = ap images_in (all_taken xs k enough)

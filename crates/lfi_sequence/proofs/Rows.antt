-- Rows of passes, a lane or a row more at a time.
use Rattle.std.proofs.Common.{◌≡◌, ◌≢◌, ℕ, zero, suc, ◌<◌, ◌≤◌, List, [], ◌∷◌, ◌++◌, length, get_or, refl, sym, subst, ap, ◌∙◌, arith, inl, inr}
use Rattle.std.specs.Prelude.{None, Option, Some, slice_get, MatchOption}
use Rattle.std.proofs.Math.ListN.{set}
use Rattle.std.proofs.lemmas.Bool.Decides.{eqb_tells}
use Rattle.std.proofs.lemmas.List.{append_cancel_right, get_or_push}
use Rattle.std.proofs.lemmas.Option.{none-some}
use Rattle.std.specs.Option.{option_map, option_map_or}
use Rattle.std.specs.Global.{Vec}
use Rattle.lfi_model.specs.Item.{ItemView}
use Rattle.lfi_queues.specs.Passes.{QueueId, PassView, new_pass, new_passes, IsSamePass}
use Rattle.lfi_module.specs.Numbers.{module_count}
use Rattle.lfi_sequence.specs.Handed.{AreLanes, SameLanes}
use Rattle.lfi_sequence.specs.Lanes.{new_row, row_at}
use Rattle.lfi_queues.proofs.New.{new_length}
use Rattle.lfi_sequence.proofs.Slices.{slice_get-set_same, slice_get-set_other}

-- an element of a list with one more
pub last_of : {A : Type 0} → (xs : List A) (x : A) → slice_get (xs ++ x ∷ []) (length xs) ≡ Some x
last_of [] x = refl
last_of (y ∷ xs) x = last_of xs x

pub before_last : {A : Type 0} → (xs : List A) (x : A) (k : ℕ) → k < length xs → slice_get (xs ++ x ∷ []) k ≡ slice_get xs k
before_last [] x k below = absurd (omega arith)
before_last (y ∷ xs) x zero below = refl
before_last (y ∷ xs) x (suc k) below = before_last xs x k (omega arith)

-- a new row for one more lane
pub longer_row : (lanes : List QueueId) (lane : QueueId) (place : ℕ) → new_row (lanes ++ lane ∷ []) place ≡ new_row lanes place ++ new_pass lane place ∷ []
longer_row [] lane place = refl
longer_row (first ∷ lanes) lane place = ap (λ row. new_pass first place ∷ row) (longer_row lanes lane place)

-- Of the rows, those from `left` on have got the pass of their number, and the passes left are those of the others.
pub record Dealt (lane : QueueId) (old : List (Vec (PassView ItemView))) (left : ℕ) (passes : List (PassView ItemView)) (rows : List (Vec (PassView ItemView))) : Type 0 where
  pub left_are : passes ≡ new_passes lane left
  pub before : (place : ℕ) → place < left → row_at rows place ≡ row_at old place
  pub after : (place : ℕ) → left ≤ place → place < length old → row_at rows place ≡ option_map (λ row. row ++ new_pass lane place ∷ []) (row_at old place)

last_same : (xs ys : List (PassView ItemView)) (x y : PassView ItemView) → xs ++ x ∷ [] ≡ ys ++ y ∷ [] → length xs ≡ length ys → x ≡ y
last_same xs ys x y e long = sym (get_or_push xs x x (length xs) refl) ∙ ap (λ l. get_or l (length xs) x) e ∙ get_or_push ys y x (length xs) (sym long)

before_same : (xs ys : List (PassView ItemView)) (x y : PassView ItemView) → xs ++ x ∷ [] ≡ ys ++ y ∷ [] → x ≡ y → xs ≡ ys
before_same xs ys x y e same = append_cancel_right xs ys (x ∷ []) (e ∙ ap (λ z. ys ++ z ∷ []) (sym same))

-- the pass of the last number goes to the row at its place
module _ (lane : QueueId) (old rows : List (Vec (PassView ItemView))) (passes : List (PassView ItemView)) (pass : PassView ItemView) (row longer : Vec (PassView ItemView)) where
  items_as : (o r : Option (Vec (PassView ItemView))) → o ≡ r → option_map (λ (v : Vec (PassView ItemView)). v.items) o ≡ option_map (λ (v : Vec (PassView ItemView)). v.items) r
  items_as o r e = ap (λ z. option_map (λ (v : Vec (PassView ItemView)). v.items) z) e

  apart_at : (place : ℕ) → place ≢ length passes → row_at (set rows (length passes) longer) place ≡ row_at rows place
  apart_at place apart = items_as (slice_get (set rows (length passes) longer) place) (slice_get rows place) (slice_get-set_other rows (length passes) place longer apart)

  pub deal_one : Dealt lane old (suc (length passes)) (passes ++ pass ∷ []) rows → slice_get rows (length passes) ≡ Some row → longer.items ≡ row.items ++ pass ∷ [] → length passes < length rows → Dealt lane old (length passes) passes (set rows (length passes) longer)
  deal_one d at grown within = record { left_are = before_same passes (new_passes lane (length passes)) pass (new_pass lane (length passes)) d.left_are last; before = earlier; after = later }
    where
      last : pass ≡ new_pass lane (length passes)
      last = last_same passes (new_passes lane (length passes)) pass (new_pass lane (length passes)) d.left_are (sym (new_length ItemView lane (length passes)))

      earlier : (place : ℕ) → place < length passes → row_at (set rows (length passes) longer) place ≡ row_at old place
      earlier place below = apart_at place (λ e. omega (arith, e, below)) ∙ d.before place (omega arith)

      here : row_at (set rows (length passes) longer) (length passes) ≡ option_map (λ r. r ++ new_pass lane (length passes) ∷ []) (row_at old (length passes))
      here =
          items_as (slice_get (set rows (length passes) longer) (length passes)) (Some longer) (slice_get-set_same rows (length passes) longer within)
          ∙ ap Some (grown ∙ ap (λ z. row.items ++ z ∷ []) last)
          ∙ ap (λ o. option_map (λ r. r ++ new_pass lane (length passes) ∷ []) o) (sym (items_as (slice_get rows (length passes)) (Some row) at) ∙ d.before (length passes) (omega arith))

      later : (place : ℕ) → length passes ≤ place → place < length old → row_at (set rows (length passes) longer) place ≡ option_map (λ r. r ++ new_pass lane place ∷ []) (row_at old place)
      later place from inside = elim (eqb_tells place (length passes)) as (λ _. row_at (set rows (length passes) longer) place ≡ option_map (λ r. r ++ new_pass lane place ∷ []) (row_at old place)) [
        | inl e ↦ subst (λ z. row_at (set rows (length passes) longer) z ≡ option_map (λ r. r ++ new_pass lane z ∷ []) (row_at old z)) (sym e.1) here
        | inr n ↦ apart_at place n.1 ∙ d.after place (let other = n.1 in omega (arith, other, from)) inside
      ]

-- each of these lanes has so many passes that put, and one that takes
abbrev pub HaveCounts : ℕ → List QueueId → Type 0
HaveCounts verifiers lanes = (m : ℕ) (lane : QueueId) → slice_get lanes m ≡ Some lane → (lane.putters ≡ verifiers) × (lane.takers ≡ 1)

pub one_more_lane : (verifiers : ℕ) (lanes : List QueueId) (lane : QueueId) → (lane.putters ≡ verifiers) × (lane.takers ≡ 1) → HaveCounts verifiers lanes → HaveCounts verifiers (lanes ++ lane ∷ [])
one_more_lane verifiers [] lane new have zero other at = subst (λ (l : QueueId). (l.putters ≡ verifiers) × (l.takers ≡ 1)) (ap (λ o. option_map_or (λ l. l) o lane) at) new
one_more_lane verifiers [] lane new have (suc m) other at = absurd (none-some other at)
one_more_lane verifiers (first ∷ lanes) lane new have zero other at = have zero other at
one_more_lane verifiers (first ∷ lanes) lane new have (suc m) other at = one_more_lane verifiers lanes lane new (λ k. have (suc k)) m other at

-- a new row is of these lanes
row_long : (lanes : List QueueId) (k : ℕ) → length (new_row lanes k) ≡ length lanes
row_long [] k = refl
row_long (lane ∷ lanes) k = ap suc (row_long lanes k)

row_each : (lanes : List QueueId) (k m : ℕ) (lane : QueueId) (pass : PassView ItemView) → slice_get lanes m ≡ Some lane → slice_get (new_row lanes k) m ≡ Some pass → pass.queue ≡ lane
row_each [] k m lane pass at with_pass = absurd (none-some lane at)
row_each (first ∷ lanes) k zero lane pass at with_pass = ap (λ o. option_map_or (λ (p : PassView ItemView). p.queue) o first) (sym with_pass) ∙ ap (λ o. option_map_or (λ (l : QueueId). l) o first) at
row_each (first ∷ lanes) k (suc m) lane pass at with_pass = row_each lanes k m lane pass at with_pass

pub new_row_of_lanes : (lanes : List QueueId) (k : ℕ) (row : List (PassView ItemView)) → length lanes ≡ module_count → new_row lanes k ≡ row → AreLanes lanes row × (length row ≡ module_count)
new_row_of_lanes lanes k row long is = subst (λ r. AreLanes lanes r × (length r ≡ module_count)) is (record { all = long; each = row_each lanes k }, row_long lanes k ∙ long)

-- passes of the same queues are of the same lanes
module _ (lanes : List QueueId) (old new : List (PassView ItemView)) (are : AreLanes lanes old) (same : SameLanes old new) where
  by_old : (m : ℕ) (lane : QueueId) (pass : PassView ItemView) (o : Option (PassView ItemView)) → slice_get lanes m ≡ Some lane → slice_get new m ≡ Some pass → slice_get old m ≡ o
      → MatchOption o (slice_get new m ≡ None) (λ p. (after : PassView ItemView) × (slice_get new m ≡ Some after) × IsSamePass p after) → pass.queue ≡ lane
  by_old m lane pass None at_lane at_pass is h = absurd (none-some pass (sym h ∙ at_pass))
  by_old m lane pass (Some p) at_lane at_pass is h = ap (λ o. option_map_or (λ (q : PassView ItemView). q.queue) o lane) (sym at_pass ∙ h.1) ∙ h.2.queue ∙ are.each m lane p at_lane is

  pub lanes_stay : AreLanes lanes new
  lanes_stay = record { all = are.all; each = λ m lane pass at_lane at_pass. by_old m lane pass (slice_get old m) at_lane at_pass refl (same m) }

-- What the numbers stand for that a caller keeps of a stream. Source: include/lfi_verifier.h, docs/PROFILE.md.
use Rattle.std.specs.Prelude.{◌≡◌, ◌⊎◌, ◌+◌, true, false, Bool, ℕ, ◌==◌, ◌||◌, ◌&&◌, nat_lt, nat_le, if◌then◌else◌, List, get_or, Option, Some, None, option_map}
use Rattle.lfi_module.specs.Numbers.{module_count, most_words, small_page, large_page}
use Rattle.lfi_module.specs.declared.profile.Profile.{Profile}
use Rattle.lfi_module.specs.declared.profile.Profile.TheVariants.{One, Two}
use Rattle.lfi_module.specs.Profiles.{is_two}
use Rattle.lfi_module.specs.Extents.{ExtentView}
use Rattle.lfi_module.specs.Pages.{page_count, bytes_in_page}
use Rattle.lfi_frame.specs.declared.fault.FrameFault.{FrameFault}
use Rattle.lfi_frame.specs.declared.fault.FrameFault.TheVariants as fault
use Rattle.lfi_frame.specs.declared.feed.Position.{Position}
use Rattle.lfi_frame.specs.declared.feed.Position.TheVariants.{Header, Payload, Faulty}
use Rattle.lfi_model.specs.declared.connection.Progress.{Progress}
use Rattle.lfi_model.specs.declared.connection.Progress.TheVariants.{Unclaimed, Going, Ended}
use Rattle.lfi_stream.specs.declared.numbers.LfiStreamModule.{LfiStreamModule}
use Rattle.lfi_stream.specs.declared.numbers.LfiStreamPage.{LfiStreamPage}
use Rattle.lfi_stream.specs.declared.numbers.LfiStreamText.{LfiStreamText}
use Rattle.lfi_connection.specs.declared.due_page.DuePage.{DuePage}
use Rattle.lfi_connection.specs.DuePages.{bytes_of}

-- the fault with a number
abbrev pub fault_at_number : ℕ → Option FrameFault
fault_at_number k =
    if k == 1 then Some fault.Kind else if k == 2 then Some fault.SecondByte else if k == 3 then Some fault.Module
    else if k == 4 then Some fault.PageLength else if k == 5 then Some fault.CloseNumbers else if k == 6 then Some fault.WordCount
    else if k == 7 then Some fault.Entry else if k == 8 then Some fault.NoMemory else if k == 9 then Some fault.Ended
    else if k == 10 then Some fault.ReadFailed else None

-- where in its stream a feed with these numbers is
abbrev pub position_at : (place number : ℕ) → Option Position
position_at place number =
    if place == 0 then Some (Header number) else if place == 1 then Some (Payload number)
    else if place == 2 then option_map Faulty (fault_at_number number) else None

-- the profile with a number
abbrev pub profile_at : ℕ → Option Profile
profile_at number = if number == 1 then Some One else if number == 2 then Some Two else None

-- the size of pages by their words, where a module of a profile can have such
abbrev pub pages_at : Profile → (words : ℕ) → Option ℕ
pages_at profile words = if words == small_page then Some small_page else if words == large_page && is_two profile then Some large_page else None

-- the extent of a module by its words, its entry, its profile and the size of its pages, where these are a module's
abbrev pub extent_of : (words entry : ℕ) → Profile → Option ℕ → Option ExtentView
extent_of words entry profile None = None
extent_of words entry profile (Some pages) =
    if words == 0 || nat_lt most_words words || nat_le words entry then None else Some (record { words = words; entry = entry; profile = profile; pages = pages })

-- the extent of a module of this profile, by the words of its pages; none, where the numbers are those of none
abbrev pub extent_by : (words entry page_words : ℕ) → Option Profile → Option ExtentView
extent_by words entry page_words None = None
extent_by words entry page_words (Some profile) = extent_of words entry profile (pages_at profile page_words)

-- the same, of the profile with this number
abbrev pub extent_at : (words entry profile page_words : ℕ) → Option ExtentView
extent_at words entry profile page_words = extent_by words entry page_words (profile_at profile)

-- how far an open module is, by its extent and how many of its pages came; numbers that no module has are those of one that has ended
abbrev pub going_by : Option ExtentView → (pages : ℕ) → Progress
going_by None pages = Ended
going_by (Some extent) pages = if nat_lt (page_count extent.pages extent.words) pages then Ended else Going extent pages

-- how far a module with these numbers is
abbrev pub progress_of : LfiStreamModule → Progress
progress_of numbers =
    if numbers.phase == 0 then Unclaimed
    else if numbers.phase == 1 then going_by (extent_at numbers.words numbers.entry numbers.profile numbers.page_words) numbers.pages else Ended

-- the numbers of a module that wasn't opened
abbrev pub untouched : LfiStreamModule
untouched = record { phase = 0; words = 0; entry = 0; profile = 0; page_words = 0; pages = 0 }

-- how far module m of a stream is
abbrev pub progress_at : List LfiStreamModule → ℕ → Progress
progress_at modules m = progress_of (get_or modules m untouched)

-- the next page of an open module, of which `come` bytes came, where it has more than these
abbrev pub page_of : (m come : ℕ) → Progress → Option DuePage
page_of m come (Going extent pages) =
    if nat_lt come (bytes_in_page extent.pages extent.words pages) then Some (record { «module» = m; extent = extent; pages = pages; come = come }) else None
page_of m come progress = None

-- no page is coming, by its numbers
abbrev pub names_none : LfiStreamPage → Bool
names_none page = nat_le module_count page.«module»

-- the page that is coming
abbrev pub page_at : LfiStreamText → Option DuePage
page_at stream = if names_none stream.page then None else page_of stream.page.«module» stream.page.come (progress_at stream.modules stream.page.«module»)

-- The bytes of the page that the position says are to come: the page has them, beside those that came.
abbrev pub IsLeft : Option DuePage → Position → Type 0
IsLeft (Some page) (Payload left) = page.come + left ≡ bytes_of page
IsLeft page position = ⊥

-- The numbers of the page that is coming fit those of its module, and of the feed that is at this position; or none is coming.
abbrev pub FitsPage : LfiStreamText → Position → Type 0
FitsPage stream position = (names_none stream.page ≡ true) ⊎ IsLeft (page_at stream) position

-- the numbers of the page that is coming
abbrev pub IsPageOf : LfiStreamPage → Option DuePage → Type 0
IsPageOf numbers None = names_none numbers ≡ true
IsPageOf numbers (Some page) = (names_none numbers ≡ false) × (numbers.«module» ≡ page.«module») × (numbers.come ≡ page.come)

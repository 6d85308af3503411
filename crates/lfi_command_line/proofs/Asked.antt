-- The subcommand that the parser met, by the words, and the fault that it told.
use Rattle.std.proofs.Common.{◌≡◌, ◌≢◌, ◌∙◌, ◌⊎◌, ℕ, Bool, Result, Ok, Err, IfErr, IsErrAnd, true, false, suc, List, [], ◌∷◌, map, Option, Some, None, is_some, find, refl, sym, arith, ap, ap₂, subst, inl, inr, codes, option_map, unwrap_or, true≢false}
use Rattle.std.specs.Prelude.{◌<◌, ◌≤◌, Box, length, option_and_then, slice_get}
use Rattle.std.specs.Box.{box_value}
use Rattle.std.specs.Str.{bytes_eq}
use Rattle.std.proofs.lemmas.Slice.Eq.{bytes_eq-Decides}
use Rattle.std.specs.Str.Parse.{ParsesUnsigned}
use Rattle.clap.specs.Matches.{ReadsOne, subcommand_name_of}
use Rattle.clap.specs.Simple.{subcommand_of, subcommand_rows, subcommand_rows_of}
use Rattle.clap.specs.declared.builder.value_parser.Reading.{Reading}
use Rattle.clap.specs.Values.{read_as}
use Rattle.clap.specs.Walk.{Row, Text, all_of, first_of, one_of, row_text}
use Rattle.clap.specs.declared.parser.matches.ArgMatches.{ArgMatches}
use Rattle.clap.specs.declared.parser.matches.ArgMatches.TheViews.{out-ArgMatches, out-SubCommand}
use Rattle.clap.specs.declared.parser.matches.SubCommand.{SubCommand}
use Rattle.clap.specs.Words.{HasKind, IsAmong, IsUnsignedIn, fault_of, kind_of}
use Rattle.clap.specs.declared.error.Error.{Error}
use Rattle.clap.specs.declared.error.kind.ErrorKind.{ErrorKind}
use Rattle.clap.specs.declared.error.kind.ErrorKind.TheVariants as kind
use Rattle.lfi_command_line.specs.declared.fault.LineFault.{LineFault}
use Rattle.lfi_command_line.specs.declared.fault.LineFault.TheVariants.{NoMemory, Help, Wrong, NoPages, NoFormat, Flawed}
use Rattle.lfi_command_line.specs.Apps.{lfiload_app}
use Rattle.lfi_command_line.specs.CommandLine.{AreTakenFor, IsLineFault, IsFlag, IsNumber, IsNumberIfAny, IsNumberOr, fault_by, fault_from, is_help}
use Rattle.lfi_command_line.specs.inner.Given.{AreTakenBy, IsNoMemory, IsFaultOfFormat, IsFaultOfPack, IsNumberGiven}
use Rattle.lfi_command_line.proofs.Needs.{AllGive, Asks, asks, picked, shape_named}

module _ {Z : Type 0} where
  named : (o : Option (Box SubCommand Z)) → option_map (λ p. p.0) (subcommand_rows o) ≡ option_map (λ b. (out-SubCommand (box_value b)).name.now) o
  named None = refl
  named (Some b) = refl

-- the name that the parser met is that which the words give
pub name_met : (m : ArgMatches) (asked : Option (Text × List Row)) → subcommand_rows_of m ≡ asked → option_map (λ p. p.0) asked ≡ subcommand_name_of m
name_met m asked same = ap (option_map (λ p. p.0)) (sym same) ∙ named (out-ArgMatches m).subcommand

pub both_parts : (o : Option (Text × List Row)) (name : Text) (rows : List Row) → option_map (λ p. p.0) o ≡ Some name → option_map (λ p. p.1) o ≡ Some rows → o ≡ Some (name, rows)
both_parts None name rows first second = absurd (true≢false (ap is_some (sym first)))
both_parts (Some p) name rows first second = ap₂ (λ n r. Some (n, r)) (ap (λ o. unwrap_or o p.0) first) (ap (λ o. unwrap_or o p.1) second)

pub some_same : {X : Type 0} {a b : X} → Some a ≡ Some b → a ≡ b
some_same e = cc

pub map_length : {X Y : Type 0} (f : X → Y) (xs : List X) → length (map f xs) ≡ length xs
map_length f [] = refl
map_length f (x ∷ xs) = ap suc (map_length f xs)

-- nothing is read of an argument to which nothing is given
none_of : (id : Text) (given : List Row) → first_of id given ≡ None → one_of id given ≡ None
none_of id given none = go (find (λ r. bytes_eq r.id id) given) none
  where
    valued : (how : Reading) (values : List Text) → slice_get values 0 ≡ None → option_map (read_as how) (slice_get values 0) ≡ None
    valued how values e = ap (option_map (read_as how)) e

    go : (o : Option Row) → option_and_then (λ r. slice_get r.values 0) o ≡ None → option_and_then row_text o ≡ None
    go None e = refl
    go (Some r) e = valued r.reading r.values e

-- where something is given to an argument, all of it is a list that isn't empty
pub all_given : (id : Text) (given : List Row) → is_some (first_of id given) ≡ true → (values : List Text) × (all_of id given ≡ Some values) × (0 < length values)
all_given id given some = go (find (λ r. bytes_eq r.id id) given) some
  where
    valued : (values : List Text) → is_some (slice_get values 0) ≡ true → 0 < length values
    valued [] e = absurd (true≢false (sym e))
    valued (v ∷ vs) e = omega arith

    go : (o : Option Row) → is_some (option_and_then (λ r. slice_get r.values 0) o) ≡ true → (values : List Text) × (option_map (λ r. r.values) o ≡ Some values) × (0 < length values)
    go None e = absurd (true≢false (sym e))
    go (Some r) e = (r.values, refl, valued r.values e)

-- a number that is given is read as it is given
pub number_read : {E : Type 0} (G : List ℕ → Result ℕ E → Type 0) (default least most : ℕ) (id : Text) (given : List Row) (r : Option ℕ) → IsNumberGiven least most id given
    → (one_of id given ≡ None → r ≡ None) → ((t : List ℕ) → one_of id given ≡ Some t → ReadsOne G t r) → ((u : List ℕ) (x : Result ℕ E) → G u x → ParsesUnsigned 64 10 u x)
    → IsNumberOr default least most (first_of id given) (unwrap_or r default)
number_read {E} G default least most id given r is none some only = go (first_of id given) refl
  where
    read : (t : Text) (r : Option ℕ) → ReadsOne G t r → IsUnsignedIn least most t → IsNumber least most t (unwrap_or r default)
    read t (Some n) reads number =
        let parsed = only t (Ok n) reads in
        (number.0, parsed.1, rw parsed.1 number.2, rw parsed.1 number.3)
    read t None reads number = absurd (only t (Err reads.0) reads.1 (number.0, number.1))

    go : (o : Option Text) → first_of id given ≡ o → IsNumberOr default least most o (unwrap_or r default)
    go None at = rw (none (none_of id given at)) refl
    go (Some t) at = let given' = is t at in read t r (some t given'.0) given'.1

-- a number that is given is read as it is given, and none where none is
pub number_read_if_any : {E : Type 0} (G : List ℕ → Result ℕ E → Type 0) (least most : ℕ) (id : Text) (given : List Row) (r : Option ℕ) → IsNumberGiven least most id given
    → (one_of id given ≡ None → r ≡ None) → ((t : List ℕ) → one_of id given ≡ Some t → ReadsOne G t r) → ((u : List ℕ) (x : Result ℕ E) → G u x → ParsesUnsigned 64 10 u x)
    → IsNumberIfAny least most (first_of id given) r
number_read_if_any {E} G least most id given r is none some only = go (first_of id given) refl
  where
    read : (t : Text) (r : Option ℕ) → ReadsOne G t r → IsUnsignedIn least most t → IsNumberIfAny least most (Some t) r
    read t (Some n) reads number =
        let parsed = only t (Ok n) reads in
        (n, refl, (number.0, parsed.1, rw parsed.1 number.2, rw parsed.1 number.3))
    read t None reads number = absurd (only t (Err reads.0) reads.1 (number.0, number.1))

    go : (o : Option Text) → first_of id given ≡ o → IsNumberIfAny least most o r
    go None at = none (none_of id given at)
    go (Some t) at = let given' = is t at in read t r (some t given'.0) given'.1

is_memory : ErrorKind → Bool
is_memory kind.OutOfMemory = true
is_memory _ = false

fault_of_kind : (words : List Text) (e : Error) (k : ErrorKind) → kind_of e ≡ k → (k ≡ kind.OutOfMemory) ⊎ IsAmong (kind_of e) (fault_of lfiload_app words) → IsLineFault words (fault_by k e)
unfolding is_memory
fault_of_kind words e kind.OutOfMemory same h = tt
fault_of_kind words e kind.DisplayHelp same (inl memory) = absurd (true≢false (sym (ap is_memory memory)))
fault_of_kind words e kind.DisplayHelp same (inr among) = (among, ap is_help same)
fault_of_kind words e kind.DisplayVersion same (inl memory) = absurd (true≢false (sym (ap is_memory memory)))
fault_of_kind words e kind.DisplayVersion same (inr among) = (among, ap is_help same)
fault_of_kind words e _ same (inl memory) = absurd (true≢false (sym (ap is_memory memory)))
fault_of_kind words e _ same (inr among) = (among, ap is_help same)

-- what is made of the parser's error is a fault of the words
pub is_fault : {X : Type 0} (words : List Text) (r : Result X LineFault) (e : Error) → HasKind (fault_of lfiload_app words) e → IsErrAnd r (λ f. f ≡ fault_from e) → IfErr r (IsLineFault words)
is_fault words (Ok x) e kinds is = absurd is
is_fault words (Err f) e kinds is = subst (IsLineFault words) (sym is) (fault_of_kind words e (kind_of e) refl kinds)

-- a number is read of what has to be given
pub number_has : (default least most : ℕ) (o : Option Text) (n : ℕ) → is_some o ≡ true → IsNumberOr default least most o n → (text : Text) × (o ≡ Some text) × IsNumber least most text n
number_has default least most None n some is = absurd (true≢false (sym some))
number_has default least most (Some text) n some is = (text, refl, is)

-- Words that the parser takes for a subcommand give it what it needs.
given_of : (words : List Text) (name : Text) (given : List Row) → AreTakenFor words name given → AllGive (shape_named name) given
given_of words name given taken = subst Asks taken.1 (asks words taken.0)

-- The subcommand that the parser met is the one that the words name.
pub taken_for : (words : List Text) (m : ArgMatches) (name : Text) (given : List Row) → AreTakenBy words m → subcommand_name_of m ≡ Some name
    → option_map (λ p. p.1) (subcommand_rows_of m) ≡ Some given → AreTakenFor words name given
taken_for words m name given taken met rows =
    (taken.0, both_parts (subcommand_of lfiload_app words) name given (name_met m _ taken.1 ∙ met) (ap (option_map (λ p. p.1)) (sym taken.1) ∙ rows))

-- The subcommand that the parser met is given what it needs.
pub given_for : (words : List Text) (m : ArgMatches) (name : Text) (given : List Row) → AreTakenBy words m → subcommand_name_of m ≡ Some name
    → option_map (λ p. p.1) (subcommand_rows_of m) ≡ Some given → AllGive (shape_named name) given
given_for words m name given taken met rows = given_of words name given (taken_for words m name given taken met rows)

-- the name that is left, where the words name none of the others
last_of : (p : Option (Text × List Row)) → Asks p → (option_map (λ p. p.0) p ≡ Some (codes "check") → ⊥) → (option_map (λ p. p.0) p ≡ Some (codes "load") → ⊥)
    → (option_map (λ p. p.0) p ≡ Some (codes "serve") → ⊥) → (option_map (λ p. p.0) p ≡ Some (codes "disassemble") → ⊥) → (option_map (λ p. p.0) p ≡ Some (codes "pack") → ⊥)
    → (option_map (λ p. p.0) p ≡ Some (codes "unpack") → ⊥) → (option_map (λ p. p.0) p ≡ Some (codes "info") → ⊥) → option_map (λ p. p.0) p ≡ Some (codes "run")
last_of None asks not_check not_load not_serve not_disassemble not_pack not_unpack not_info = absurd asks
last_of (Some p) asks not_check not_load not_serve not_disassemble not_pack not_unpack not_info =
    named (bytes_eq (codes "check") p.0) refl (bytes_eq (codes "load") p.0) refl (bytes_eq (codes "serve") p.0) refl (bytes_eq (codes "run") p.0) refl
    (bytes_eq (codes "disassemble") p.0) refl (bytes_eq (codes "pack") p.0) refl (bytes_eq (codes "unpack") p.0) refl (bytes_eq (codes "info") p.0) refl asks
  where
    same : (name : Text) → bytes_eq name p.0 ≡ true → Some p.0 ≡ Some name
    same name is = ap Some (sym ((bytes_eq-Decides name p.0).0 is))

    named : (a : Bool) → bytes_eq (codes "check") p.0 ≡ a → (b : Bool) → bytes_eq (codes "load") p.0 ≡ b → (c : Bool) → bytes_eq (codes "serve") p.0 ≡ c
        → (d : Bool) → bytes_eq (codes "run") p.0 ≡ d → (f : Bool) → bytes_eq (codes "disassemble") p.0 ≡ f → (g : Bool) → bytes_eq (codes "pack") p.0 ≡ g
        → (h : Bool) → bytes_eq (codes "unpack") p.0 ≡ h → (j : Bool) → bytes_eq (codes "info") p.0 ≡ j → AllGive (picked a b c d f g h j) p.1 → Some p.0 ≡ Some (codes "run")
    named true is b _ c _ d _ f _ g _ h _ j _ give = absurd (not_check (same (codes "check") is))
    named false _ true is c _ d _ f _ g _ h _ j _ give = absurd (not_load (same (codes "load") is))
    named false _ false _ true is d _ f _ g _ h _ j _ give = absurd (not_serve (same (codes "serve") is))
    named false _ false _ false _ true is f _ g _ h _ j _ give = same (codes "run") is
    named false _ false _ false _ false _ true is g _ h _ j _ give = absurd (not_disassemble (same (codes "disassemble") is))
    named false _ false _ false _ false _ false _ true is h _ j _ give = absurd (not_pack (same (codes "pack") is))
    named false _ false _ false _ false _ false _ false _ true is j _ give = absurd (not_unpack (same (codes "unpack") is))
    named false _ false _ false _ false _ false _ false _ false _ true is give = absurd (not_info (same (codes "info") is))
    named false _ false _ false _ false _ false _ false _ false _ false _ give = absurd give

-- Of a subcommand that the parser didn't meet the words don't have the name.
not_met : (words : List Text) (m : ArgMatches) (name : Text) → AreTakenBy words m → (subcommand_name_of m ≡ Some name → ⊥)
    → option_map (λ p. p.0) (subcommand_of lfiload_app words) ≡ Some name → ⊥
not_met words m name taken other is = other (sym (name_met m _ taken.1) ∙ is)

-- Where the parser met none of the others, it met `run`.
pub run_met : (words : List Text) (m : ArgMatches) → AreTakenBy words m → (subcommand_name_of m ≡ Some (codes "check") → ⊥) → (subcommand_name_of m ≡ Some (codes "load") → ⊥)
    → (subcommand_name_of m ≡ Some (codes "serve") → ⊥) → (subcommand_name_of m ≡ Some (codes "disassemble") → ⊥) → (subcommand_name_of m ≡ Some (codes "pack") → ⊥)
    → (subcommand_name_of m ≡ Some (codes "unpack") → ⊥) → (subcommand_name_of m ≡ Some (codes "info") → ⊥) → subcommand_name_of m ≡ Some (codes "run")
run_met words m taken check load serve disassemble pack unpack info =
    sym (name_met m _ taken.1)
    ∙ last_of (subcommand_of lfiload_app words) (asks words taken.0) (not_met words m (codes "check") taken check) (not_met words m (codes "load") taken load)
    (not_met words m (codes "serve") taken serve) (not_met words m (codes "disassemble") taken disassemble) (not_met words m (codes "pack") taken pack) (not_met words m (codes "unpack") taken unpack)
    (not_met words m (codes "info") taken info)

-- a number in a range, or one that is in it
pub number_most : (default least most : ℕ) (o : Option Text) (n : ℕ) → default ≤ most → IsNumberOr default least most o n → n ≤ most
number_most default least most None n fits is = omega (arith, fits, is)
number_most default least most (Some text) n fits is = is.3

-- of two numbers it is the first, where it isn't the second
pub number_first : (o : Option Text) (n : ℕ) → (n ≡ 2 → ⊥) → IsNumberOr 1 1 2 o n → n ≡ 1
number_first None n other is = is
number_first (Some text) n other is = (let not_two : n ≢ 2 = other in let least = is.2 in let most = is.3 in omega arith)

-- want of memory is a fault of any words
pub no_memory : (words : List Text) (fault : LineFault) → IsNoMemory fault → IsLineFault words fault
no_memory words fault is = subst (IsLineFault words) (sym is) tt

-- what is wrong with what is given to `pack` is wrong with the words
pub pack_fault : (words : List Text) (given : List Row) (fault : LineFault) → AreTakenFor words (codes "pack") given → IsFaultOfPack given fault → IsLineFault words fault
pack_fault words given NoMemory taken is = tt
pack_fault words given (Help error) taken is = absurd is
pack_fault words given (Wrong error) taken is = absurd is
pack_fault words given NoPages taken is = (given, is.0, taken, is.1, is.2)
pack_fault words given (Flawed flaw) taken is = absurd is
pack_fault words given NoFormat taken is = absurd is

-- what is wrong with the form of the answer that a subcommand is given is wrong with the words
pub format_fault : (words : List Text) (name : Text) (given : List Row) (fault : LineFault) → AreTakenFor words name given → IsFaultOfFormat given fault → IsLineFault words fault
format_fault words name given NoMemory taken is = tt
format_fault words name given (Help error) taken is = absurd is
format_fault words name given (Wrong error) taken is = absurd is
format_fault words name given NoPages taken is = absurd is
format_fault words name given NoFormat taken is = (name, given, taken, is)
format_fault words name given (Flawed flaw) taken is = absurd is

-- a flag is read as it is given
pub flag_read : (o : Option Text) (given : Bool) → (o ≡ None → given ≡ false) → (o ≡ Some (codes "true") → given ≡ true) → (o ≡ Some (codes "false") → given ≡ false) → IsFlag o given
flag_read None given none set other = none refl
flag_read (Some text) given none set other = (λ e. set (ap Some e), λ e. other (ap Some e))

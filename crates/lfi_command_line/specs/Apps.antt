-- The program's command, as the parser sees it. (docs/COMMANDS.md)
use Rattle.std.specs.Prelude.{◌≡◌, false, true, codes, Some}
use Rattle.clap.specs.Lexer.{usize_max}
use Rattle.clap.specs.Words.{App, Rule, Text, app_of, new_app, new_rule, with_rule, with_subcommand}
use Rattle.clap.specs.Simple.{on_top}
use Rattle.clap.specs.declared.builder.value_parser.ValueParser.{ValueParser}
use Rattle.clap.specs.declared.builder.value_parser.ValueParser.TheVariants.{Unsigned}
use Rattle.clap.specs.declared.builder.action.ArgAction.TheVariants.{SetTrue}
use Rattle.clap.specs.declared.builder.command.Command.{Command}
use Rattle.clap.specs.declared.builder.command.Command.TheViews.{out-Command}

-- an argument that has to be there
abbrev pub needed : Rule → Rule
needed rule = record rule { required = true }

-- one in its place that has to be there
abbrev pub required_rule : Text → Rule
required_rule id = needed (new_rule id)

-- arguments in the last places, one at least
abbrev pub several_rule : Text → Rule
several_rule id = record (required_rule id) { range = Some (record { start_inclusive = 1; end_inclusive = usize_max }) }

-- `--NAME VALUE`
abbrev pub option_rule : Text → Rule
option_rule name = record (new_rule name) { long = Some name; value_names = 1 }

-- `--NAME N`, N a number in decimal digits from the one to the other
abbrev pub number_rule : Text → ValueParser → Rule
number_rule name parser = record (option_rule name) { parser = Some parser }

-- `--NAME`, which is given or not
abbrev pub flag_rule : Text → Rule
flag_rule name = record (new_rule name) { long = Some name; action = Some SetTrue }

-- `--profile P`
abbrev pub profile_rule : Rule
profile_rule = number_rule (codes "profile") (Unsigned 1 2)

-- `--format F`
abbrev pub format_rule : Rule
format_rule = option_rule (codes "format")

-- `check [--explain] [--all] [--profile P] [--format F] FILE..`
abbrev pub check_app : App
check_app = with_rule (with_rule (with_rule (with_rule (with_rule (new_app (codes "check")) (flag_rule (codes "explain"))) (flag_rule (codes "all"))) profile_rule) (several_rule (codes "FILE")))
    format_rule

-- `load [--verifiers V] [--out DIR] [--explain] [--format F] STREAM..`
abbrev pub load_app : App
load_app = with_rule (with_rule (with_rule (with_rule (with_rule (new_app (codes "load")) (number_rule (codes "verifiers") (Unsigned 1 8))) (option_rule (codes "out"))) (several_rule (codes "STREAM")))
    (flag_rule (codes "explain"))) format_rule

-- `serve --socket P --connections C [--verifiers V] [--seconds N] [--out DIR] [--explain] [--format F]`
abbrev pub serve_app : App
serve_app = with_rule (with_rule (with_rule (with_rule (with_rule (with_rule (with_rule (new_app (codes "serve"))
    (needed (option_rule (codes "socket")))) (needed (number_rule (codes "connections") (Unsigned 1 8))))
    (number_rule (codes "verifiers") (Unsigned 1 8))) (number_rule (codes "seconds") (Unsigned 1 86400)))
    (option_rule (codes "out"))) (flag_rule (codes "explain"))) format_rule

-- `run IMAGE --steps N [--format F]`
abbrev pub run_app : App
run_app = with_rule (with_rule (with_rule (new_app (codes "run")) (needed (number_rule (codes "steps") (Unsigned 0 1000000000)))) (required_rule (codes "IMAGE"))) format_rule

-- `disassemble [--check] [--profile P] FILE`
abbrev pub disassemble_app : App
disassemble_app = with_rule (with_rule (with_rule (new_app (codes "disassemble")) (flag_rule (codes "check"))) profile_rule) (required_rule (codes "FILE"))

-- `pack [--module M] [--entry WORD] [--profile P] [--pages SIZE] CODE..`
abbrev pub pack_app : App
pack_app = with_rule (with_rule (with_rule (with_rule (with_rule (new_app (codes "pack")) (number_rule (codes "module") (Unsigned 0 15))) (number_rule (codes "entry") (Unsigned 0 4194303))) profile_rule)
    (option_rule (codes "pages"))) (several_rule (codes "CODE"))

-- `unpack IMAGE`
abbrev pub unpack_app : App
unpack_app = with_rule (new_app (codes "unpack")) (required_rule (codes "IMAGE"))

-- `info FILE..`
abbrev pub info_app : App
info_app = with_rule (new_app (codes "info")) (several_rule (codes "FILE"))

-- the program without its subcommands: one has to be there, `help` is none, and it has a version
abbrev pub bare_app : App
bare_app = on_top (λ s. record s { has_version = true; subcommand_required = true; disable_help_subcommand = true }) (new_app (codes "lfiload"))

-- the program
abbrev pub lfiload_app : App
lfiload_app = with_subcommand (with_subcommand (with_subcommand (with_subcommand (with_subcommand (with_subcommand (with_subcommand (with_subcommand bare_app
    check_app.top) load_app.top) serve_app.top) run_app.top) disassemble_app.top) pack_app.top) unpack_app.top) info_app.top

-- the parser's command is the one described, and none of its arguments is global
abbrev pub Makes : App → Command → Type 0
Makes app command = (app_of command ≡ app) × ((out-Command command).has_globals ≡ false)

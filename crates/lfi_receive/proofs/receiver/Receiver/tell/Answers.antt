use Rattle.std.proofs.Common.{rules, ◌<◌, ◌++◌, sym, subst, refl, flat_map, length}
use Rattle.lfi_module.specs.Numbers.{module_count}
use Rattle.lfi_frame.specs.Streams.{spelling}
use Rattle.lfi_receive.specs.Receivers.{StandsFor}
use Rattle.lfi_connection.specs.Events.{Continues}
use Rattle.lfi_receive.specs.inner.Pages.{coming_of}
use Rattle.lfi_receive.specs.inner.Holding.{Brought}
use Rattle.lfi_receive.proofs.Standing.{not_over}
use Rattle.lfi_receive.proofs.Telling.{on_nothing, on_stray, on_open, on_end, on_begin, begin_over, on_code, code_runs}
use Rattle.lfi_receive.proofs.receiver.Receiver.tell.Goals as goal

pub returns-in-Nothing-clause-stands : goal.returns-in-Nothing-clause-stands
returns-in-Nothing-clause-stands c = λ ms rest b. on_nothing c.args.self.now ms rest c.args.bytes.now c.requires.running c.requires.free (subst (λ e. Brought c.args.self.now e ms rest c.args.bytes.now) c.in-Nothing.is b)

pub returns-in-Stray-clause-stands : goal.returns-in-Stray-clause-stands
returns-in-Stray-clause-stands c = λ ms rest b.
    let low : c.in-Stray.«module» < module_count = search rules in
    subst (λ z. StandsFor z (flat_map spelling ms ++ (rest ++ c.args.bytes.now))) (sym c.stray.ensures)
    (on_stray c.args.self.now _ c.in-Stray.«module» ms rest c.args.bytes.now low c.requires.running c.requires.free refl (subst (λ e. Brought c.args.self.now e ms rest c.args.bytes.now) c.in-Stray.is b))

pub returns-in-Open-clause-stands : goal.returns-in-Open-clause-stands
returns-in-Open-clause-stands c = λ ms rest b.
    subst (λ z. StandsFor z (flat_map spelling ms ++ (rest ++ c.args.bytes.now))) (sym c.open_module.ensures)
    (on_open c.args.self.now c.in-Open.«module» c.in-Open.extent ms rest c.args.bytes.now c.requires.running c.requires.free (subst (λ e. Brought c.args.self.now e ms rest c.args.bytes.now) c.in-Open.is b))

pub returns-in-End-clause-stands : goal.returns-in-End-clause-stands
returns-in-End-clause-stands c = λ ms rest b.
    subst (λ z. StandsFor z (flat_map spelling ms ++ (rest ++ c.args.bytes.now))) (sym c.end_module.ensures)
    (on_end c.args.self.now c.in-End.«module» c.in-End.extent c.in-End.pages c.in-End.why ms rest c.args.bytes.now c.requires.running c.requires.free (subst (λ e. Brought c.args.self.now e ms rest c.args.bytes.now) c.in-End.is b))

pub returns-in-Begin-clause-stands : goal.returns-in-Begin-clause-stands
returns-in-Begin-clause-stands c = λ ms rest b.
    on_begin c.args.self.now c.begin.new.self c.in-Begin.due ms rest c.args.bytes.now c.requires.running c.requires.free c.begin.ensures.page (subst (λ e. Brought c.args.self.now e ms rest c.args.bytes.now) c.in-Begin.is b)

pub returns-in-Begin-clause-over : goal.returns-in-Begin-clause-over
returns-in-Begin-clause-over c = λ ms rest b.
    begin_over c.args.self.now c.begin.new.self c.in-Begin.due ms rest c.args.bytes.now c.requires.running c.begin.ensures.page (subst (λ e. Brought c.args.self.now e ms rest c.args.bytes.now) c.in-Begin.is b)

pub returns-in-Code-clause-stands : goal.returns-in-Code-clause-stands
returns-in-Code-clause-stands c = λ ms rest b.
    let r = c.args.self.now in
    on_code r c.payload.new.self c.in-Code.page c.in-Code.ended ms rest c.args.bytes.now c.requires.running c.requires.free
    (subst (λ e. Continues e (coming_of r.page) (length c.args.bytes.now)) c.in-Code.is c.requires.continues) c.payload.ensures.keeps (subst (λ e. Brought r e ms rest c.args.bytes.now) c.in-Code.is b)

pub returns-in-Code-clause-over : goal.returns-in-Code-clause-over
returns-in-Code-clause-over c = λ ms rest b. not_over _ _ _ (code_runs c.args.self.now c.payload.new.self c.args.self.now.page c.in-Code.ended c.args.bytes.now c.payload.ensures.keeps c.requires.running)

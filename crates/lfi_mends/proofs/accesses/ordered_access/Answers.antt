use Rattle.std.specs.Prelude.{Result, Ok, Err, IfOk}
use Rattle.std.proofs.lemmas.Bool.{not-true}
use Rattle.lfi_mends.specs.declared.mend.Mend.{Mend}
use Rattle.lfi_mends.specs.declared.reason.Reason.{Reason}
use Rattle.lfi_mends.specs.Mends.{mended}
use Rattle.lfi_mends.specs.Registers.{is_reserved}
use Rattle.lfi_mends.proofs.InOrder.{ordered_same}
use Rattle.lfi_mends.proofs.BoundedInOrder.{ordered_bounded}
use Rattle.lfi_mends.proofs.accesses.ordered_access.Goals as goal

if_ok : (P Q : Mend → Type 0) (r : Result Mend Reason) → ((m : Mend) → P m → Q m) → IfOk r P → IfOk r Q
if_ok P Q (Ok m) f h = f m h
if_ok P Q (Err reason) f h = h

if_all : (P Q R S : Mend → Type 0) (r : Result Mend Reason) → ((m : Mend) → P m → Q m → R m → S m) → IfOk r P → IfOk r Q → IfOk r R → IfOk r S
if_all P Q R S (Ok m) f h k l = f m h k l
if_all P Q R S (Err reason) f h k l = h

pub returns-clause-does : goal.returns-clause-does
returns-clause-does c =
    let i = c.args.i.now in
    if_ok _ _ c.in_order.result
    (λ m items plain. let free = not-true (is_reserved i.rt) plain in ordered_same i.size i.load i.rn i.rt (mended m) free (items free))
    c.in_order.ensures.free

pub returns-clause-bounded : goal.returns-clause-bounded
returns-clause-bounded c =
    let i = c.args.i.now in
    if_all _ _ _ _ c.in_order.result (λ m link free reserved. ordered_bounded i.size i.load i.rn i.rt (mended m) link free reserved)
    c.in_order.ensures.link c.in_order.ensures.free c.in_order.ensures.reserved

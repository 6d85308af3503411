use Rattle.std.proofs.Common.{rules, ap, sym, subst, ◌≡◌, ◌<◌, ◌∙◌, length}
use Rattle.lfi_image.specs.Image.{Module}
use Rattle.lfi_image_file.specs.inner.Steps.{ReadsPage}
use Rattle.std.specs.Option.{IfSome}
use Rattle.std.proofs.lemmas.Result.{err_from_is_err_and}
use Rattle.lfi_image_file.specs.declared.fault.ImageFault.{ImageFault}
use Rattle.lfi_image_file.specs.Reading.{IsCodeFault, IsUnread}
use Rattle.lfi_image_file.proofs.Runs.{read_more, page_fault, page_unread}
use Rattle.lfi_image_file.proofs.reading.read_code.Goals as goal

pub loop-alloc-preserved : goal.loop-alloc-preserved
loop-alloc-preserved g c =
    let step : ReadsPage (g.R.Read.remaining c.loop-alloc.reader) (g.R.Read.remaining c.read_page.new.reader) c.loop-alloc.builder c.read_page.new.builder = c.in_ok-read_page.ensures.page in
    let less : length c.loop-alloc.builder.placed < c.args.builder.now.extent.words = search rules in
    let extent : c.read_page.new.builder.extent ≡ c.loop-alloc.builder.extent = ap (λ (m : Module). m.extent) step.placed in
    let slot : c.read_page.new.builder.slot ≡ c.loop-alloc.builder.slot = ap (λ (m : Module). m.slot) step.placed in
    let same = c.loop-alloc.invariant.same in
    record {
      read = read_more _ _ _ _ _ _ _ c.loop-alloc.invariant.read step (ap (λ z. z.profile) same.extent) (ap (λ z. z.words) same.extent) (ap (λ z. z.pages) same.extent ∙ c.requires.pages) less;
      same = record { extent = extent ∙ same.extent; slot = slot ∙ same.slot };
    }

pub returns-in_err-read_page-clause-fault : goal.returns-in_err-read_page-clause-fault
returns-in_err-read_page-clause-fault g c =
    let p = err_from_is_err_and c.from_residual.result c.from_residual.ensures.1 in
    let fault : ImageFault = c.in_err-read_page.field-0.0 in
    let less : length c.loop-alloc.builder.placed < c.args.builder.now.extent.words = search rules in
    let told : IfSome (g.R.Read.remaining c.args.reader.now) (λ code. IsCodeFault c.args.builder.now.extent.profile c.args.builder.now.extent.words code fault) =
    page_fault c.args.builder.now.extent.profile (g.R.Read.remaining c.args.reader.now) (g.R.Read.remaining c.loop-alloc.reader) (g.R.Read.remaining c.read_page.new.reader) c.args.builder.now.extent.words c.loop-alloc.builder fault c.loop-alloc.invariant.read (ap (λ z. z.profile) c.loop-alloc.invariant.same.extent) (ap (λ z. z.words) c.loop-alloc.invariant.same.extent) (ap (λ z. z.pages) c.loop-alloc.invariant.same.extent ∙ c.requires.pages) less c.in_err-read_page.ensures.fault in
    rw p.1 (subst (λ f. IfSome (g.R.Read.remaining c.args.reader.now) (λ code. IsCodeFault c.args.builder.now.extent.profile c.args.builder.now.extent.words code f)) (sym p.2) told)

pub returns-in_err-read_page-clause-unread : goal.returns-in_err-read_page-clause-unread
returns-in_err-read_page-clause-unread g c =
    let p = err_from_is_err_and c.from_residual.result c.from_residual.ensures.1 in
    let fault : ImageFault = c.in_err-read_page.field-0.0 in
    let less : length c.loop-alloc.builder.placed < c.args.builder.now.extent.words = search rules in
    let told : IfSome (g.R.Read.remaining c.args.reader.now) (λ code. IsUnread c.args.builder.now.extent.words code (g.R.Read.remaining c.read_page.new.reader) fault) =
    page_unread c.args.builder.now.extent.profile (g.R.Read.remaining c.args.reader.now) (g.R.Read.remaining c.loop-alloc.reader) (g.R.Read.remaining c.read_page.new.reader) c.args.builder.now.extent.words c.loop-alloc.builder fault c.loop-alloc.invariant.read (ap (λ z. z.profile) c.loop-alloc.invariant.same.extent) (ap (λ z. z.words) c.loop-alloc.invariant.same.extent) (ap (λ z. z.pages) c.loop-alloc.invariant.same.extent ∙ c.requires.pages) less c.in_err-read_page.ensures.fault in
    rw p.1 (subst (λ f. IfSome (g.R.Read.remaining c.args.reader.now) (λ code. IsUnread c.args.builder.now.extent.words code (g.R.Read.remaining c.read_page.new.reader) f)) (sym p.2) told)

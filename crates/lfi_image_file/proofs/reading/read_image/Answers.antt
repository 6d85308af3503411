use Rattle.std.proofs.Common.{rules, ◌≡◌, ℕ, ◌<◌, Some, None, List, [], length, sym, subst, ap, ◌∙◌}
use Rattle.std.specs.Option.{IfSome}
use Rattle.std.proofs.lemmas.Result.{err_from_is_err_and}
use Rattle.lfi_image_file.specs.declared.fault.ImageFault.{ImageFault}
use Rattle.lfi_image_file.specs.declared.fault.ImageFault.TheVariants.{More}
use Rattle.lfi_image_file.specs.Reading.{count_in, named_profile, header_fault, IsFault, IsRestUnread}
use Rattle.lfi_image_file.proofs.Runs.{file_told, header_told, code_told, more_told, header_unread, file_unread, memory_told}
use Rattle.lfi_image.specs.Image.{Image}
use Rattle.lfi_image_file.specs.Files.{header_of}
use Rattle.lfi_image_file.proofs.reading.read_image.Goals as goal

pub returns-in_err-header-clause-fault : goal.returns-in_err-header-clause-fault
returns-in_err-header-clause-fault g c =
    let p = err_from_is_err_and c.from_residual-in_err-header.result c.from_residual-in_err-header.ensures.1 in
    let fault : ImageFault = c.in_err-header.field-0.0 in
    let header : List ℕ = c.read_bytes.new.bytes in
    let long : length header ≡ 24 = search rules in
    let told : header_fault header ≡ Some fault = c.in_err-header.ensures.fault in
    rw p.1 (subst (λ f. IfSome (g.R.Read.remaining c.args.reader.now) (λ bytes. IsFault bytes f)) (sym p.2)
    (header_told (g.R.Read.remaining c.args.reader.now) (g.R.Read.remaining c.read_bytes.new.reader) header fault c.in_ok-read_bytes.ensures.full long told))

pub returns-in_err-read_code-clause-fault : goal.returns-in_err-read_code-clause-fault
returns-in_err-read_code-clause-fault g c =
    let p = err_from_is_err_and c.from_residual-in_err-read_code.result c.from_residual-in_err-read_code.ensures.1 in
    let fault : ImageFault = c.in_err-read_code.field-0.0 in
    let header : List ℕ = c.read_bytes.new.bytes in
    let long : length header ≡ 24 = search rules in
    let none : header_fault header ≡ None = c.in_ok-header.ensures.fault in
    let count : c.in-Ok.builder.extent.words ≡ count_in header = search rules in
    let profile : c.in-Ok.builder.extent.profile ≡ named_profile header = search rules in
    rw p.1 (subst (λ f. IfSome (g.R.Read.remaining c.args.reader.now) (λ bytes. IsFault bytes f)) (sym p.2)
    (code_told c.in-Ok.builder.extent.profile (g.R.Read.remaining c.args.reader.now) (g.R.Read.remaining c.read_bytes.new.reader) header c.in-Ok.builder.extent.words fault c.in_ok-read_bytes.ensures.full long none profile count c.in_err-read_code.ensures.fault))

pub returns-then-not-branch-clause-fault : goal.returns-then-not-branch-clause-fault
returns-then-not-branch-clause-fault g c =
    let header : List ℕ = c.read_bytes.new.bytes in
    let long : length header ≡ 24 = search rules in
    let none : header_fault header ≡ None = c.in_ok-header.ensures.fault in
    let count : c.in-Ok.builder.extent.words ≡ count_in header = search rules in
    let profile : c.in-Ok.builder.extent.profile ≡ named_profile header = search rules in
    let more : IfSome (g.R.Read.remaining c.read_code.new.reader) (λ rest. 0 < length rest) = search rules in
    code_told c.in-Ok.builder.extent.profile (g.R.Read.remaining c.args.reader.now) (g.R.Read.remaining c.read_bytes.new.reader) header c.in-Ok.builder.extent.words More c.in_ok-read_bytes.ensures.full long none profile count
    (more_told c.in-Ok.builder.extent.profile (g.R.Read.remaining c.read_bytes.new.reader) (g.R.Read.remaining c.read_code.new.reader) c.in-Ok.builder.extent.words c.read_code.new.builder.placed c.in_ok-read_code.ensures.code c.in_ok-read_code.ensures.whole more)

pub returns-in_err-header-clause-unread : goal.returns-in_err-header-clause-unread
returns-in_err-header-clause-unread g c =
    let p = err_from_is_err_and c.from_residual-in_err-header.result c.from_residual-in_err-header.ensures.1 in
    let fault : ImageFault = c.in_err-header.field-0.0 in
    let told : header_fault c.read_bytes.new.bytes ≡ Some fault = c.in_err-header.ensures.fault in
    rw p.1 (subst (λ f. IfSome (g.R.Read.remaining c.args.reader.now) (λ bytes. IsRestUnread bytes (g.R.Read.remaining c.read_bytes.new.reader) f)) (sym p.2)
    (header_unread (g.R.Read.remaining c.args.reader.now) (g.R.Read.remaining c.read_bytes.new.reader) c.read_bytes.new.bytes fault told))

pub returns-in_err-read_code-clause-unread : goal.returns-in_err-read_code-clause-unread
returns-in_err-read_code-clause-unread g c =
    let p = err_from_is_err_and c.from_residual-in_err-read_code.result c.from_residual-in_err-read_code.ensures.1 in
    let fault : ImageFault = c.in_err-read_code.field-0.0 in
    let header : List ℕ = c.read_bytes.new.bytes in
    let long : length header ≡ 24 = search rules in
    let count : c.in-Ok.builder.extent.words ≡ count_in header = search rules in
    rw p.1 (subst (λ f. IfSome (g.R.Read.remaining c.args.reader.now) (λ bytes. IsRestUnread bytes (g.R.Read.remaining c.read_code.new.reader) f)) (sym p.2)
    (file_unread (g.R.Read.remaining c.args.reader.now) (g.R.Read.remaining c.read_bytes.new.reader) (g.R.Read.remaining c.read_code.new.reader) header c.in-Ok.builder.extent.words fault c.in_ok-read_bytes.ensures.full long count c.in_err-read_code.ensures.unread))

pub returns-in_default-clause-fault : goal.returns-in_default-clause-fault
returns-in_default-clause-fault g c =
    let header : List ℕ = c.read_bytes.new.bytes in
    let long : length header ≡ 24 = search rules in
    memory_told (g.R.Read.remaining c.args.reader.now) (g.R.Read.remaining c.read_bytes.new.reader) header c.in_ok-read_bytes.ensures.full long c.in_ok-header.ensures.fault

pub returns-clause-file : goal.returns-clause-file
returns-clause-file g c =
    let header : List ℕ = c.read_bytes.new.bytes in
    let image : Image = c.in-Ok-finish.image in
    let last = c.read_code.new.builder in
    let goes = c.in_ok-read_code.ensures.same in
    let is : image ≡ record { profile = last.extent.profile; entry = last.extent.entry; slot = last.slot; words = last.placed } = c.in-Ok-finish.ensures.1 in
    let count : c.in-Ok.builder.extent.words ≡ c.in_ok-header.header.extent.words = search rules in
    let entry : c.in-Ok.builder.extent.entry ≡ c.in_ok-header.header.extent.entry = search rules in
    let profile : c.in-Ok.builder.extent.profile ≡ c.in_ok-header.header.extent.profile = search rules in
    let slot : c.in-Ok.builder.slot ≡ c.in_ok-header.header.slot = search rules in
    let words : last.placed ≡ image.words = sym (ap (λ (m : Image). m.words) is) in
    let long : length image.words ≡ c.in_ok-header.header.extent.words = ap length (sym words) ∙ c.in_ok-read_code.ensures.whole ∙ count in
    let enters : image.entry ≡ c.in_ok-header.header.extent.entry = ap (λ (m : Image). m.entry) is ∙ ap (λ z. z.entry) goes.extent ∙ entry in
    let by : image.profile ≡ c.in_ok-header.header.extent.profile = ap (λ (m : Image). m.profile) is ∙ ap (λ z. z.profile) goes.extent ∙ profile in
    let at : image.slot ≡ c.in_ok-header.header.slot = ap (λ (m : Image). m.slot) is ∙ goes.slot ∙ slot in
    let first : header ≡ header_of (length image.words) image.entry image.profile image.slot = c.in_ok-header.ensures.bytes ∙ (λ i. header_of (sym long i) (sym enters i) (sym by i) (sym at i)) in
    let ended : IfSome (g.R.Read.remaining c.read_code.new.reader) (λ rest. rest ≡ []) = search rules in
    file_told c.in-Ok.builder.extent.profile (g.R.Read.remaining c.args.reader.now) (g.R.Read.remaining c.read_bytes.new.reader) (g.R.Read.remaining c.read_code.new.reader) header c.in-Ok.builder.extent.words last.placed image
    c.in_ok-read_bytes.ensures.full c.in_ok-read_code.ensures.code ended first words

use Rattle.std.proofs.Common.{[], refl, sym, ap, subst}
use Rattle.lfi_model.specs.Item.{kind_seen}
use Rattle.lfi_model.specs.Modules.{OpensFirst}
use Rattle.lfi_sequence.proofs.placing.opened.Goals as goal

pub returns-in-End-clause-handled : goal.returns-in-End-clause-handled
returns-in-End-clause-handled c = λ numbered. absurd (subst (λ k. OpensFirst [] (kind_seen (λ page. page.page.bytes) k)) c.in-End.is (subst (λ k. OpensFirst [] k) (ap (λ i. i.kind) (sym c.item.view_is)) (numbered [] [] c.args.item refl).opens))

pub returns-in-Page : goal.returns-in-Page
returns-in-Page c = record {
  spare = λ e. c.requires;
  handled = λ numbered. absurd (subst (λ k. OpensFirst [] (kind_seen (λ page. page.page.bytes) k)) c.in-Page.is (subst (λ k. OpensFirst [] k) (ap (λ i. i.kind) (sym c.item.view_is)) (numbered [] [] c.args.item refl).opens));
}

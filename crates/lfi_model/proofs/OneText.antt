-- What a text makes is determined by it.
use Rattle.std.proofs.Common.{◌≡◌, ℕ, ◌<◌, Bool, List, Option, sym, ◌∙◌}
use Rattle.lfi_frame.specs.declared.fault.FrameFault.{FrameFault}
use Rattle.lfi_module.specs.Numbers.{module_count}
use Rattle.lfi_frame.proofs.Cuts.{only}
use Rattle.lfi_model.specs.Item.{ItemView}
use Rattle.lfi_model.specs.declared.connection.EndCause.{EndCause}
use Rattle.lfi_model.specs.Items.{ItemsOf, items_of, connection_fault, strays_of}

module _ (bytes : List ℕ) (cause : EndCause) (claimed : ℕ → Bool) (items other : ℕ → List ItemView) (found last : Option FrameFault) (strays more : ℕ)
    (one : ItemsOf bytes cause claimed items found strays) (two : ItemsOf bytes cause claimed other last more) where
  messages_same : one.messages ≡ two.messages
  messages_same = (only bytes one.messages two.messages one.rest two.rest one.cut two.cut).0

  rest_same : one.rest ≡ two.rest
  rest_same = (only bytes one.messages two.messages one.rest two.rest one.cut two.cut).1

  pub same_items : (m : ℕ) → m < module_count → items m ≡ other m
  same_items m in_range =
      one.items_are m in_range ∙ (λ i. items_of (messages_same i) (rest_same i) cause claimed m) ∙ sym (two.items_are m in_range)

  pub same_fault : found ≡ last
  same_fault = one.fault_is ∙ (λ i. connection_fault (messages_same i) (rest_same i) cause claimed) ∙ sym two.fault_is

  pub same_strays : strays ≡ more
  same_strays = one.strays_are ∙ (λ i. strays_of (messages_same i) (rest_same i) cause claimed) ∙ sym two.strays_are

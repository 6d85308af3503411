use Rattle.std.proofs.Common.{rules, ◌≡◌, ◌∙◌, [], List, Bool, true, false, Option, None, get_or, if◌then◌else◌, ap, refl}
use Rattle.std.specs.Prelude.{nat_lt}
use Rattle.lfi_model.specs.Item.{ItemView}
use Rattle.lfi_model.proofs.Numbered.{module_none}
use Rattle.lfi_sequence.proofs.Comes.{coming_none}
use Rattle.lfi_sequence.proofs.sequence.Sequence.new.Goals as goal

none_either : (b : Bool) → ◌≡◌ {A = Option ItemView} None (if b then None else None)
none_either true = refl
none_either false = refl

pub returns-clause-sequenced : goal.returns-clause-sequenced
returns-clause-sequenced c = record {
  come = [];
  has_come = record { each = coming_none []; stops = λ x comes. absurd (let none = comes.first in cc) };
  holds = record {
    typed = λ x m. absurd m;
    numbered = module_none;
    count = refl;
    built = refl;
    waits = λ k. (let empty : c.in_ok-with_capacity.field-0.items ≡ [] = search rules in ap (λ (l : List (Option ItemView)). get_or l k None) empty ∙ none_either (nat_lt k 0));
  };
}

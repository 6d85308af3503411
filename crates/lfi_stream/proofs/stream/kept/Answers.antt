use Rattle.std.proofs.Common.{◌∙◌, sym, subst}
use Rattle.lfi_frame.specs.Feeds.{IsAt}
use Rattle.lfi_stream.proofs.stream.kept.Goals as goal

pub returns-clause-stands : goal.returns-clause-stands
returns-clause-stands c = λ messages rest stands none. record {
  position = c.parts-position.result.1;
  is = c.feed_at.ensures.position;
  faultless = c.parts-position.ensures.fault ∙ none;
  holds = subst (λ h. IsAt h c.parts-position.result.1 rest) (sym c.feed_at.ensures.held) (c.parts-position.ensures.stands messages rest stands).1;
}

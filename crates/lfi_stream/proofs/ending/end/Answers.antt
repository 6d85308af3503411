use Rattle.std.proofs.Common.{◌≡◌, ◌∙◌, sym, subst, refl, None, Some}
use Rattle.lfi_frame.specs.Feeds.{FeedStands, feed_fault}
use Rattle.lfi_stream.specs.Numbers.{position_at, FitsPage}
use Rattle.lfi_stream.specs.Streams.{all}
use Rattle.lfi_stream.proofs.Told.{faultless_at, same_some, stands_at, none_by, no_page}
use Rattle.lfi_stream.proofs.ending.end.Goals as goal

pub returns-then-not-fits_page : goal.returns-then-not-fits_page
returns-then-not-fits_page c =
    let r = c.args.stream.now in
    let position = c.in_ok-position.position in
    let at : position_at r.feed.place r.feed.number ≡ Some position = sym c.position_of.ensures ∙ c.in_ok-position.was in
    record {
      told = tt;
      over = λ fault is. absurd (c.in_default.not-Faulty fault (same_some position _ (sym at ∙ is)));
      none = (refl, λ ms rest stands. no_page r position ms rest at (λ fits. absurd (let yes = c.fits_page.ensures.1 fits in let no = c.if-not-fits_page.true in cc)) stands);
      no_feed = λ is. refl;
      no_page = λ other is faultless bad. refl;
    }

pub returns-in_default-fault_at_end : goal.returns-in_default-fault_at_end
returns-in_default-fault_at_end c =
    let r = c.args.stream.now in
    let position = c.in_ok-position.position in
    let at : position_at r.feed.place r.feed.number ≡ Some position = sym c.position_of.ensures ∙ c.in_ok-position.was in
    let feed = c.in_ok-feed.feed in
    let faultless : feed_fault feed ≡ None = c.in_ok-feed.ensures.fault ∙ faultless_at position c.in_default.not-Faulty in
    record {
      told = λ ms rest stands.
          let fed : FeedStands feed ms rest = stands_at r.feed position feed ms rest at c.in_ok-feed.ensures.stands stands.each stands.feed in
          (sym (c.fault_at_end.ensures all ms rest fed faultless stands.holds.progress) ∙ none_by c.fault_at_end.result c.in_default-fault_at_end.not-Some, refl);
      over = λ fault is. absurd (c.in_default.not-Faulty fault (same_some position _ (sym at ∙ is)));
      none = tt;
      no_feed = λ is. absurd (let e : Some position ≡ None = sym at ∙ is in cc);
      no_page = λ other is faultless bad. absurd (bad (subst (λ p. FitsPage r p) (same_some position other (sym at ∙ is)) (c.fits_page.ensures.0 c.if-not-fits_page.false)));
    }

pub returns : goal.returns
returns c =
    let r = c.args.stream.now in
    let position = c.in_ok-position.position in
    let at : position_at r.feed.place r.feed.number ≡ Some position = sym c.position_of.ensures ∙ c.in_ok-position.was in
    let feed = c.in_ok-feed.feed in
    let faultless : feed_fault feed ≡ None = c.in_ok-feed.ensures.fault ∙ faultless_at position c.in_default.not-Faulty in
    record {
      told = λ ms rest stands.
          let fed : FeedStands feed ms rest = stands_at r.feed position feed ms rest at c.in_ok-feed.ensures.stands stands.each stands.feed in
          (sym (c.fault_at_end.ensures all ms rest fed faultless stands.holds.progress) ∙ c.in-Some.is, c.feed_at-stream.ensures.position, refl);
      over = λ fault is. absurd (c.in_default.not-Faulty fault (same_some position _ (sym at ∙ is)));
      none = tt;
      no_feed = λ is. absurd (let e : Some position ≡ None = sym at ∙ is in cc);
      no_page = λ other is faultless bad. absurd (bad (subst (λ p. FitsPage r p) (same_some position other (sym at ∙ is)) (c.fits_page.ensures.0 c.if-not-fits_page.false)));
    }

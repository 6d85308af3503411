use Rattle.std.proofs.Common.{◌≡◌, ◌∙◌, ap, length, min, sym, subst, refl, Some, None}
use Rattle.lfi_frame.specs.Feeds.{awaited_at}
use Rattle.lfi_stream.specs.Numbers.{position_at, FitsPage}
use Rattle.lfi_stream.proofs.Told.{same_some, stands_at, no_page}
use Rattle.lfi_stream.proofs.stream.next.Goals as goal

pub returns-then-not-fits_page : goal.returns-then-not-fits_page
returns-then-not-fits_page c =
    let r = c.args.stream.now in
    let position = c.in_ok-position.position in
    let at : position_at r.feed.place r.feed.number ≡ Some position = sym c.position_of.ensures ∙ c.in_ok-position.was in
    record {
      told = tt;
      used = tt;
      within = tt;
      moves = tt;
      code = tt;
      over = λ fault is. absurd (c.in_default.not-Faulty fault (same_some position _ (sym at ∙ is)));
      none = (refl, λ ms rest stands. no_page r position ms rest at (λ fits. absurd (let yes = c.fits_page.ensures.1 fits in let no = c.if-not-fits_page.true in cc)) stands);
      no_feed = λ is. refl;
      no_page = λ other is faultless bad. refl;
    }

pub returns : goal.returns
returns c =
    let r = c.args.stream.now in
    let position = c.in_ok-position.position in
    let at : position_at r.feed.place r.feed.number ≡ Some position = sym c.position_of.ensures ∙ c.in_ok-position.was in
    record {
      told = λ ms rest stands. c.go_on.ensures.told ms rest (stands_at r.feed position c.in_ok-feed.feed ms rest at c.in_ok-feed.ensures.stands stands.each stands.feed) stands.holds;
      used = λ other is.
          c.go_on.ensures.used ∙ ap (λ n. min n (length c.args.piece.now)) (c.in_ok-feed.ensures.awaits ∙ ap awaited_at (same_some position other (sym at ∙ is)));
      within = c.go_on.ensures.within;
      moves = λ rest inside some. c.go_on.ensures.moves some;
      code = c.go_on.ensures.code;
      over = λ fault is. absurd (c.in_default.not-Faulty fault (same_some position _ (sym at ∙ is)));
      none = tt;
      no_feed = λ is. absurd (let e : Some position ≡ None = sym at ∙ is in cc);
      no_page = λ other is faultless bad. absurd (bad (subst (λ p. FitsPage r p) (same_some position other (sym at ∙ is)) (c.fits_page.ensures.0 c.if-not-fits_page.false)));
    }

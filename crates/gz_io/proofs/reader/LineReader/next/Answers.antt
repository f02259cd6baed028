use Rattle.std.proofs.Common.{ap, Ok, sym, ◌∙◌}
use Rattle.gz_io.proofs.Plain.{plain_no_feed, too_long_shows, not_ascii_shows, only_too_long, only_not_ascii}
use Rattle.gz_io.proofs.Once.{only_answer}
use Rattle.gz_io.proofs.Reading.{line_bytes, next_bytes, stays_too_long, stays_not_ascii}
use Rattle.gz_io.proofs.reader.LineReader.next.Goals as goal

pub returns-in-Ok-clause-bytes : goal.returns-in-Ok-clause-bytes
returns-in-Ok-clause-bytes g c =
    next_bytes _ _ _ _ _ c.in-Ok.found _ c.in-Ok.ensures.known (λ e. c.in-Ok.ensures.end (ap (λ f. Ok f) e))
    c.give_found-in-Ok.ensures

pub returns-in-Ok-clause-takes_late : goal.returns-in-Ok-clause-takes_late
returns-in-Ok-clause-takes_late g c = λ h. (c.in-Ok.ensures.shown (plain_no_feed _ h)).1

pub returns-in-Ok-clause-stays_too_long : goal.returns-in-Ok-clause-stays_too_long
returns-in-Ok-clause-stays_too_long g c = λ h.
    let s = c.in-Ok.ensures.shown (too_long_shows _ h) in
    let k = stays_too_long _ _ _ _ _ s.2 c.in-Ok.ensures.found c.give_found-in-Ok.ensures h in (k.0, s.1, k.1)

pub returns-in-Ok-clause-stays_not_ascii : goal.returns-in-Ok-clause-stays_not_ascii
returns-in-Ok-clause-stays_not_ascii g c = λ h.
    let s = c.in-Ok.ensures.shown (not_ascii_shows _ h) in
    let k = stays_not_ascii _ _ _ _ _ s.2 c.in-Ok.ensures.found c.give_found-in-Ok.ensures h in (k.0, s.1, k.1)

pub returns-in-Err-clause-takes_late : goal.returns-in-Err-clause-takes_late
returns-in-Err-clause-takes_late g c = λ h. absurd (let e = (c.in-Err.ensures.shown (plain_no_feed _ h)).0 in cc e)

pub returns-in-Err-clause-stays_not_ascii : goal.returns-in-Err-clause-stays_not_ascii
returns-in-Err-clause-stays_not_ascii g c =
    λ h. absurd (let e = (c.in-Err.ensures.shown (not_ascii_shows _ h)).0 in cc e)

pub returns-in-Ok-clause-exact : goal.returns-in-Ok-clause-exact
returns-in-Ok-clause-exact g c =
    only_answer _ _ _ _ (next_bytes _ _ _ _ _ c.in-Ok.found _ c.in-Ok.ensures.known
    (λ e. c.in-Ok.ensures.end (ap (λ f. Ok f) e)) c.give_found-in-Ok.ensures)

pub returns-in-Line-clause-exact : goal.returns-in-Line-clause-exact
returns-in-Line-clause-exact g c = only_answer _ _ _ _ (line_bytes (g.S.Source.left c.args.source.now) c.args.self.now _
    c.found-found.result _ _ c.in-Line.is c.give_found.ensures)

pub returns-in-Line-clause-stays_too_long : goal.returns-in-Line-clause-stays_too_long
returns-in-Line-clause-stays_too_long g c = λ h.
    absurd (let e = sym c.in-Line.is ∙ only_too_long _ c.found-found.result c.found-found.ensures h in cc e)

pub returns-in-Line-clause-stays_not_ascii : goal.returns-in-Line-clause-stays_not_ascii
returns-in-Line-clause-stays_not_ascii g c = λ h.
    absurd (let e = sym c.in-Line.is ∙ only_not_ascii _ c.found-found.result c.found-found.ensures h in cc e)

use Rattle.std.proofs.Common.{ap, subst}
use Rattle.gz_io.specs.Finding.{Finds}
use Rattle.gz_io.specs.declared.find.Found.TheVariants as found
use Rattle.gz_io.proofs.Plain.{plain_no_feed}
use Rattle.gz_io.proofs.reader.LineReader.has_line.Goals as goal

pub returns-in-More : goal.returns-in-More
returns-in-More c =
    let held = c.args.self.now.held in
    let kept : Finds held c.self.inside.found =
    subst (λ xs. Finds xs c.self.inside.found) (ap (λ k. k.held) c.self.view_is) c.self.invariant.3 in
    let more : Finds held found.More = subst (Finds held) c.in-More.is kept in
    (λ h. absurd (cc h), λ h. absurd (plain_no_feed held h more))

use Rattle.std.proofs.Common.{refl, subst, sym}
use Rattle.gz_io.specs.Finding.{Finds, GivesFound}
use Rattle.gz_io.specs.declared.reader.Next.TheVariants as next
use Rattle.gz_io.proofs.Plain.{too_long, not_ascii}
use Rattle.gz_io.proofs.reader.LineReader.give_found.Goals as goal

pub returns-in-TooLong : goal.returns-in-TooLong
returns-in-TooLong c =
    let k = c.args.self.now in
    subst (λ f. GivesFound f k k next.TooLong) (sym c.in-TooLong.is) (
      refl,
      refl,
      too_long k.held (subst
          (λ f. Finds k.held f) c.in-TooLong.is c.requires),
    )

pub returns-in-NotAscii : goal.returns-in-NotAscii
returns-in-NotAscii c =
    let k = c.args.self.now in
    subst (λ f. GivesFound f k k next.NotAscii) (sym c.in-NotAscii.is) (
      refl,
      refl,
      not_ascii k.held (subst
          (λ f. Finds k.held f) c.in-NotAscii.is c.requires),
    )

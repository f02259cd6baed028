-- What a call for the next line answers, by what was found.
use Rattle.std.proofs.Common.{◌≡◌, ℕ, List, [], ◌∷◌, ◌++◌, refl, ap, sym, subst, ◌∙◌, append_assoc, Option, Some, None}
use Rattle.std.proofs.Common.{inl}
use Rattle.std.proofs.lemmas.List.{append-nil}
use Rattle.std.specs.Io.KnownBytes.{Keeps, IsAtEnd, prepend_known}
use Rattle.gz_io.specs.Kept.{Kept}
use Rattle.gz_io.specs.Lines.{IsTooLong, IsNotAscii, Gives, GivesKnown}
use Rattle.gz_io.specs.Finding.{Finds, GivesFound}
use Rattle.gz_io.specs.declared.reader.Next.{Next}
use Rattle.gz_io.specs.declared.reader.Next.TheVariants as next
use Rattle.gz_io.specs.declared.find.Found.{Found}
use Rattle.gz_io.specs.declared.find.Found.TheVariants as found
use Rattle.gz_io.proofs.Plain.{only_too_long, only_not_ascii}

pub longer_too_long : (xs ys : List ℕ) → IsTooLong xs → IsTooLong (xs ++ ys)
longer_too_long xs ys h =
    record {
      line = h.line;
      byte = h.byte;
      rest = h.rest ++ ys;
      bytes = ap (λ t. t ++ ys) h.bytes
          ∙ append_assoc h.line (h.byte ∷ h.rest) ys;
      plain = h.plain;
      size = h.size;
      goes_on = h.goes_on;
    }

pub longer_not_ascii : (xs ys : List ℕ) → IsNotAscii xs → IsNotAscii (xs ++ ys)
longer_not_ascii xs ys h =
    record {
      line = h.line;
      byte = h.byte;
      rest = h.rest ++ ys;
      bytes = ap (λ t. t ++ ys) h.bytes
          ∙ append_assoc h.line (h.byte ∷ h.rest) ys;
      plain = h.plain;
      size = h.size;
      high = h.high;
    }

gives_bytes : (all ys : List ℕ) (mid new : Kept) (f : Found) (result : Next) → mid.held ++ ys ≡ all
    → (f ≡ found.More → ys ≡ []) → GivesFound f mid new result → Gives all (new.held ++ ys) result new.line
gives_bytes all ys mid new (found.Line n) result k e g =
    subst (λ r. Gives all (new.held ++ ys) r new.line) (sym g.0)
    (g.1, g.2, g.3, inl (sym k ∙ ap (λ t. t ++ ys) g.4 ∙ append_assoc new.line (10 ∷ new.held) ys))
gives_bytes all ys mid new found.TooLong result k e g =
    subst (λ r. Gives all (new.held ++ ys) r new.line) (sym g.0) (
      ap (λ t. t.held ++ ys) g.1
          ∙ k,
      subst IsTooLong k (longer_too_long mid.held ys g.2),
    )
gives_bytes all ys mid new found.NotAscii result k e g =
    subst (λ r. Gives all (new.held ++ ys) r new.line) (sym g.0) (
      ap (λ t. t.held ++ ys) g.1
          ∙ k,
      subst IsNotAscii k (longer_not_ascii mid.held ys g.2),
    )
gives_bytes all ys mid new found.More result k e g =
    let none : ys ≡ [] = e refl in
    let first : mid.held ≡ all = sym (append-nil mid.held) ∙ ap (λ t. mid.held ++ t) (sym none) ∙ k in
    let last : new.held ≡ new.held ++ ys = sym (append-nil new.held) ∙ ap (λ t. new.held ++ t) (sym none) in
    subst (λ t. Gives all t result new.line) last (subst (λ t. Gives t new.held result new.line) first g.0)

pub next_bytes : (a b : Option (List ℕ)) (h : List ℕ) (mid new : Kept) (f : Found) (result : Next)
    → Keeps (prepend_known h a) (prepend_known mid.held b) → (f ≡ found.More → IsAtEnd b) → GivesFound f mid new result
    → GivesKnown (prepend_known h a) (prepend_known new.held b) result new.line
next_bytes None b h mid new f result k e g = tt
next_bytes (Some xs) None h mid new f result k e g = absurd k
next_bytes (Some xs) (Some ys) h mid new f result k e g = gives_bytes (h ++ xs) ys mid new f result k e g

-- where a whole line is held, nothing is taken
pub line_bytes : (a : Option (List ℕ)) (old new : Kept) (f : Found) (result : Next) (n : ℕ) → f ≡ found.Line n
    → GivesFound f old new result → GivesKnown (prepend_known old.held a) (prepend_known new.held a) result new.line
line_bytes None old new f result n e g = tt
line_bytes (Some ys) old new f result n e g =
    gives_bytes (old.held ++ ys) ys old new f result refl (λ m. absurd (let d = sym e ∙ m in cc d)) g

pub fault_bytes : (a b : Option (List ℕ)) (line : List ℕ) → Keeps a b → GivesKnown a b next.ReadFault line
fault_bytes None b line k = tt
fault_bytes (Some xs) None line k = absurd k
fault_bytes (Some xs) (Some ys) line k = k

pub stays_too_long : (old mid new : Kept) (f : Found) (r : Next) → mid ≡ old → Finds mid.held f → GivesFound f mid new r
    → IsTooLong old.held → (r ≡ next.TooLong) × (new ≡ old)
stays_too_long old mid new f r m h g t =
    let is : f ≡ found.TooLong = only_too_long mid.held f h (subst (λ k. IsTooLong k.held) (sym m) t) in
    let known : GivesFound found.TooLong mid new r = subst (λ f. GivesFound f mid new r) is g in
    (known.0, known.1 ∙ m)

pub stays_not_ascii : (old mid new : Kept) (f : Found) (r : Next) → mid ≡ old → Finds mid.held f
    → GivesFound f mid new r → IsNotAscii old.held → (r ≡ next.NotAscii) × (new ≡ old)
stays_not_ascii old mid new f r m h g t =
    let is : f ≡ found.NotAscii = only_not_ascii mid.held f h (subst (λ k. IsNotAscii k.held) (sym m) t) in
    let known : GivesFound found.NotAscii mid new r = subst (λ f. GivesFound f mid new r) is g in
    (known.0, known.1 ∙ m)

use Rattle.std.proofs.Common.{◌≡◌, ◌+◌, ◌-◌, ◌∷◌, ◌++◌, List, ℕ, take, drop, ap, sym, ◌∙◌, arith}
use Rattle.std.proofs.lemmas.List.{length-take}
use Rattle.gz_io.proofs.Buffer.{given_up}
use Rattle.judge.proofs.lines.Lines.add_held.Goals as goal

pub returns-in_ok-extend_from_slice-in-Some : goal.returns-in_ok-extend_from_slice-in-Some
returns-in_ok-extend_from_slice-in-Some c =
    let r = c.self.inside in
    let n = c.in-Some.length in
    let held : List ℕ = take (r.end - r.from) (drop r.from r.piece) in
    let some = c.in-Some.ensures.some in
    let whole : n - 0 ≡ n = omega arith in (
      take n held,
      some.1,
      sym c.self.view_is ∙ some.2
          ∙ ap (λ (t : List ℕ). take n held ++ 10 ∷ t) (sym (given_up r.piece r.from r.end (n + 1) (omega
          (arith, some.0, c.self.invariant.0, length-take (r.end - r.from) (drop r.from r.piece))))),
      cc (c.in_ok-extend_from_slice-in-Some.ensures.items),
    )

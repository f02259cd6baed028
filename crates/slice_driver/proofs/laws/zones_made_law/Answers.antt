use Rattle.std.proofs.Common.{◌≡◌, ℕ, ◌<◌, length, ◌∙◌, subst, sym}
use Rattle.colour_defs.proofs.ZoneSets.{zones_in-has}
use Rattle.slice_driver.proofs.abstraction.Phases.{placed_in}
use Rattle.slice_driver.proofs.laws.zones_made_law.Goals as goal

pub returns : goal.returns
returns c = λ d flown w zones stands.
    let lies = (placed_in d flown w stands).lies in
    let same : length d.heap.shape.states ≡ w.graph.zones = sym (sym lies.part.part.zones ∙ lies.shown.zones_are) in (
      λ made z has. subst (λ (n : ℕ). z < n) same (made z ((zones_in-has zones z).0 has)),
      λ made z has. subst (λ (n : ℕ). z < n) (sym same) (made z ((zones_in-has zones z).1 has)),
    )

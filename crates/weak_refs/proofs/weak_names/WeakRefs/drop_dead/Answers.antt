use Rattle.std.proofs.Common.{◌≡◌, ◌∙◌, ap, sym, map, filter, not}
use Rattle.gz_names.specs.declared.numbers.Place.{Place}
use Rattle.weak_refs.specs.declared.weak_names.WeakRefs.TheInside.{Inside}
use Rattle.weak_refs.specs.WeakNames.{unless_dead, without_dead}
use Rattle.weak_refs.proofs.Dropping.{none_dead}
use Rattle.weak_refs.proofs.weak_names.WeakRefs.drop_dead.Goals as goal
use Rattle.weak_refs.proofs.weak_names.WeakRefs.drop_dead.Goals.{then-self, else-self}

pub returns : goal.returns
returns g c = λ is_dead says.
    let slots_are : c.if-self.self-inside.slots ≡ map (unless_dead is_dead) c.self.inside.slots =
    elim c.if-self.branch [
      | then-self w ↦ ap (λ (x : Inside). x.slots) w.self-inside-is ∙ w.empty_dead.ensures is_dead says
      | else-self w ↦ ap (λ (x : Inside). x.slots) w.self-inside-is ∙ (c.self.invariant w.if-self.false
          ∙ (none_dead is_dead 64 ∙ ap (map (unless_dead is_dead)) (sym (c.self.invariant w.if-self.false))))
    ] in
    let watched_same : c.if-self.self-inside.watched.keys ≡ c.self.inside.watched.keys = elim c.if-self.branch [
      | then-self w ↦ ap (λ (x : Inside). x.watched.keys) w.self-inside-is
      | else-self w ↦ ap (λ (x : Inside). x.watched.keys) w.self-inside-is
    ] in
    let watched_are : c.unwatch_dead.new.watched.keys
    ≡ filter (λ place. not (is_dead place)) c.self.inside.watched.keys =
    c.unwatch_dead.ensures is_dead says ∙ ap (filter (λ (place : Place). not (is_dead place))) watched_same in
    let both : record { slots = c.if-self.self-inside.slots; watched = c.unwatch_dead.new.watched.keys }
    ≡ without_dead is_dead (record { slots = c.self.inside.slots; watched = c.self.inside.watched.keys }) =
    λ i. record { slots = slots_are i; watched = watched_are i } in
    both ∙ ap (without_dead is_dead) c.self.view_is

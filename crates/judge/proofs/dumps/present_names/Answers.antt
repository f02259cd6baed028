use Rattle.std.proofs.Common.{List, subst, sym}
use Rattle.std.specs.Prelude.{⊤}
use Rattle.std.specs.Map.Iter.{deref_pair}
use Rattle.std.proofs.lemmas.Map.Iter.{rest_all, rest_more}
use Rattle.gz_names.specs.declared.names.Name.{Name}
use Rattle.judge.specs.Cells.{HasCell}
use Rattle.judge.proofs.Colours.{PicksOn, picked_are, picks_more, picks_start}
use Rattle.judge.proofs.Found.{lists_as}
use Rattle.judge.proofs.dumps.present_names.Goals as goal

pub loop-name-init : goal.loop-name-init
loop-name-init c =
    picks_start (λ x. ⊤) c.args.world.now.places.entries _ _ c.into_iter-name-iterator.ensures.into_iter_gives.0
    c.new-names.ensures.items

pub loop-name-preserved : goal.loop-name-preserved
loop-name-preserved c =
    subst (λ (ns : List Name). PicksOn (λ x. ⊤) c.args.world.now.places.entries c.next.new.self ns)
    (sym c.in_ok-push.ensures.items)
    (picks_more (λ x. ⊤) c.args.world.now.places.entries c.loop-name.name-iterator c.next.new.self _
    c.loop-name.names.items (rest_more deref_pair _ _ _ _ c.in-Some.is c.next.ensures.steps) tt c.loop-name.invariant)

pub returns : goal.returns
returns c =
    let cells = c.args.world.now.places in
    lists_as (λ x. HasCell cells x × ⊤) (HasCell cells) c.loop-name.names.items (λ x h. h.0) (λ x h. (h, tt))
    (picked_are cells c.loop-name.name-iterator (λ x. ⊤) c.loop-name.names.items
    c.into_iter-name-iterator.ensures.into_iter_gives.5
    (rest_all deref_pair _ _ _ c.in-None.is c.next.ensures.steps) c.loop-name.invariant)

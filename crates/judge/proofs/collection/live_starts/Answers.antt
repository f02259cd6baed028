use Rattle.std.proofs.Common.{◌⊎◌, ◌∙◌, ◌++◌, ap}
use Rattle.std.proofs.lemmas.Result.{IfOk-weaker}
use Rattle.gz_names.specs.Zones.{zones_in}
use Rattle.judge.specs.Starts.{IsInRegister, IsInSlot, IsOutside}
use Rattle.judge.proofs.Starts.{list_joined}
use Rattle.judge.proofs.collection.live_starts.Goals as goal

pub returns : goal.returns
returns c =
    let g = c.args.graph.now in
    let held = c.in_ok-held.held.items in
    let gray = c.in_ok-gray.gray.items in
    let both = c.in_ok-both.both.items in
    let others = c.in_ok-others.others.items in
    let first = list_joined held gray both (IsInRegister g) (IsInSlot g)
    (c.in_ok-both.ensures ∙ ap (λ ns. held ++ ns) c.as_slice.ensures.value) c.in_ok-held.ensures c.in_ok-gray.ensures in
    IfOk-weaker c.joined-2.result _ _ (λ names e. list_joined both others names.items
    (λ x. IsInRegister g x ⊎ IsInSlot g x) (IsOutside g (zones_in c.args.zones) c.args.places.now)
    (e ∙ ap (λ ns. both ++ ns) c.as_slice-2.ensures.value) first c.in_ok-others.ensures) c.joined-2.ensures

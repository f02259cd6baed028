use Rattle.std.proofs.Common.{◌↔◌, ◌⊎◌, Contains, subst, List}
use Rattle.std.proofs.lemmas.Result.{IfOk-weaker}
use Rattle.gz_names.specs.declared.names.Name.{Name}
use Rattle.colour_defs.specs.Closure.{Closure}
use Rattle.colour_defs.specs.Ends.{Lists}
use Rattle.spec_replay.specs.Reached.{IsInRegister, IsInSlotsBelow, IsRoot}
use Rattle.spec_replay.proofs.Starts.{cells_alone, cells_both, lists_alike}
use Rattle.spec_replay.proofs.reached.live_names.Goals as goal

pub returns : goal.returns
returns c =
    let some = c.push_registers.new.starts.items in
    let starts = c.push_slots.new.starts.items in
    let held = subst (λ (old : List Name). (x : Name) → Contains some x
    ↔ (Contains old x ⊎ IsInRegister c.args.graph.now x))
    c.new-starts.ensures.items c.in_ok-push_registers.ensures in
    let both = cells_both (IsInRegister c.args.graph.now) (IsInSlotsBelow 64 c.args.graph.now) some starts
    (cells_alone (IsInRegister c.args.graph.now) some held) c.in_ok-push_slots.ensures in
    IfOk-weaker c.names_from.result
    (λ names. Lists (Closure c.args.graph.now (Contains c.as_slice.result.now)) names.items)
    (λ names. Lists (Closure c.args.graph.now (IsRoot c.args.graph.now)) names.items) (λ names l.
    lists_alike c.args.graph.now (Contains starts) (IsRoot c.args.graph.now) both names.items
    (subst (λ (xs : List Name). Lists (Closure c.args.graph.now (Contains xs)) names.items) c.as_slice.ensures.value l))
    c.names_from.ensures

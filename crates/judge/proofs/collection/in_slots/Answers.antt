use Rattle.std.proofs.Common.{◌≡◌, ◌∙◌, ℕ, ◌+◌, [], subst, sym, arith}
use Rattle.colour_defs.specs.Graph.{slot_cell}
use Rattle.judge.specs.Starts.{IsListOf}
use Rattle.judge.proofs.Starts.{IsHeldBelow, held_none, held_push, held_skip, list_as}
use Rattle.judge.proofs.collection.in_slots.Goals as goal

pub loop-index-init : goal.loop-index-init
loop-index-init c =
    list_as [] c.new-names.result.items (IsHeldBelow (slot_cell c.args.graph.now) 0) c.new-names.ensures.items
    (held_none (slot_cell c.args.graph.now))

pub loop-index-preserved-in_default : goal.loop-index-preserved-in_default
loop-index-preserved-in_default c =
    held_skip (slot_cell c.args.graph.now) c.loop-index.index c.loop-index.names.items
    (λ y e. c.in_default.not-Some y (c.slot_at.ensures ∙ e)) c.loop-index.invariant

pub loop-index-preserved : goal.loop-index-preserved
loop-index-preserved c =
    list_as _ c.push.new.self.items (IsHeldBelow (slot_cell c.args.graph.now) (c.loop-index.index + 1))
    c.in_ok-push.ensures.items
    (held_push (slot_cell c.args.graph.now) c.loop-index.index c.in-Some.name c.loop-index.names.items
    (sym c.in-Some.ensures) c.loop-index.invariant)

pub returns : goal.returns
returns c =
    let done : c.loop-index.index ≡ 64 = omega arith in
    subst (λ (n : ℕ). IsListOf c.loop-index.names.items (IsHeldBelow (slot_cell c.args.graph.now) n)) done
    c.loop-index.invariant

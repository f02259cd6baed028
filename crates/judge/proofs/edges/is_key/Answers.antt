use Rattle.std.proofs.Common.{◌≡◌, ℕ, ◌≤◌, inr, List, length, take, Contains, Some, refl, subst, arith}
use Rattle.std.proofs.lemmas.List.{take_all}
use Rattle.gz_names.specs.declared.names.Name.{Name}
use Rattle.colour_defs.specs.Graph.{GraphState, value_of}
use Rattle.plain_graph.specs.Reach.{Waits}
use Rattle.judge.specs.Cells.{Cells}
use Rattle.judge.specs.Edges.{IsKeyOf}
use Rattle.judge.proofs.ZoneEdges.{NoneSoFar, key_of, none_more, none_start}
use Rattle.judge.proofs.edges.is_key.Goals as goal

none_all : (g : GraphState) (cells : Cells) (key : Name) (pairs : List (Name × Name)) (i : ℕ) → length pairs ≤ i
    → ((m k v : Name) → value_of g m k ≡ Some v → Waits key m k → Contains pairs (m, k))
    → NoneSoFar g cells key (take i pairs) → IsKeyOf g cells key → ⊥
none_all g cells key pairs i le all so (m, v, found, present) =
    let none : NoneSoFar g cells key pairs = subst (λ ps. NoneSoFar g cells key ps) (take_all i pairs le) so in
    none (m, key) (all m key v found (inr refl))
    (record { key_is = refl; value = v; found = found; present = present })

pub loop-pair-init : goal.loop-pair-init
loop-pair-init c = none_start c.args.graph.now c.args.places.now c.args.name

pub loop-pair-preserved : goal.loop-pair-preserved
loop-pair-preserved c =
    none_more c.args.graph.now c.args.places.now c.args.name c.waiting_for-pair-items.result.now
    c.loop-pair.pair-index _ c.loop-pair-test.true
    (λ is. let t = c.is_entry_of.ensures.1 is in cc (t, c.if-is_entry_of.false)) c.loop-pair.invariant

pub returns-then-is_entry_of : goal.returns-then-is_entry_of
returns-then-is_entry_of c = (
  λ t. key_of c.args.graph.now c.args.places.now _ c.args.name (c.is_entry_of.ensures.0 c.if-is_entry_of.true),
  λ is. refl,
)

pub returns : goal.returns
returns c = (
  λ t. absurd (cc t),
  λ is. absurd (none_all c.args.graph.now c.args.places.now c.args.name c.waiting_for-pair-items.result.now
      c.loop-pair.pair-index (omega arith) c.waiting_for-pair-items.ensures c.loop-pair.invariant is),
)

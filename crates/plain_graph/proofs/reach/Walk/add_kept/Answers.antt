use Rattle.std.proofs.Common.{◌≡◌, ◌∙◌, inl, inr, List, Contains, Some, true, arith, subst, sym}
use Rattle.std.proofs.lemmas.Grind.{common_steps}
use Rattle.std.proofs.lemmas.Result.{on_ok_weaker}
use Rattle.gz_names.specs.declared.names.Name.{Name}
use Rattle.gz_names.specs.declared.names.Name.TheVariants.{Cell, Wrap}
use Rattle.colour_defs.specs.Graph.{GraphState, value_of}
use Rattle.colour_defs.specs.Closure.{Closure, delegate}
use Rattle.plain_graph.specs.Reach.{Adds, AreReached, HasDelegateIn, IsAt, Keeps}
use Rattle.plain_graph.proofs.Walks.{keeps_value}
use Rattle.plain_graph.proofs.reach.Walk.add_kept.Goals as goal

key_reached : (g : GraphState) (starts names : List Name) (m k v : Name) → AreReached g starts names
    → value_of g m k ≡ Some v → Contains names m → HasDelegateIn names k → Closure g (Contains starts) k
key_reached g starts names m (Cell n) v r at cm d = absurd d
key_reached g starts names m (Wrap c t) v r at cm d = delegate at (r m cm) (r (Cell t) d)

keeps_key : (g : GraphState) (map key value : Name) (old new : List Name) → value_of g map key ≡ Some value
    → Contains old map → (Contains old key → ⊥) → HasDelegateIn old key → Adds old new (λ x. key ≡ x)
    → Keeps g (IsAt map key) old new
keeps_key g map key value old new at cm none d a = record {
  extends = a.extends;
  values = λ m k v is e dm dk. absurd (none (subst (λ z. Contains old z) (sym is.1) dk));
  keys = λ m k v is e dm dd. a.all k is.1;
  sound = λ starts r x c. elim (a.only x c) [
    | inl o ↦ r x o
    | inr e ↦ subst (λ z. Closure g (Contains starts) z) e (key_reached g starts old map key value r at cm d)
  ];
}

pub returns-then-contains-clause-kept : goal.returns-then-contains-clause-kept
returns-then-contains-clause-kept c =
    let old = c.args.self.now.names in
    let at : value_of c.args.graph.now c.args.pair.0 c.args.pair.1 ≡ Some c.in-Some.value =
    sym c.value_of.ensures ∙ c.in-Some.is in
    let has_map : c.contains.result ≡ true = grind (arith, common_steps) in
    on_ok_weaker c.add.result (λ a. keeps_value c.args.graph.now c.args.pair.0 c.args.pair.1 c.in-Some.value old
    c.add.new.self.names at (c.contains.ensures.0 has_map) (c.contains-2.ensures.0 c.if-contains.true) a)
    c.add.ensures.added

pub returns-then-has_delegate-clause-kept : goal.returns-then-has_delegate-clause-kept
returns-then-has_delegate-clause-kept c =
    let old = c.args.self.now.names in
    let at : value_of c.args.graph.now c.args.pair.0 c.args.pair.1 ≡ Some c.in-Some.value =
    sym c.value_of.ensures ∙ c.in-Some.is in
    let has_map : c.contains.result ≡ true = grind (arith, common_steps) in
    let no_key : Contains old c.args.pair.1 → ⊥ = λ h. cc (c.if-contains.false, c.contains-2.ensures.1 h) in
    on_ok_weaker c.add-then-has_delegate.result (λ a. keeps_key c.args.graph.now c.args.pair.0 c.args.pair.1
    c.in-Some.value old c.add-then-has_delegate.new.self.names at (c.contains.ensures.0 has_map) no_key
    (c.has_delegate.ensures.0 c.if-has_delegate.true) a) c.add-then-has_delegate.ensures.added

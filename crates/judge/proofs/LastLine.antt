-- The last line of a lawful slice is no wrong one: its units keep the bound.
use Rattle.std.proofs.Common.{◌≡◌, ◌∙◌, inl, inr, ℕ, ◌≤◌, Bool, true, false, List, [], Option, Some, None}
use Rattle.std.proofs.Common.{is_some, refl, ap, subst, arith}
use Rattle.gz_names.specs.declared.replies.Report.{Report}
use Rattle.colour_defs.specs.Graph.{GraphState}
use Rattle.colour_defs.specs.Lawful.{HasTally, IsOver as IsOverIn, with_spent, with_spent_preparing}
use Rattle.colour_defs.specs.Units.{MeetsUnitBound, Tally, unit_limit}
use Rattle.colour_defs.specs.World.{Collection, IsIdle, Preparation, World}
use Rattle.judge.specs.Bounds.{with_units}
use Rattle.judge.specs.Positions.{EndsUnits, HasCounted, IsNumberOf, StandsIn}
use Rattle.judge.specs.Replies.{IsLast, IsWithin}
use Rattle.judge.specs.Represents.{IsAtStage}
use Rattle.judge.specs.Stages.{CountsAs, KeepsBound, Shown, Stage, collecting, idle, is_prepared, preparing}
use Rattle.judge.proofs.Idling.{idle_shown, over_world}

prepared_at : (s : Shown) (w : World) (t : Stage) → IsAtStage t s w → is_some w.preparing ≡ is_prepared t
prepared_at s w idle at = ap is_some at.idle.none_preparing
prepared_at s w (preparing zones) at = ap is_some at.preparing_is
prepared_at s w (collecting zones marking groups) at = ap is_some at.alone

tally_at : (s : Shown) (w : World) (tally : Tally) (t : Stage) → IsAtStage t s w → is_prepared t ≡ true
    → HasTally w tally → (tally.arenas ≡ s.tally.arenas) × (tally.spent ≡ s.tally.spent)
tally_at s w tally idle at e has = absurd (cc e)
tally_at s w tally (preparing zones) at e (inl k) = absurd (let none = at.alone in cc (none, k.1))
tally_at s w tally (preparing zones) at e (inr p) =
    let same : p.0 ≡ at.preparation = cc (p.1, at.preparing_is) in (
      ap (λ (t : Tally). t.arenas) p.2 ∙ ap (λ (q : Preparation). q.arenas) same ∙ at.arenas_are,
      ap (λ (t : Tally). t.spent) p.2 ∙ ap (λ (q : Preparation). q.spent) same ∙ at.spent_is,
    )
tally_at s w tally (collecting zones marking groups) at e has = absurd (cc e)

keeps_bound : (g : GraphState) (s : Shown) (w : World) (tally : Tally) (so_far : List Report) (k : ℕ) → StandsIn g s w
    → HasCounted s w tally so_far → MeetsUnitBound (is_some w.preparing) tally so_far k → KeepsBound s k
keeps_bound g s w tally so_far k stands counted meets t reports =
    go (is_prepared s.stage) refl
    (subst (λ b. MeetsUnitBound b tally so_far k) (prepared_at s w s.stage stands.represents.stage_is) meets)
  where
    go : (b : Bool) → is_prepared s.stage ≡ b → MeetsUnitBound b tally so_far k → CountsAs b s.tally t reports
        → MeetsUnitBound b t reports k
    go true e m c =
        let at = tally_at s w tally s.stage stands.represents.stage_is e (counted.prepared e).1 in
        omega (arith, m, at.0, at.1, c.0, c.1)
    go false e m c =
        let mine = counted.begun e in
        omega (
          arith,
          m,
          ap unit_limit mine,
          ap (λ (u : Tally). u.spent) mine,
          ap unit_limit c,
          ap (λ (u : Tally). u.spent) c,
        )

-- the stage after the units is that before them
spent_idle : (w : World) (k : ℕ) → IsIdle (record w {
  preparing = with_spent_preparing k w.preparing;
  collection = with_spent k w.collection;
}) → IsIdle w
spent_idle w k rest = record {
  none_running = collection w.collection rest.none_running;
  none_preparing = preparation w.preparing rest.none_preparing;
}
  where
    collection : (o : Option Collection) → with_spent k o ≡ None → o ≡ None
    collection None e = refl
    collection (Some c) e = absurd (cc e)

    preparation : (o : Option Preparation) → with_spent_preparing k o ≡ None → o ≡ None
    preparation None e = refl
    preparation (Some p) e = absurd (cc e)

within_of : (most : Option ℕ) (k : ℕ) (s : Shown) (v : World) → (IsIdle v → s.stage ≡ idle) → IsNumberOf most k v
    → IsWithin most k s.stage
within_of None k s v rest number = rest number
within_of (Some n) k s v rest number = (number.0, λ less. rest (number.1 less))

-- what is left is the last line, and the judge would take it
pub right_last : (g : GraphState) (s : Shown) (w : World) (most : Option ℕ) (collects : Bool) (reports k : ℕ)
    (tally : Tally) (so_far : List Report) (last : List ℕ) (next : World) → StandsIn g s w → s.told ≡ []
    → (collects ≡ false → HasCounted s w tally so_far) → reports ≤ k → (IsOverIn w → ⊥)
    → EndsUnits collects most tally so_far k w last next
    → ((new : Shown) → IsLast most collects reports s last new → ⊥) → ⊥
right_last g s w most true reports k tally so_far last next stands none counted enough not_over ends wrong =
    wrong s (ends.last_is, idle_shown stands.represents ends.idle, refl, none)
right_last g s w most false reports k tally so_far last next stands none counted enough not_over ends wrong =
    wrong (record s { tally = with_units k s.tally }) (record {
      number = k;
      small = ends.small;
      line_is = ends.last_is;
      enough = enough;
      none_told = none;
      not_over = λ over. not_over (over_world stands.represents over);
      within = within_of most k s next (λ rest. idle_shown stands.represents (spent_idle w k
          (subst IsIdle ends.next_is rest))) ends.number;
      spends = record {
        within = keeps_bound g s w tally so_far k stands (counted refl) ends.within;
        new_is = refl;
      };
    })

-- What turns black where a collection is given up.
use Rattle.std.proofs.Common.{◌≡◌, ◌↔◌, ◌∙◌, inl, inr, List, [], ◌∷◌, Option, Some, None, sym, subst}
use Rattle.std.specs.BTreeSet.{BTreeSet}
use Rattle.gz_names.specs.Zones.{zones_in}
use Rattle.gz_names.specs.declared.names.Name.{Name}
use Rattle.gz_names.specs.declared.zone_sets.ZoneSet.{ZoneSet}
use Rattle.colour_defs.specs.Graph.{GraphState, IsInZones}
use Rattle.plain_graph.specs.Reach.{IsDone, WalkState}
use Rattle.judge.specs.Cells.{Cells, HasCell}
use Rattle.judge.specs.Sound.{IsSound}
use Rattle.judge.specs.Stages.{BlackensRest, HasGroups, IsBlackSoFar, IsOver, Shown, Stage, collecting, groups_in}
use Rattle.judge.specs.Stages.{stage_of, unfinished_in}
use Rattle.judge.specs.Starts.{IsListOf}
use Rattle.judge.specs.Walks.{CatchUp, CatchesUp, IsBlackBy, IsFoundBlack, IsLeftBlack, TurnsBlack, Walks, left_out_of}
use Rattle.judge.specs.Walks.{walks_in, walks_of}
use Rattle.judge.specs.declared.world.Phase.{Phase}
use Rattle.judge.specs.declared.world.Phase.TheVariants as phase
use Rattle.judge.proofs.Found.{black_is}

-- no arena is out, and what collects, if anything does, is not over
pub record IsUnderway (g : GraphState) (s : Shown) : Type 0 where
  pub sound : IsSound g s
  pub none_out : s.out ≡ []
  pub not_over : IsOver s → ⊥

-- what is shown is of a phase, and what was woken was followed since
pub record HasCaughtUp (s : Shown) (old new : Phase) : Type 0 where
  pub stage_was : s.stage ≡ stage_of old
  pub left_was : s.left_out ≡ left_out_of old
  pub walks_were : s.walks ≡ walks_of old
  pub stage : stage_of new ≡ stage_of old
  pub left_out : left_out_of new ≡ left_out_of old
  pub walks : CatchUp s.former.graph (walks_of old) (walks_of new)

-- so groups are left, where zones mark or are swept
groups_left : (s : Shown) (zones marking : ZoneSet) (groups : Option (List ZoneSet))
    → s.stage ≡ collecting zones marking groups → s.out ≡ [] → (IsOver s → ⊥) → HasGroups s.stage
groups_left s zones marking None at none over = subst HasGroups (sym at) tt
groups_left s zones marking (Some []) at none over =
    absurd (over (record { zones = zones; marking = marking; ended = at; none_out = none }))
groups_left s zones marking (Some (group ∷ rest)) at none over = subst HasGroups (sym at) tt

black_so_far : (g : GraphState) (s : Shown) (old new : Phase) → IsUnderway g s → HasCaughtUp s old new → (x : Name)
    → IsBlackBy new s.black x ↔ IsBlackSoFar (stage_of old) s x
black_so_far g s phase.Idle phase.Idle u c x = (λ h. h, λ h. h)
black_so_far g s phase.Idle (phase.Preparing q) u c x = absurd (let e = c.stage in cc e)
black_so_far g s phase.Idle (phase.Collecting l) u c x = absurd (let e = c.stage in cc e)
black_so_far g s (phase.Preparing p) phase.Idle u c x = absurd (let e = c.stage in cc e)
black_so_far g s (phase.Preparing p) (phase.Preparing q) u c x =
    let same : Some q.black ≡ s.left_out = c.left_out ∙ sym c.left_was in (
      λ h. subst (λ (o : Option (BTreeSet Name)). IsLeftBlack o x) same h,
      λ h. subst (λ (o : Option (BTreeSet Name)). IsLeftBlack o x) (sym same) h,
    )
black_so_far g s (phase.Preparing p) (phase.Collecting l) u c x = absurd (let e = c.stage in cc e)
black_so_far g s (phase.Collecting k) phase.Idle u c x = absurd (let e = c.stage in cc e)
black_so_far g s (phase.Collecting k) (phase.Preparing q) u c x = absurd (let e = c.stage in cc e)
black_so_far g s (phase.Collecting k) (phase.Collecting l) u c x =
    let (after, is, caught) = c.walks in
    let same : after ≡ walks_in l = cc is in
    let left = groups_left s k.zones k.marking (groups_in k.groups) c.stage_was u.none_out u.not_over in
    let found = u.sound.walks (walks_in k) c.walks_were left in
    let black =
    black_is s.former.graph (walks_in k) (walks_in l)
    (subst (λ (v : Walks). CatchesUp s.former.graph (walks_in k) v) same caught) found.black x in (
      λ h. (walks_in k, c.walks_were, black.0 h),
      λ (w, e, h). (let mine : w ≡ walks_in k = let were = c.walks_were in cc (e, were) in
          black.1 (subst (λ (v : Walks). IsFoundBlack s.former.graph v x) mine h)),
    )

-- what turns black then, by the phase that has followed what was woken
abbrev pub HasStarts : GraphState → Phase → Cells → WalkState → WalkState → Type 0
HasStarts g p cells black after =
    (starts : List Name) × IsListOf starts (λ x. HasCell cells x
    × TurnsBlack g (zones_in (unfinished_in (stage_of p))) p black x) × IsDone g starts after

pub blackens_rest : (g : GraphState) (s : Shown) (old new : Phase) (black : WalkState) → IsUnderway g s
    → HasCaughtUp s old new → HasStarts g new s.cells s.black black → BlackensRest g s black
blackens_rest g s old new black u c (starts, are, done) = record {
  starts = starts;
  starts_are = λ x.
      let so = black_so_far g s old new u c x in (
        λ h. let has = (are x).0 h in (
          has.0,
          elim has.1 [
            | inl of ↦ inl (subst (λ (t : Stage). IsInZones g (zones_in (unfinished_in t)) x) now of)
            | inr b ↦ inr (subst (λ (t : Stage). IsBlackSoFar t s x) (sym c.stage_was) (so.0 b))
          ],
        ),
        λ has. (are x).1 (
          has.0,
          elim has.1 [
            | inl of ↦ inl (subst (λ (t : Stage). IsInZones g (zones_in (unfinished_in t)) x) (sym now) of)
            | inr b ↦ inr (so.1 (subst (λ (t : Stage). IsBlackSoFar t s x) c.stage_was b))
          ],
        ),
      );
  done = done;
}
  where
    now : stage_of new ≡ s.stage
    now = c.stage ∙ sym c.stage_was

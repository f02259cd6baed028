-- An arena is taken in: the judge stands for the world after it.
use Rattle.std.proofs.Common.{◌≡◌, ◌↔◌, ◌∙◌, inl, inr, ℕ, ◌+◌, List, [], ◌∷◌, Contains}
use Rattle.std.proofs.Common.{refl, sym, ap, subst}
use Rattle.std.proofs.lemmas.Bool.{cases_eq}
use Rattle.std.specs.BTreeMap as tree
use Rattle.std.specs.FinMap as finite
use Rattle.gz_names.specs.declared.names.Name.{Name}
use Rattle.colour_defs.specs.Ends.{Lists}
use Rattle.colour_defs.specs.Graph.{GraphState}
use Rattle.colour_defs.specs.Lawful.{IsLawfulSweep, with_sweep as with_sweep_in}
use Rattle.colour_defs.specs.World.{Has, World}
use Rattle.colour_defs.proofs.Lists.{contains_tail, nothing_in_none}
use Rattle.plain_graph.specs.Indexed.{order_of}
use Rattle.judge.specs.Bounds.{with_sweep}
use Rattle.judge.specs.Represents.{IsAtStage, Represents}
use Rattle.judge.specs.Stages.{Shown, Stage, Sweeps, collecting, idle, preparing}
use Rattle.judge.specs.Weak.{IsWatched}
use Rattle.judge.specs.Whites.{whites_in}
use Rattle.judge.proofs.Found.{lists_as}

module _ (g : GraphState) (arena at : ℕ) (freed judged : List Name) (old new : Shown) (w v : World)
    (stands : Represents g old w) (sweeps : Sweeps old at judged new) (lawful : IsLawfulSweep w arena freed v) where
  -- it is the same arena
  same_out : at ∷ sweeps.rest ≡ arena ∷ lawful.rest
  same_out = sym sweeps.first ∙ sym stands.out_are ∙ lawful.first

  same_arena : at ≡ arena
  same_arena = cc same_out

  same_rest : sweeps.rest ≡ lawful.rest
  same_rest = cc same_out

  left : Shown
  left = record old { out = sweeps.rest; whites = new.whites; tally = with_sweep old.tally }

  stage_left : (t : Stage) → IsAtStage t old w → old.stage ≡ t
      → IsAtStage t (record old { out = sweeps.rest; whites = new.whites; tally = with_sweep old.tally }) v
  stage_left idle is e = absurd (cc (is.none_out, sweeps.first))
  stage_left (preparing zones) is e = absurd (cc (is.none_out, sweeps.first))
  stage_left (collecting zones marking groups) is e = let k = is.collection in record {
    collection = record k { tally = record k.tally { sweeps = k.tally.sweeps + 1 } };
    collection_is = ap (λ (z : World). z.collection) lawful.world_is ∙ ap with_sweep_in is.collection_is;
    alone = ap (λ (z : World). z.preparing) lawful.world_is ∙ is.alone;
    small = is.small;
    zones_are = is.zones_are;
    marking_are = is.marking_are;
    groups_are = is.groups_are;
    tally_is = ap with_sweep is.tally_is;
    none_out = λ none. absurd (cc (is.none_out none, sweeps.first));
    found = λ has. let f = is.found has in (
      f.0,
      record {
        walks_are = f.1.walks_are;
        former_is = f.1.former_is;
        black_are = f.1.black_are;
        live_are = f.1.live_are;
      },
    );
    first = is.first;
  }

  black_is : v.black ≡ w.black
  black_is = ap (λ (z : World). z.black) lawful.world_is

  -- the white cells of an arena that is still out
  waiting : (a : ℕ) → Contains sweeps.rest a
      → Lists (λ x. (slot : ℕ) × Contains v.white (x, (a, slot))) (whites_in new.whites a)
  waiting a out = elim (cases_eq at a) [
    | inl same ↦ subst (λ xs. Lists (λ x. (slot : ℕ) × Contains v.white (x, (a, slot))) xs)
        (sym (subst (λ b. whites_in new.whites b ≡ []) same sweeps.clears.here)) (record {
          ascending = tt;
          has = λ x. (
            λ c. absurd (nothing_in_none x c),
            λ h. absurd (((lawful.white_are x (a, h.0)).0 h.1).1 (sym same ∙ same_arena)),
          );
        })
    | inr other ↦ subst (λ xs. Lists (λ x. (slot : ℕ) × Contains v.white (x, (a, slot))) xs)
        (sym (sweeps.clears.others a other))
        (lists_as (λ x. (slot : ℕ) × Contains w.white (x, (a, slot)))
        (λ x. (slot : ℕ) × Contains v.white (x, (a, slot))) (whites_in old.whites a)
        (λ x h. (h.0, (lawful.white_are x (a, h.0)).1 (h.1, λ e. other (same_arena ∙ sym e))))
        (λ x h. (h.0, ((lawful.white_are x (a, h.0)).0 h.1).0))
        (stands.white_are a (subst (λ os. Contains os a) (sym sweeps.first) (contains_tail at sweeps.rest a out))))
  ]

  represents_left : Represents g
      (record old { out = sweeps.rest; whites = new.whites; tally = with_sweep old.tally }) v
  represents_left = record {
    graph_is = ap (λ (z : World). z.graph) lawful.world_is ∙ stands.graph_is;
    places_are = λ x. subst (λ (z : World). finite.get z.places x ≡ tree.get order_of old.cells x)
        (sym lawful.world_is) (stands.places_are x);
    owners_are = ap (λ (z : World). z.owner) lawful.world_is ∙ stands.owners_are;
    out_are = ap (λ (z : World). z.out) lawful.world_is ∙ sym same_rest;
    white_are = waiting;
    slots_are = ap (λ (z : World). z.weak.slots) lawful.world_is ∙ stands.slots_are;
    watched_are = λ x. subst (λ (z : World). Has z.weak.watched x ↔ IsWatched old.weak x) (sym lawful.world_is)
        (stands.watched_are x);
    black_are = λ still. let b = stands.black_are still in record {
      within = b.within;
      names_are = λ x. subst (λ bs. Has bs x ↔ Contains old.black.names x) (sym black_is) (b.names_are x);
    };
    stage_is = stage_left old.stage stands.stage_is refl;
  }

  pub represents_sweep : Represents g new v
  represents_sweep = subst (λ s. Represents g s v) (sym sweeps.new_is) represents_left

  -- and the judge has freed the same
  pub same_sweep : (at ≡ arena) × (judged ≡ whites_in old.whites at)
  same_sweep = (same_arena, sweeps.freed_are)

-- Before any line the judge stands for the first world.
use Rattle.std.proofs.Common.{◌≡◌, ◌∙◌, ℕ, [], None, Contains, ap, arith, refl, subst, sym}
use Rattle.std.specs.BTreeMap as tree
use Rattle.std.specs.FinMap as finite
use Rattle.std.specs.FinSet as set
use Rattle.std.specs.Map.{lookup}
use Rattle.std.specs.BTreeMap.{is_at}
use Rattle.gz_names.specs.Order.{name_cmp}
use Rattle.gz_names.specs.declared.names.Name.{Name}
use Rattle.colour_defs.specs.Graph.{empty_graph}
use Rattle.colour_defs.specs.World.{first_world}
use Rattle.colour_defs.proofs.Lists.{nothing_in_none}
use Rattle.colour_defs.proofs.ValidRuns.{first_valid}
use Rattle.plain_graph.specs.Indexed.{order_of}
use Rattle.plain_graph.specs.Reach.{WalkState}
use Rattle.judge.specs.Cells.{Cells}
use Rattle.judge.specs.Represents.{IsAtStage, IsBlackIn, Represents}
use Rattle.judge.specs.Stages.{IsFirst, Shown, Stage}
use Rattle.judge.proofs.LiveRuns.{first_live}
use Rattle.judge.proofs.NameSets.{sorted_has}
use Rattle.judge.proofs.Progress.{IsWhole}
use Rattle.judge.proofs.Sound.{sound_first}

no_place : (x : Name) (cells : Cells) → cells.entries ≡ [] → tree.get order_of cells x ≡ None
no_place x cells e = ap (λ es. lookup (is_at (order_of x)) es) e

pub represents_first : (s : Shown) → IsFirst s → Represents empty_graph s first_world
represents_first s f = record {
  graph_is = refl;
  places_are = λ x. finite.get-empty {X = ℕ × ℕ} name_cmp x ∙ sym (no_place x s.cells f.none_made);
  owners_are = sym f.none_owned;
  out_are = sym f.none_out;
  white_are = λ arena c. absurd (nothing_in_none arena (subst (λ os. Contains os arena) f.none_out c));
  slots_are = sym f.none_named;
  watched_are = λ x. (
    λ h. absurd (cc (h, set.contains-empty name_cmp x)),
    λ h. absurd (nothing_in_none x (subst (λ ks. Contains ks x) f.none_watched ((sorted_has s.weak.watched x).0 h))),
  );
  black_are = λ settled. subst (λ (b : WalkState). IsBlackIn b first_world) (sym f.none_black)
      (record {
        within = omega arith;
        names_are = λ x. (
          λ h. absurd (cc (h, set.contains-empty name_cmp x)),
          λ c. absurd (nothing_in_none x c),
        );
      });
  stage_is = subst (λ (u : Stage). IsAtStage u s first_world) (sym f.none_running) (record {
    idle = record { none_running = refl; none_preparing = refl };
    none_out = f.none_out;
  });
}

pub first_whole : (s : Shown) → IsFirst s → IsWhole [] empty_graph s
first_whole s f = record {
  trace = [];
  answers = [];
  world = first_world;
  lawful = record { commands = []; stand = tt; run = refl; small = tt };
  stands = record {
    stands = record {
      represents = represents_first s f;
      laws = record {
        valid = first_valid;
        live = first_live;
        registers = refl;
        slots = refl;
      };
      sound = sound_first s f;
    };
    not_over = λ o. cc o.running;
    none_told = f.none_told;
  };
  lines_are = refl;
}

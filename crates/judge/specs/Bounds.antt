-- What is counted for the bound on the units of a collection.
use Rattle.std.specs.Prelude.{◌≡◌, ◌↔◌, ℕ, ◌+◌, Bool, true, false, not, ◌&&◌, ◌||◌, List, Option, count_by}
use Rattle.std.specs.Prelude.{length, is_some, if◌then◌else◌}
use Rattle.std.specs.BTreeMap as tree
use Rattle.gz_names.specs.Zones.{zones_in}
use Rattle.gz_names.specs.declared.zone_sets.ZoneSet.{ZoneSet}
use Rattle.gz_names.specs.declared.names.Name.{Name}
use Rattle.gz_names.specs.declared.commands.GraphCmd.{GraphCmd}
use Rattle.gz_names.specs.declared.replies.Reply.{Reply}
use Rattle.gz_names.specs.declared.replies.Reply.TheVariants as reply
use Rattle.colour_defs.specs.declared.graph.Entry.{Entry}
use Rattle.colour_defs.specs.Graph.{GraphState, is_among, is_in_zones}
use Rattle.colour_defs.specs.World.{IsPresent, Preparation, World, first_tally, is_wrapper}
use Rattle.colour_defs.specs.Units.{Tally, has_delegate_in_zones, with_put}
use Rattle.plain_graph.specs.Indexed.{order_of}
use Rattle.judge.specs.Cells.{Cells, HasCell}
use Rattle.judge.specs.declared.tally.Tally.{Tally as Counts}

-- the tally of the definitions that these counts are
abbrev pub tally_of : Counts → Tally
tally_of c = record {
  arenas = c.arenas;
  cells = c.cells;
  entries = c.entries;
  outside = c.outside;
  wrappers = c.wrappers;
  zones = c.zones;
  sweeps = c.sweeps;
  spent = c.spent;
}

-- nothing is counted, but for these arenas
abbrev pub with_arenas : ℕ → Tally
with_arenas n = record {
  arenas = n;
  cells = 0;
  entries = 0;
  outside = 0;
  wrappers = 0;
  zones = 0;
  sweeps = 0;
  spent = 0;
}

-- how many arenas these zones own
abbrev pub arena_count : List ℕ → List (Option ℕ) → ℕ
arena_count zones owners = count_by (λ o. is_among zones o) owners

-- whether an entry counts for a collection of these zones
abbrev pub is_counted : GraphState → Cells → List ℕ → Entry → Bool
is_counted g cells zones e =
    (is_in_zones g zones e.map || has_delegate_in_zones g zones e.key)
    && (is_some (tree.get order_of cells e.map) && is_some (tree.get order_of cells e.key))

-- the tally as the marking of a collection of these zones begins
abbrev pub marking_tally : GraphState → List ℕ → Cells → Tally → Tally
marking_tally g zones cells t = record {
  arenas = t.arenas;
  cells = count_by (λ x. is_in_zones g zones x) (tree.keys cells);
  entries = count_by (λ e. is_counted g cells zones e) g.entries;
  outside = count_by (λ x. is_wrapper x && not (is_in_zones g zones x)) (tree.keys cells);
  wrappers = count_by (λ x. is_wrapper x && is_in_zones g zones x) (tree.keys cells);
  zones = length zones;
  sweeps = 0;
  spent = t.spent;
}

-- a world of the definitions in which a collection is prepared, for which the judge's stands as its marking begins: the
-- same graph, present cells and zones, and the same arenas and units since `gc`
pub record StandsPrepared (g : GraphState) (zones : ZoneSet) (cells : Cells) (t : Tally) (w : World) (p : Preparation)
    : Type 0 where
  pub graph_is : w.graph ≡ g
  pub present : (x : Name) → IsPresent w x ↔ HasCell cells x
  pub zones_are : p.zones ≡ zones_in zones
  pub arenas_are : p.arenas ≡ t.arenas
  pub spent_is : p.spent ≡ t.spent

-- what is counted then is what the definitions count, in each such world
abbrev pub IsFirstTally : GraphState → ZoneSet → Cells → Tally → Tally → Type 0
IsFirstTally g zones cells before t =
    (w : World) (p : Preparation) → StandsPrepared g zones cells before w p → t ≡ first_tally w p

-- these cells are counted
abbrev pub with_cells : GraphState → List ℕ → List Name → Tally → Tally
with_cells g zones xs t = record t {
  cells = t.cells + count_by (λ x. is_in_zones g zones x) xs;
  outside = t.outside + count_by (λ x. is_wrapper x && not (is_in_zones g zones x)) xs;
  wrappers = t.wrappers + count_by (λ x. is_wrapper x && is_in_zones g zones x) xs;
}

-- one arena more was swept
abbrev pub with_sweep : Tally → Tally
with_sweep t = record t { sweeps = t.sweeps + 1 }

-- this number of units was done
abbrev pub with_units : ℕ → Tally → Tally
with_units k t = record t { spent = t.spent + k }

-- what a command that was accepted counts for, if it puts an entry
abbrev pub put_if : Bool → GraphState → List ℕ → GraphCmd → Tally → Tally
put_if accepted g zones c t = if accepted then with_put g zones c t else t

-- whether a reply says that a command was accepted, and no more
abbrev pub is_accepted : Reply → Bool
is_accepted reply.Accepted = true
is_accepted r = false
